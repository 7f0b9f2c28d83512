use Rattle.std.proofs.Common.{◌∙◌, sym}
use Rattle.module_members.proofs.Spelling.{behind_front, other_front, spelled_by}
use Rattle.module_members.proofs.main_test.is_joined.Goals as goal

pub returns-in-Some : goal.returns-in-Some
returns-in-Some c =
    let cut = rw c.as_slice.ensures at c.in-Some.ensures.cases in
    c.are_spelled.ensures ∙ rw cut.1 (sym (behind_front c.args.first.now.value c.args.word.now (spelled_by c.args.rest.now) cut.0))

pub returns-in-None : goal.returns-in-None
returns-in-None c =
    let cut = rw c.as_slice.ensures at c.in-None.ensures.cases in
    sym (other_front c.args.first.now.value c.args.word.now (spelled_by c.args.rest.now) cut)
