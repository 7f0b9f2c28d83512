use Rattle.std.proofs.Common.{◌≡◌, ◌++◌, List, subst}
use Rattle.py_tree.specs.declared.ids.StmtId.{StmtId}
use Rattle.py_lines.proofs.Turns.{no_form}
use Rattle.py_parser.proofs.Modules.{built_have, tops_tree, tops_kept, has_module}
use Rattle.py_parser.proofs.reading.whole.Goals as goal

pub returns-clause-parsed : goal.returns-clause-parsed
returns-clause-parsed c ps h =
    let b = c.in-Ok.ensures.read ps h in
    rw b.1 (tops_tree _ _ _ c.in-Ok.ensures.built.valid b.0 (tops_kept _ _ _ c.in-Ok.ensures.built c.requires.tops) (subst (λ (v : List StmtId). c.push_tops.new.into ≡ record c.build.new.into { tops = c.build.new.into.tops ++ v }) c.deref.ensures.value c.in_ok-push_tops.ensures))

pub returns-in-Err-NoForm-clause-parsed : goal.returns-in-Err-NoForm-clause-parsed
returns-in-Err-NoForm-clause-parsed c ps h = absurd (has_module ps (c.requires.there ps h) (no_form _ _ (c.in-Err-NoForm.ensures.read ps h) c.in-Err-NoForm.field-0-is))

pub returns-clause-extents : goal.returns-clause-extents
returns-clause-extents c = rw c.in_ok-push_tops.ensures (built_have _ _ _ c.requires.plain c.in-Ok.ensures.built)
