use Rattle.std.proofs.Common.{◌≡◌, ◌||◌, ◌∙◌}
use Rattle.std.proofs.lemmas.List.{length-set}
use Rattle.py_profile.proofs.Below.{name_below}
use Rattle.py_profile.proofs.Listed.{no_name, repeated_more, told_before, told_there}
use Rattle.py_profile.proofs.doubles.are_repeated.Goals as goal
use Rattle.py_profile.proofs.doubles.are_repeated.Goals.{then-contains, else-contains}

pub contains-requires : goal.contains-requires
contains-requires c = rw c.loop-name.invariant.1 (name_below _ c.args.names.now c.loop-name.name-index no_name c.requires.there c.loop-name-test.true)

pub insert-requires : goal.insert-requires
insert-requires c = rw c.loop-name.invariant.1 (name_below _ c.args.names.now c.loop-name.name-index no_name c.requires.there c.loop-name-test.true)

pub loop-name-preserved : goal.loop-name-preserved
loop-name-preserved c =
    let told : c.if-contains.is_repeated ≡ (c.loop-name.is_repeated || c.contains.result) = elim c.if-contains.branch [
      | then-contains w ↦ told_there c.loop-name.is_repeated _ _ w.if-contains.true w.is_repeated-is
      | else-contains w ↦ told_before c.loop-name.is_repeated _ _ w.if-contains.false w.is_repeated-is
    ] in
    let below = name_below _ c.args.names.now c.loop-name.name-index no_name c.requires.there c.loop-name-test.true in
    rw c.insert.ensures (
      λ xs e. repeated_more c.args.module.now.names c.args.names.now xs c.loop-name.earlier c.loop-name.is_repeated c.loop-name.name-index (c.loop-name.invariant.0 xs e) no_name c.contains.result c.if-contains.is_repeated c.names_count.ensures.«module».distinct c.loop-name-test.true below c.contains.ensures told,
      length-set c.loop-name.earlier _ _ ∙ c.loop-name.invariant.1,
    )
