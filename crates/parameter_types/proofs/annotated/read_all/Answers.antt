use Rattle.py_types.proofs.Growth.{grows_then}
use Rattle.parameter_types.proofs.Joined.{annotated_is}
use Rattle.parameter_types.proofs.Kept.{all_written_kept, body_kept}
use Rattle.parameter_types.proofs.annotated.read_all.Goals as goal

pub annotations-requires-2 : goal.annotations-requires-2
annotations-requires-2 c = rw c.deref-2.ensures.value (all_written_kept c.args.module.now c.annotations.new.module c.annotations.ensures.grown c.types_count.ensures.«module» c.in_ok-of_constructors.of_constructors.items (c.in_ok-of_constructors.ensures {u = tt}).there).0

pub returns-clause-annotated : goal.returns-clause-annotated
returns-clause-annotated c =
    let m = c.args.module.now in
    let n = c.annotations.new.module in
    let o = c.annotations-2.new.module in
    let valid = c.types_count.ensures.«module» in
    let first = c.in_ok-functions.ensures {u = tt} in
    let second = c.in_ok-constructors.ensures {u = tt} in
    let of_functions = c.in_ok-of_functions.ensures {u = tt} in
    let of_constructors = c.in_ok-of_constructors.ensures {u = tt} in
    rw (body_kept m o (grows_then m n o c.annotations.ensures.grown c.annotations-2.ensures.grown) valid)
    (annotated_is m n o c.annotations.ensures.grown c.annotations-2.ensures.grown valid
    c.in_ok-of_functions.of_functions.items c.in_ok-of_constructors.of_constructors.items of_functions.written of_constructors.written of_constructors.there
    (record { functions = c.in_ok-functions.functions; constructors = c.in_ok-constructors.constructors }) first.there (rw c.deref.ensures.value at first.read) second.there (rw c.deref-2.ensures.value at second.read))
