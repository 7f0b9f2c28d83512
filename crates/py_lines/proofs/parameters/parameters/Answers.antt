use Rattle.std.proofs.Common.{◌≡◌, ◌+◌, ◌-◌, suc, sym, arith, ◌∙◌}
use Rattle.std.proofs.lemmas.Result.{err_from_is_err_and}
use Rattle.py_statements.proofs.Growth.{grows_then}
use Rattle.py_lines.proofs.Later.{parameters_then}
use Rattle.py_lines.proofs.Turns.{enough_room, parameters_turn, parameters_end, parameters_last, parameters_no_comma, parameters_stuck, parameters_out, fails_on}
use Rattle.py_lines.proofs.parameters.parameters.Goals as goal

pub list-preserved : goal.list-preserved
list-preserved c =
    let k : c.room_behind-room.result - c.list.counter ≡ suc (c.room_behind-room.result - (c.list.counter + 1)) = omega arith in
    let l = parameters_then _ _ c.in_ok-item.ensures.grown c.list.invariant.grown.valid _ _ _ c.list.invariant.here c.in_ok-item.ensures.read.0 c.in_ok-push.ensures.items in
    record {
      grown = grows_then _ _ _ c.list.invariant.grown c.in_ok-item.ensures.grown;
      here = l.0;
      read = rw l.1 (sym (parameters_turn _ _ _ _ _ _ _ k c.in_default.ensures c.in_ok-item.ensures.read.1 c.in_default-sign.ensures c.in-Some-sign-2.ensures) ∙ c.list.invariant.read);
    }

pub returns-in-Some-clause-read : goal.returns-in-Some-clause-read
returns-in-Some-clause-read c =
    let k : c.room_behind-room.result - c.list.counter ≡ suc (c.room_behind-room.result - (c.list.counter + 1)) = omega arith in
    let e = enough_room _ _ c.room_behind-room.ensures in
    (c.list.invariant.here, e ∙ sym c.list.invariant.read ∙ parameters_end _ _ _ _ _ k c.in-Some.ensures)

pub returns-in-Some-sign-clause-read : goal.returns-in-Some-sign-clause-read
returns-in-Some-sign-clause-read c =
    let k : c.room_behind-room.result - c.list.counter ≡ suc (c.room_behind-room.result - (c.list.counter + 1)) = omega arith in
    let e = enough_room _ _ c.room_behind-room.ensures in
    let l = parameters_then _ _ c.in_ok-item.ensures.grown c.list.invariant.grown.valid _ _ _ c.list.invariant.here c.in_ok-item.ensures.read.0 c.in_ok-push.ensures.items in
    (l.0, rw l.1 (e ∙ sym c.list.invariant.read ∙ parameters_last _ _ _ _ _ _ _ k c.in_default.ensures c.in_ok-item.ensures.read.1 c.in-Some-sign.ensures))

pub returns-in_default-sign-2-clause-read : goal.returns-in_default-sign-2-clause-read
returns-in_default-sign-2-clause-read c =
    let k : c.room_behind-room.result - c.list.counter ≡ suc (c.room_behind-room.result - (c.list.counter + 1)) = omega arith in
    let e = enough_room _ _ c.room_behind-room.ensures in
    e ∙ sym c.list.invariant.read ∙ parameters_no_comma _ _ _ _ _ _ k c.in_default.ensures c.in_ok-item.ensures.read.1 c.in_default-sign.ensures c.in_default-sign-2.ensures

pub returns-in_err-item-clause-read : goal.returns-in_err-item-clause-read
returns-in_err-item-clause-read c =
    let k : c.room_behind-room.result - c.list.counter ≡ suc (c.room_behind-room.result - (c.list.counter + 1)) = omega arith in
    let e = enough_room _ _ c.room_behind-room.ensures in
    let p = err_from_is_err_and c.from_residual.result c.from_residual.ensures.1 in
    rw (p.1, p.2) (fails_on _ _ _ c.in_err-item.ensures.read (λ n. e ∙ sym c.list.invariant.read ∙ parameters_stuck _ _ _ _ k c.in_default.ensures n))

pub returns-clause-read : goal.returns-clause-read
returns-clause-read c =
    let z : c.room_behind-room.result - c.list.counter ≡ 0 = omega arith in
    let e = enough_room _ _ c.room_behind-room.ensures in
    e ∙ sym c.list.invariant.read ∙ parameters_out _ _ _ z

pub returns-in_err-item-clause-grown : goal.returns-in_err-item-clause-grown
returns-in_err-item-clause-grown c = grows_then _ _ _ c.list.invariant.grown c.parameter.ensures.grown

pub returns-in_err-push-clause-grown : goal.returns-in_err-push-clause-grown
returns-in_err-push-clause-grown c = grows_then _ _ _ c.list.invariant.grown c.parameter.ensures.grown

pub returns-in-Some-sign-clause-grown : goal.returns-in-Some-sign-clause-grown
returns-in-Some-sign-clause-grown c = grows_then _ _ _ c.list.invariant.grown c.parameter.ensures.grown

pub returns-in_default-sign-2-clause-grown : goal.returns-in_default-sign-2-clause-grown
returns-in_default-sign-2-clause-grown c = grows_then _ _ _ c.list.invariant.grown c.parameter.ensures.grown
