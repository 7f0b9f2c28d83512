use Rattle.std.proofs.Common.{◌≡◌, ◌+◌, ◌-◌, ◌<◌, suc, drop, sym, arith, ◌∙◌}
use Rattle.std.proofs.lemmas.Result.{err_from_is_err_and}
use Rattle.py_types.proofs.Growth.{grows_then}
use Rattle.py_types.proofs.Later.{type_read, types_then}
use Rattle.py_types.proofs.Turns.{no_type, type_stuck, members_stuck, type_whole, atom_named, atom_leaf, members_turn, members_end, member_stuck, members_out, arguments_turn, arguments_end, arguments_no_comma, argument_stuck, arguments_out, fails_on}
use Rattle.py_types.proofs.descent.+descent.Goals as goal

pub whole-returns-then-room-eq0-clause-read : goal.whole-returns-then-room-eq0-clause-read
whole-returns-then-room-eq0-clause-read t c = no_type _ _ c.if-room-eq0.true

pub whole-returns-in_err-first-clause-read : goal.whole-returns-in_err-first-clause-read
whole-returns-in_err-first-clause-read t c =
    let lt : 0 < c.args.room = omega arith in
    let p = err_from_is_err_and c.from_residual.result c.from_residual.ensures.1 in
    rw (p.1, p.2) (fails_on _ _ _ c.in_err-first.ensures.read (λ n. type_stuck _ _ lt n))

pub whole-returns-in_err-rest-clause-read : goal.whole-returns-in_err-rest-clause-read
whole-returns-in_err-rest-clause-read t c =
    let lt : 0 < c.args.room = omega arith in
    let p = err_from_is_err_and c.from_residual-in_err-rest.result c.from_residual-in_err-rest.ensures.1 in
    rw (p.1, p.2) (fails_on _ _ _ c.in_err-rest.ensures.read (λ n. members_stuck _ _ _ _ lt c.in_ok-first.ensures.read.1 n))

pub whole-returns-clause-read : goal.whole-returns-clause-read
whole-returns-clause-read t c =
    let lt : 0 < c.args.room = omega arith in
    let a = type_read _ _ c.in_ok-rest.ensures.grown c.in_ok-first.ensures.grown.valid _ _ _ c.in_ok-first.ensures.read in
    (c.in_ok-joined.ensures.there, rw c.in_ok-joined.ensures.tree (type_whole _ _ _ _ _ _ _ lt a.1 c.line.ensures c.in_ok-rest.ensures.read.1))

pub members-list-preserved : goal.members-list-preserved
members-list-preserved t c =
    let k : c.args.room - c.list.counter ≡ suc (c.args.room - (c.list.counter + 1)) = omega arith in
    let l = types_then _ _ c.in_ok-item.ensures.grown c.list.invariant.grown.valid _ _ _ c.list.invariant.here c.in_ok-item.ensures.read.0 c.in_ok-push.ensures.items in
    record {
      grown = grows_then _ _ _ c.list.invariant.grown c.in_ok-item.ensures.grown;
      here = l.0;
      read = rw l.1 (sym (members_turn _ _ _ _ _ _ _ _ k c.in-Some.ensures c.in_ok-item.ensures.read.1) ∙ c.list.invariant.read);
    }

pub members-returns-in_default-clause-read : goal.members-returns-in_default-clause-read
members-returns-in_default-clause-read t c =
    let k : c.args.room - c.list.counter ≡ suc (c.args.room - (c.list.counter + 1)) = omega arith in
    (c.list.invariant.here, sym c.list.invariant.read ∙ members_end _ _ _ _ _ k c.in_default.ensures)

pub members-returns-in_err-item-clause-read : goal.members-returns-in_err-item-clause-read
members-returns-in_err-item-clause-read t c =
    let k : c.args.room - c.list.counter ≡ suc (c.args.room - (c.list.counter + 1)) = omega arith in
    let p = err_from_is_err_and c.from_residual.result c.from_residual.ensures.1 in
    rw (p.1, p.2) (fails_on _ _ _ c.in_err-item.ensures.read (λ n. sym c.list.invariant.read ∙ member_stuck _ _ _ _ _ _ k c.in-Some.ensures n))

pub members-returns-clause-read : goal.members-returns-clause-read
members-returns-clause-read t c =
    let z : c.args.room - c.list.counter ≡ 0 = omega arith in
    sym c.list.invariant.read ∙ members_out _ _ _ _ z

pub atom-returns-in-Some-clause-read : goal.atom-returns-in-Some-clause-read
atom-returns-in-Some-clause-read t c = rw (atom_named c.args.room c.line.result _ (drop c.args.pos c.args.words.now) _ c.in-Some.ensures c.line.ensures) c.named.ensures.read

pub atom-returns-clause-read : goal.atom-returns-clause-read
atom-returns-clause-read t c = rw (atom_leaf c.args.room (drop c.args.pos c.args.words.now) c.in_default.ensures) c.leaf.ensures.read

pub arguments-list-preserved : goal.arguments-list-preserved
arguments-list-preserved t c =
    let k : c.args.room - c.list.counter ≡ suc (c.args.room - (c.list.counter + 1)) = omega arith in
    let l = types_then _ _ c.in_ok-item.ensures.grown c.list.invariant.grown.valid _ _ _ c.list.invariant.here c.in_ok-item.ensures.read.0 c.in_ok-push-2.ensures.items in
    record {
      grown = grows_then _ _ _ c.list.invariant.grown c.in_ok-item.ensures.grown;
      here = l.0;
      read = rw l.1 (sym (arguments_turn _ _ _ _ _ _ _ _ k c.in_default.ensures c.in-Some-sign.ensures c.in_ok-item.ensures.read.1) ∙ c.list.invariant.read);
    }

pub arguments-returns-in-Some-clause-read : goal.arguments-returns-in-Some-clause-read
arguments-returns-in-Some-clause-read t c =
    let k : c.args.room - c.list.counter ≡ suc (c.args.room - (c.list.counter + 1)) = omega arith in
    (c.list.invariant.here, sym c.list.invariant.read ∙ arguments_end _ _ _ _ _ _ k c.in-Some.ensures)

pub arguments-returns-in_default-sign-clause-read : goal.arguments-returns-in_default-sign-clause-read
arguments-returns-in_default-sign-clause-read t c =
    let k : c.args.room - c.list.counter ≡ suc (c.args.room - (c.list.counter + 1)) = omega arith in
    sym c.list.invariant.read ∙ arguments_no_comma _ _ _ _ _ k c.in_default.ensures c.in_default-sign.ensures

pub arguments-returns-in_err-item-clause-read : goal.arguments-returns-in_err-item-clause-read
arguments-returns-in_err-item-clause-read t c =
    let k : c.args.room - c.list.counter ≡ suc (c.args.room - (c.list.counter + 1)) = omega arith in
    let p = err_from_is_err_and c.from_residual-in_err-item.result c.from_residual-in_err-item.ensures.1 in
    rw (p.1, p.2) (fails_on _ _ _ c.in_err-item.ensures.read (λ n. sym c.list.invariant.read ∙ argument_stuck _ _ _ _ _ _ k c.in_default.ensures c.in-Some-sign.ensures n))

pub arguments-returns-clause-read : goal.arguments-returns-clause-read
arguments-returns-clause-read t c =
    let z : c.args.room - c.list.counter ≡ 0 = omega arith in
    sym c.list.invariant.read ∙ arguments_out _ _ _ _ z
