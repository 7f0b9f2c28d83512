use Rattle.std.proofs.Common.{refl, ◌≡◌, suc, ◌+◌, ◌-◌, length, false, arith}
use Rattle.bit_ints.proofs.Digits.{extended_push}
use Rattle.bit_ints.proofs.lists.extended.Goals as goal

pub loop-place-init : goal.loop-place-init
loop-place-init c =
    let none : length c.args.lits.now - length c.args.lits.now ≡ 0 = omega arith in
    rw (c.in_ok-extend_from_slice.ensures.items, c.new-longer.ensures.items, none) refl

pub loop-place-preserved : goal.loop-place-preserved
loop-place-preserved c =
    let more : c.loop-place._place + 1 - length c.args.lits.now ≡ suc (c.loop-place._place - length c.args.lits.now) = omega arith in
    rw (c.in_ok-push.ensures.items, c.loop-place.invariant, more) (extended_push (c.loop-place._place - length c.args.lits.now) c.args.lits.now (record { place = 0; positive = false }) c.requires.some)

pub returns : goal.returns
returns c =
    let end : c.loop-place._place ≡ c.args.n = omega arith in
    rw (← end) c.loop-place.invariant
