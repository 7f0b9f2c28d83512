use Rattle.std.proofs.Common.{length-append, ◌∷◌, [], false, arith, length, ◌<◌, ◌∙◌}
use Rattle.std.proofs.lemmas.List.{length-map}
use Rattle.bit_gates.specs.Formulas.{value_of}
use Rattle.bit_gates.proofs.Arenas.{value_kept}
use Rattle.bit_ints.specs.Integers.{values}
use Rattle.bit_ints.proofs.Digits.{below_at, below_later, below_push, grown_length, grown_more}
use Rattle.bit_ints.proofs.Halves.{either, zip-either, zip_end}
use Rattle.bit_ints.proofs.Steps.{zip_turn}
use Rattle.bit_ints.proofs.shifts.chosen.Goals as goal

pub chosen_digit-requires-clause-yes : goal.chosen_digit-requires-clause-yes
chosen_digit-requires-clause-yes c = omega (arith, grown_length _ _ c.loop-i.invariant.grown, below_at _ c.args.yes.now c.loop-i.i (record { place = 0; positive = false }) c.requires.yes c.loop-i-test.true)

pub chosen_digit-requires-clause-no : goal.chosen_digit-requires-clause-no
chosen_digit-requires-clause-no c =
    let h : c.loop-i.i < length c.args.no.now = omega arith in
    omega (arith, grown_length _ _ c.loop-i.invariant.grown, below_at _ c.args.no.now c.loop-i.i (record { place = 0; positive = false }) c.requires.no h)

pub loop-i-preserved : goal.loop-i-preserved
loop-i-preserved c =
    let grown = c.in_ok-digit.ensures.grown in
    record {
      size = rw c.in_ok-push.ensures.items (omega (arith, length-append c.loop-i.digits.items (c.in_ok-digit.digit ∷ [])));
      grown = grown_more _ _ _ c.loop-i.invariant.grown grown;
      inputs = cc;
      below = rw c.in_ok-push.ensures.items (below_push _ _ _ (below_later _ _ _ c.loop-i.invariant.below (grown_length _ _ grown)) c.in_ok-digit.ensures.below);
      value = λ bits.
          let by = value_kept _ _ bits c.args.by c.loop-i.invariant.grown c.requires.by in
          let v = rw by at (c.in_ok-digit.ensures.value bits) in
          zip_turn (either (value_of c.args.g.now.gates bits c.args.by)) _ _ _ bits _ _ _ _ c.loop-i.i _ _ _ _ c.loop-i.invariant.grown grown c.requires.yes c.requires.no c.loop-i.invariant.below c.loop-i-test.true (omega arith) c.in_ok-push.ensures.items v (c.loop-i.invariant.value bits);
    }

pub returns-clause-value : goal.returns-clause-value
returns-clause-value c = λ bits.
    let s = value_of c.args.g.now.gates bits c.args.by in
    let size = length-map c.args.yes.now (value_of c.args.g.now.gates bits) in
    let size_no = length-map c.args.no.now (value_of c.args.g.now.gates bits) in
    let yes = values c.args.g.now.gates bits c.args.yes.now in
    let no = values c.args.g.now.gates bits c.args.no.now in
    zip_end (either s) yes no _ _ c.loop-i.i (omega arith) (c.loop-i.invariant.value bits) ∙ zip-either s yes no (omega arith)
