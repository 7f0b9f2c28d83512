use Rattle.std.proofs.Common.{◌≡◌, ℕ, ◌+◌, ◌-◌, ◌<◌, ◌≤◌, ◌+ℤ◌, ◌*ℤ◌, Bool, false, List, [], ◌∷◌, drop, get_or, slice_get, Some, length, ℤ, pos, length-drop, arith, ap, subst, sym, ◌∙◌}
use Rattle.std.proofs.Math.IntN.{*ℤ-zero}
use Rattle.std.proofs.lemmas.Int.{ints}
use Rattle.std.proofs.lemmas.List.{append-nil, length-map}
use Rattle.bit_gates.specs.declared.lit.Gate.{Gate}
use Rattle.bit_gates.specs.declared.lit.Lit.{Lit}
use Rattle.bit_gates.specs.Formulas.{Extends, value_of}
use Rattle.bit_ints.specs.Dividing.{IsNaturalBelow}
use Rattle.bit_ints.specs.Integers.{AreBelow, integer, integer_of, values}
use Rattle.bit_ints.proofs.Digits.{below_later, grown_length, grown_more, values_kept}
use Rattle.bit_ints.proofs.Dividing.{quotient_step, top_is}
use Rattle.bit_ints.proofs.Orders.{below_get}
use Rattle.bit_ints.proofs.Rows.{masked, integer-cons, got_later}
use Rattle.bit_ints.proofs.Steps.{left_more}
use Rattle.bit_ints.proofs.Sums.{digit}
use Rattle.bit_ints.proofs.divisions.divided.Goals as goal

-- one digit more of a quotient
turn : (g0 g1 g2 : List Gate) (bits : List Bool) (a b rest quotient next more : List Lit) (j top : ℕ) (low q : Lit) → Extends g0 g1 → Extends g1 g2 → AreBelow (length g0) a → AreBelow (length g0) b → AreBelow (length g1) quotient → slice_get a j ≡ Some low → j + 1 < length a → top ≡ j + 1 → 1 ≤ length quotient → more ≡ q ∷ quotient → (IsNaturalBelow (integer_of g1 bits b) (integer_of g1 bits rest) → integer_of g2 bits next +ℤ masked (value_of g2 bits q) (integer_of g1 bits b) ≡ digit (value_of g1 bits low) +ℤ pos 2 *ℤ integer_of g1 bits rest) → IsNaturalBelow (integer_of g1 bits b) (integer_of g1 bits rest) → integer (drop top (values g0 bits a)) ≡ integer_of g0 bits b *ℤ integer_of g1 bits quotient +ℤ integer_of g1 bits rest → integer (drop j (values g0 bits a)) ≡ integer_of g0 bits b *ℤ integer_of g2 bits more +ℤ integer_of g2 bits next
turn g0 g1 g2 bits a b rest quotient next more j top low q e0 e1 ba bb bq is h top_is some more_is v below inv =
    let size = length-map a (value_of g0 bits) in
    let size_left = length-drop (j + 1) (values g0 bits a) in
    let size_quotient = length-map quotient (value_of g2 bits) in
    let d = get_or (values g0 bits a) j false in
    let kept : integer_of g1 bits b ≡ integer_of g0 bits b = ap integer (values_kept g0 g1 bits b e0 bb) in
    let low_is : value_of g1 bits low ≡ d = got_later g0 g1 bits a j low e0 ba is in
    let left : integer (drop j (values g0 bits a)) ≡ digit d +ℤ pos 2 *ℤ integer (drop top (values g0 bits a)) =
    ap integer (left_more g0 bits a j (omega arith)) ∙ integer-cons d (drop (j + 1) (values g0 bits a)) (omega arith) ∙ ap (λ i. digit d +ℤ pos 2 *ℤ integer (drop i (values g0 bits a))) (sym top_is) in
    let step : integer_of g2 bits next +ℤ masked (value_of g2 bits q) (integer_of g0 bits b) ≡ digit d +ℤ pos 2 *ℤ integer_of g1 bits rest =
    ap (λ z. integer_of g2 bits next +ℤ masked (value_of g2 bits q) z) (sym kept) ∙ v below ∙ ap (λ x. digit x +ℤ pos 2 *ℤ integer_of g1 bits rest) low_is in
    let more_int : integer_of g2 bits more ≡ digit (value_of g2 bits q) +ℤ pos 2 *ℤ integer_of g1 bits quotient =
    ap (integer_of g2 bits) more_is ∙ integer-cons (value_of g2 bits q) (values g2 bits quotient) (omega arith) ∙ ap (λ vs. digit (value_of g2 bits q) +ℤ pos 2 *ℤ integer vs) (values_kept g1 g2 bits quotient e1 bq) in
    quotient_step (value_of g2 bits q) d (integer_of g0 bits b) (integer_of g1 bits quotient) (integer_of g2 bits more) (integer_of g1 bits rest) (integer_of g2 bits next) (integer (drop top (values g0 bits a))) (integer (drop j (values g0 bits a))) inv left step more_int

-- no digit is settled and nothing remains
start : (t b q r : ℤ) → t ≡ pos 0 → q ≡ pos 0 → r ≡ pos 0 → t ≡ b *ℤ q +ℤ r
start t b q r e f g = let none = ap (λ z. b *ℤ z) f ∙ *ℤ-zero b in omega (arith, ints, none)

-- a divisor of an older arena
below_kept : (g0 g1 : List Gate) (bits : List Bool) (b : List Lit) (r : ℤ) → Extends g0 g1 → AreBelow (length g0) b → IsNaturalBelow (integer_of g0 bits b) r → IsNaturalBelow (integer_of g1 bits b) r
below_kept g0 g1 bits b r e bb h = subst (λ (z : ℤ). IsNaturalBelow z r) (sym (ap integer (values_kept g0 g1 bits b e bb))) h

-- the same back
below_back : (g0 g1 : List Gate) (bits : List Bool) (b : List Lit) (r : ℤ) → Extends g0 g1 → AreBelow (length g0) b → IsNaturalBelow (integer_of g1 bits b) r → IsNaturalBelow (integer_of g0 bits b) r
below_back g0 g1 bits b r e bb h = subst (λ (z : ℤ). IsNaturalBelow z r) (ap integer (values_kept g0 g1 bits b e bb)) h

pub loop-i-init : goal.loop-i-init
loop-i-init c =
    record {
      quotient_size = omega (arith, c.in_ok-quotient.ensures.width);
      some = omega (arith, c.in_ok-rest.ensures.width);
      few = omega (arith, c.in_ok-rest.ensures.width);
      grown = record { more = []; is = sym (append-nil c.args.g.now.gates) };
      inputs = cc;
      quotient_below = c.in_ok-quotient.ensures.below;
      rest_below = c.in_ok-rest.ensures.below;
      value = λ bits. λ h. λ p.
          let size = length-map c.args.a.now (value_of c.args.g.now.gates bits) in
          start _ _ _ _ (top_is (c.len-last.result - 1 - 0) (values c.args.g.now.gates bits c.args.a.now) (omega (arith, c.len-last.ensures.digits, c.len-last.ensures.some)) h) (c.in_ok-quotient.ensures.value bits) (c.in_ok-rest.ensures.value bits);
      remainder = λ bits. λ h. λ p.
          let none = c.in_ok-rest.ensures.value bits in
          (omega (arith, ints, none), omega (arith, ints, none, p));
    }

pub division_step-requires-clause-divisor : goal.division_step-requires-clause-divisor
division_step-requires-clause-divisor c = below_later _ _ _ c.requires.right (grown_length _ _ c.loop-i.invariant.grown)

pub division_step-requires-clause-low : goal.division_step-requires-clause-low
division_step-requires-clause-low c =
    let place = below_get _ _ _ _ c.requires.left c.lit.ensures in
    let longer = grown_length _ _ c.loop-i.invariant.grown in
    omega (arith, place, longer)

pub loop-i-preserved : goal.loop-i-preserved
loop-i-preserved c =
    let grown = c.in_ok-digit.ensures.grown in
    let below = c.in_ok-digit.ensures.below in
    let early = c.loop-i.invariant.grown in
    let j = c.len-last.result - 1 - (c.loop-i.i + 1) in
    let place : c.len-last.result - 1 - 1 - c.loop-i.i ≡ j = omega arith in
    let lit : slice_get c.args.a.now j ≡ Some c.lit.result = rw (← place) c.lit.ensures in
    record {
      quotient_size = omega (arith, ap length c.in_ok-more.ensures);
      some = omega (arith, c.in_ok-digit.ensures.width);
      few = omega (arith, c.in_ok-digit.ensures.width);
      grown = grown_more _ _ _ early grown;
      inputs = cc;
      quotient_below = rw c.in_ok-more.ensures (below.0, below_later _ _ _ c.loop-i.invariant.quotient_below (grown_length _ _ grown));
      rest_below = below.1;
      value = λ bits. λ h. λ p.
          turn c.args.g.now.gates c.loop-i.g.gates c.division_step.new.g.gates bits c.args.a.now c.args.b.now c.loop-i.rest c.loop-i.quotient c.in_ok-digit.next c.in_ok-more.more j (c.len-last.result - 1 - c.loop-i.i) c.lit.result c.in_ok-digit.digit early grown c.requires.left c.requires.right c.loop-i.invariant.quotient_below lit (omega (arith, c.len-last.ensures.digits, c.loop-i-test.true)) (omega arith) (omega (arith, c.loop-i.invariant.quotient_size)) c.in_ok-more.ensures (c.in_ok-digit.ensures.value bits) (below_kept _ _ bits c.args.b.now _ early c.requires.right (c.loop-i.invariant.remainder bits h p)) (c.loop-i.invariant.value bits h p);
      remainder = λ bits. λ h. λ p. below_back _ _ bits c.args.b.now _ early c.requires.right (c.in_ok-digit.ensures.next bits (below_kept _ _ bits c.args.b.now _ early c.requires.right (c.loop-i.invariant.remainder bits h p)));
    }

pub returns-clause-value : goal.returns-clause-value
returns-clause-value c = λ bits. λ h. λ p.
    let none : c.len-last.result - 1 - c.loop-i.i ≡ 0 = omega arith in
    rw none at (c.loop-i.invariant.value bits h p)
