use Rattle.std.proofs.Common.{◌≡◌, ℕ, suc, ◌-◌, ◌+ℤ◌, ◌-ℤ◌, ◌*ℤ◌, ◌≤◌, min, Bool, not, List, ◌∷◌, take, length, ℤ, pos, int_lt, if◌then◌else◌, arith, ap, subst, sym, ◌∙◌}
use Rattle.std.proofs.lemmas.List.{length-map, take-map}
use Rattle.bit_gates.specs.declared.lit.Gate.{Gate}
use Rattle.bit_gates.specs.declared.lit.Lit.{Lit}
use Rattle.bit_gates.specs.Formulas.{Extends, value_of}
use Rattle.bit_gates.proofs.Arenas.{value_kept}
use Rattle.bit_ints.specs.Dividing.{IsNaturalBelow}
use Rattle.bit_ints.specs.Integers.{AreBelow, integer, integer_of, values}
use Rattle.bit_ints.proofs.Digits.{below_later, below_take, grown_length, values_kept}
use Rattle.bit_ints.proofs.Dividing.{stepped, stepped_below, stepped_back, stepped_is, within_both}
use Rattle.bit_ints.proofs.Narrowing.{own_bounds}
use Rattle.bit_ints.proofs.Rows.{integer-cons}
use Rattle.bit_ints.proofs.Sums.{digit}
use Rattle.bit_ints.proofs.divisions.division_step.Goals as goal

-- twice what remained and the next digit
doubled : (gates : List Gate) (bits : List Bool) (rest double : List Lit) (low : Lit) → double ≡ low ∷ rest → 1 ≤ length rest → integer_of gates bits double ≡ digit (value_of gates bits low) +ℤ pos 2 *ℤ integer_of gates bits rest
doubled gates bits rest double low is h =
    let size = length-map rest (value_of gates bits) in
    ap (integer_of gates bits) is ∙ integer-cons (value_of gates bits low) (values gates bits rest) (omega arith)

-- the first digits of one of two lists
taken : (t : Bool) (gates : List Gate) (bits : List Bool) (w : ℕ) (xs ys : List Lit) (zs : List Bool) → zs ≡ (if t then values gates bits (take w xs) else values gates bits (take w ys)) → zs ≡ (if t then take w (values gates bits xs) else take w (values gates bits ys))
taken t gates bits w xs ys zs e = rw (← take-map (value_of gates bits) w xs, ← take-map (value_of gates bits) w ys) at e

-- what remains after the step
after : (g0 g1 g2 : List Gate) (bits : List Bool) (rest divisor double difference next : List Lit) (low less : Lit) (w : ℕ) → Extends g0 g1 → AreBelow (length g0) double → 1 ≤ length rest → 1 ≤ length divisor → 1 ≤ length difference → double ≡ low ∷ rest → w ≡ min (length double) (length divisor) → integer_of g1 bits difference ≡ integer_of g0 bits double -ℤ integer_of g0 bits divisor → value_of g1 bits less ≡ int_lt (integer_of g1 bits difference) (pos 0) → values g2 bits next ≡ (if value_of g1 bits less then values g1 bits (take w double) else values g1 bits (take w difference)) → IsNaturalBelow (integer_of g0 bits divisor) (integer_of g0 bits rest) → (integer_of g2 bits next ≡ stepped (value_of g1 bits less) (integer_of g0 bits double) (integer_of g0 bits divisor)) × IsNaturalBelow (integer_of g0 bits divisor) (integer_of g2 bits next)
after g0 g1 g2 bits rest divisor double difference next low less w e b some some_divisor some_difference is width diff test v below =
    let d = integer_of g0 bits divisor in
    let both = integer_of g0 bits double in
    let t = value_of g1 bits less in
    let size : length double ≡ suc (length rest) = ap length is in
    let size_0 = length-map double (value_of g0 bits) in
    let size_1 = length-map double (value_of g1 bits) in
    let size_divisor = length-map divisor (value_of g0 bits) in
    let size_difference = length-map difference (value_of g1 bits) in
    let t_is : t ≡ int_lt (both -ℤ d) (pos 0) = test ∙ ap (λ z. int_lt z (pos 0)) diff in
    let bounds = stepped_below t (value_of g0 bits low) d (integer_of g0 bits rest) both t_is (doubled g0 bits rest double low is some) below in
    let own = own_bounds (length double - 1) (values g0 bits double) (omega arith) (omega arith) in
    let own_divisor = own_bounds (length divisor - 1) (values g0 bits divisor) (omega arith) (omega arith) in
    let within = within_both (length double - 1) (length divisor - 1) (w - 1) d both (stepped t both d) (omega arith) own own_divisor bounds.0 bounds.1 in
    let one = taken t g1 bits w double difference (values g2 bits next) v in
    let next_is = stepped_is t (w - 1) w (values g1 bits double) (values g1 bits difference) (values g2 bits next) both d (omega arith) one (ap integer (values_kept g0 g1 bits double e b)) diff (omega arith) (omega arith) within in
    (next_is, subst (λ (z : ℤ). IsNaturalBelow d z) (sym next_is) bounds.0)

pub chosen-requires-clause-yes : goal.chosen-requires-clause-yes
chosen-requires-clause-yes c =
    let double : AreBelow (length c.args.g.now.gates) c.in_ok-double.double = rw c.in_ok-double.ensures (c.requires.low, c.requires.rest) in
    rw c.digits.ensures.digits (below_take _ c.min-width.result _ (below_later _ _ _ double (grown_length _ _ c.in_ok-difference.ensures.grown)))

pub chosen-requires-clause-no : goal.chosen-requires-clause-no
chosen-requires-clause-no c = rw c.digits-2.ensures.digits (below_take _ c.min-width.result _ c.in_ok-difference.ensures.below)

pub returns-clause-value : goal.returns-clause-value
returns-clause-value c = λ bits. λ below.
    let double : AreBelow (length c.args.g.now.gates) c.in_ok-double.double = rw c.in_ok-double.ensures (c.requires.low, c.requires.rest) in
    let width : c.min-width.result ≡ min (length c.in_ok-double.double) (length c.args.divisor.now) = omega (arith, c.min-width.ensures, c.len.ensures.digits, c.len-2.ensures.digits) in
    let v = rw (c.digits.ensures.digits, c.digits-2.ensures.digits) at (c.in_ok-next.ensures.value bits) in
    let some : 1 ≤ length c.in_ok-difference.difference = omega (arith, c.in_ok-difference.ensures.width) in
    let next = (after c.args.g.now.gates c.sub.new.g.gates c.chosen.new.g.gates bits c.args.rest.now c.args.divisor.now c.in_ok-double.double c.in_ok-difference.difference c.in_ok-next.next.items c.args.low c.is_negative-less.result c.min-width.result c.in_ok-difference.ensures.grown double c.requires.some c.requires.some_divisor some c.in_ok-double.ensures width (c.in_ok-difference.ensures.value bits) (c.is_negative-less.ensures.value bits) v below).0 in
    let less = value_kept _ _ bits c.is_negative-less.result c.in_ok-next.ensures.grown c.is_negative-less.ensures.below in
    let taken_away = c.not.ensures.value bits ∙ ap not less in
    rw c.from_vec.ensures (stepped_back (value_of c.sub.new.g.gates bits c.is_negative-less.result) (value_of c.chosen.new.g.gates bits c.not.result) _ (integer_of c.args.g.now.gates bits c.in_ok-double.double) (integer_of c.args.g.now.gates bits c.args.divisor.now) taken_away next ∙ doubled c.args.g.now.gates bits c.args.rest.now c.in_ok-double.double c.args.low c.in_ok-double.ensures c.requires.some)

pub returns-clause-next : goal.returns-clause-next
returns-clause-next c = λ bits. λ below.
    let double : AreBelow (length c.args.g.now.gates) c.in_ok-double.double = rw c.in_ok-double.ensures (c.requires.low, c.requires.rest) in
    let width : c.min-width.result ≡ min (length c.in_ok-double.double) (length c.args.divisor.now) = omega (arith, c.min-width.ensures, c.len.ensures.digits, c.len-2.ensures.digits) in
    let v = rw (c.digits.ensures.digits, c.digits-2.ensures.digits) at (c.in_ok-next.ensures.value bits) in
    let some : 1 ≤ length c.in_ok-difference.difference = omega (arith, c.in_ok-difference.ensures.width) in
    rw c.from_vec.ensures (after c.args.g.now.gates c.sub.new.g.gates c.chosen.new.g.gates bits c.args.rest.now c.args.divisor.now c.in_ok-double.double c.in_ok-difference.difference c.in_ok-next.next.items c.args.low c.is_negative-less.result c.min-width.result c.in_ok-difference.ensures.grown double c.requires.some c.requires.some_divisor some c.in_ok-double.ensures width (c.in_ok-difference.ensures.value bits) (c.is_negative-less.ensures.value bits) v below).1
