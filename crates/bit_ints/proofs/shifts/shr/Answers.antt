use Rattle.std.proofs.Common.{◌≡◌, ℕ, List, refl, ◌-◌, ◌^◌, ◌≤◌, suc, drop, length, length-drop, arith, ap, ◌∙◌}
use Rattle.std.proofs.lemmas.List.{length-map}
use Rattle.bit_gates.specs.declared.lit.Lit.{Lit}
use Rattle.bit_gates.specs.Formulas.{value_of}
use Rattle.bit_ints.specs.Halving.{halved}
use Rattle.bit_ints.specs.Integers.{integer, integer_of, values, extended_by}
use Rattle.bit_ints.proofs.Digits.{below_drop, below_extended, below_later, extended-length, grown_length, grown_more, values_kept}
use Rattle.bit_ints.proofs.Halves.{integer-shifted, near_or_far}
use Rattle.bit_ints.proofs.Narrowing.{own_number}
use Rattle.bit_ints.proofs.Raising.{one_of}
use Rattle.bit_ints.proofs.shifts.shr.Goals as goal

-- the sign alone, in as many digits
sign_length : (last : ℕ) (a far : List Lit) → far ≡ extended_by last (drop last a) → length a ≡ suc last → length far ≡ length a
sign_length last a far is size =
    let left = length-drop last a in
    let some : 1 ≤ length (drop last a) = omega arith in
    omega (arith, ap length is, extended-length last (drop last a) some)

pub from_vec-requires-clause-some : goal.from_vec-requires-clause-some
from_vec-requires-clause-some c = omega (arith, c.in_ok-near.ensures.some, c.in_ok-near.ensures.length)

pub returns-then-count-len-clause-value : goal.returns-then-count-len-clause-value
returns-then-count-len-clause-value c = λ bits. λ n. λ e.
    let size = length-map c.args.b.now (value_of c.args.g.now.gates bits) in
    let close = own_number c.min-count.result n (values c.args.g.now.gates bits c.args.b.now) e (omega (arith, c.len.ensures.digits, c.len.ensures.some)) (omega (arith, c.len-2.ensures.digits, c.if-count-len.true)) in
    rw c.from_vec.ensures (c.in_ok-near.ensures.value bits n e close)

pub is_short-requires-clause-below : goal.is_short-requires-clause-below
is_short-requires-clause-below c = below_later _ _ _ c.requires.right (grown_length _ _ c.in_ok-near.ensures.grown)

pub chosen-requires-clause-same : goal.chosen-requires-clause-same
chosen-requires-clause-same c =
    let far : c.in_ok-far.far.items ≡ extended_by (c.len-3.result - 1) (drop (c.len-3.result - 1) c.args.a.now) = rw c.digits.ensures.digits at c.in_ok-far.ensures in
    let size = sign_length (c.len-3.result - 1) c.args.a.now c.in_ok-far.far.items far (omega (arith, c.len-3.ensures.digits, c.len-3.ensures.some)) in
    omega (arith, size, ap length c.deref.ensures.value, ap length c.deref-2.ensures.value, c.in_ok-near.ensures.length)

pub chosen-requires-clause-yes : goal.chosen-requires-clause-yes
chosen-requires-clause-yes c = rw c.deref.ensures.value (below_later _ _ _ c.in_ok-near.ensures.below (grown_length _ _ c.in_ok-short.ensures.grown))

pub chosen-requires-clause-no : goal.chosen-requires-clause-no
chosen-requires-clause-no c =
    let last = c.len-3.result - 1 in
    let far : c.in_ok-far.far.items ≡ extended_by last (drop last c.args.a.now) = rw c.digits.ensures.digits at c.in_ok-far.ensures in
    let grown = grown_more _ _ _ c.in_ok-near.ensures.grown c.in_ok-short.ensures.grown in
    rw (c.deref-2.ensures.value, far) (below_extended _ last _ (below_drop _ last c.args.a.now (below_later _ _ _ c.requires.left (grown_length _ _ grown))))

pub from_vec-requires-2-clause-some : goal.from_vec-requires-2-clause-some
from_vec-requires-2-clause-some c =
    let far : c.in_ok-far.far.items ≡ extended_by (c.len-3.result - 1) (drop (c.len-3.result - 1) c.args.a.now) = rw c.digits.ensures.digits at c.in_ok-far.ensures in
    let size = sign_length (c.len-3.result - 1) c.args.a.now c.in_ok-far.far.items far (omega (arith, c.len-3.ensures.digits, c.len-3.ensures.some)) in
    omega (arith, size, ap length c.deref-2.ensures.value, c.in_ok-digits.ensures.length, c.in_ok-near.ensures.some)

pub from_vec-requires-2-clause-few : goal.from_vec-requires-2-clause-few
from_vec-requires-2-clause-few c =
    let far : c.in_ok-far.far.items ≡ extended_by (c.len-3.result - 1) (drop (c.len-3.result - 1) c.args.a.now) = rw c.digits.ensures.digits at c.in_ok-far.ensures in
    let size = sign_length (c.len-3.result - 1) c.args.a.now c.in_ok-far.far.items far (omega (arith, c.len-3.ensures.digits, c.len-3.ensures.some)) in
    omega (arith, size, ap length c.deref-2.ensures.value, c.in_ok-digits.ensures.length)

pub returns-clause-width : goal.returns-clause-width
returns-clause-width c =
    let far : c.in_ok-far.far.items ≡ extended_by (c.len-3.result - 1) (drop (c.len-3.result - 1) c.args.a.now) = rw c.digits.ensures.digits at c.in_ok-far.ensures in
    let size = sign_length (c.len-3.result - 1) c.args.a.now c.in_ok-far.far.items far (omega (arith, c.len-3.ensures.digits, c.len-3.ensures.some)) in
    rw c.from_vec-2.ensures (omega (arith, size, ap length c.deref-2.ensures.value, c.in_ok-digits.ensures.length))

pub returns-clause-value : goal.returns-clause-value
returns-clause-value c = λ bits. λ n. λ e.
    let g0 = c.args.g.now.gates in
    let g2 = c.is_short.new.g.gates in
    let last = c.len-3.result - 1 in
    let grown = grown_more _ _ _ c.in_ok-near.ensures.grown c.in_ok-short.ensures.grown in
    let b = values_kept _ _ bits c.args.b.now c.in_ok-near.ensures.grown c.requires.right in
    let a = values_kept _ _ bits c.args.a.now grown c.requires.left in
    let size = length-map c.args.a.now (value_of g0 bits) in
    let short = c.in_ok-short.ensures.value bits n (ap integer b ∙ e) in
    let near = ap integer (values_kept _ _ bits c.in_ok-near.near.items c.in_ok-short.ensures.grown c.in_ok-near.ensures.below) in
    let far : c.in_ok-far.far.items ≡ extended_by last (drop last c.args.a.now) = rw c.digits.ensures.digits at c.in_ok-far.ensures in
    let far_is : integer_of g2 bits c.in_ok-far.far.items ≡ halved last (integer_of g0 bits c.args.a.now) = integer-shifted g2 bits c.args.a.now c.in_ok-far.far.items last (omega (arith, c.len-3.ensures.digits, c.len-3.ensures.some)) far ∙ ap (λ vs. halved last (integer vs)) a in
    let v = rw (c.deref.ensures.value, c.deref-2.ensures.value) at (c.in_ok-digits.ensures.value bits) in
    let one = one_of (value_of g2 bits c.in_ok-short.short) (values g2 bits c.in_ok-near.near.items) (values g2 bits c.in_ok-far.far.items) _ _ _ v near far_is in
    let wide : c.min-count.result ≡ 8 = omega (arith, c.min-count.ensures, c.len.ensures.digits, c.len-2.ensures.digits, c.if-count-len.false) in
    let power : 2 ^ c.min-count.result ≡ 256 = ap (λ (i : ℕ). 2 ^ i) wide in
    rw c.from_vec-2.ensures (near_or_far (value_of g2 bits c.in_ok-short.short) (values g0 bits c.args.a.now) c.min-count.result last n _ _ _ (omega (arith, c.len-3.ensures.digits, c.len-3.ensures.some)) (omega (arith, c.len-3.ensures.digits)) short (c.in_ok-near.ensures.value bits n e) refl one)
