-- The conjunction of two literals in an arena: its literal, its gates and its value.
use Rattle.std.proofs.Common.{◌≡◌, ◌==◌, ℕ, ◌<◌, Bool, true, false, ◌&&◌, List, [], ◌∷◌, length, get_or, refl, sym, ap, subst, arith, ◌∙◌, length-append, nat_lt, if◌then◌else◌, Option, Some, None, unwrap_or, is_some}
use Rattle.std.specs.Bool.{beq}
use Rattle.std.specs.Cmp.{booleans_Decides}
use Rattle.std.specs.List.{position_or_len}
use Rattle.std.proofs.lemmas.Bool.{eqb-true}
use Rattle.std.proofs.lemmas.Bool.Decides.{nat_tests}
use Rattle.std.proofs.lemmas.List.Sums.{passes_at_first}
use Rattle.bit_gates.specs.declared.lit.Gate.{Gate}
use Rattle.bit_gates.specs.declared.lit.Gate.TheVariants as gate
use Rattle.bit_gates.specs.declared.lit.Lit.{Lit}
use Rattle.bit_gates.specs.contracts.lit.GatePartialEq.TheImpl.{eq-value}
use Rattle.bit_gates.specs.Formulas.{value_of, gate_meaning, Extends, AreGatesFrom, lit_of, same_lit, same_gate, folded, and_gate, and_place, and_lit, placed, and_gates}
use Rattle.bit_gates.proofs.Arenas.{extends_same, extends_push, value_negated, value_kept, value_added, value_at}
use Rattle.bit_gates.proofs.Folding.{lit_same, Valuation, folded_swap, folded_below, folded_value, unfolded_apart}
use Rattle.bit_gates.proofs.Places.{there, next, standing, place_le, place_again, placed_there, placed_next}

-- the derived test of equal gates
pub same_gate_eq : (g h : Gate) → eq-value.it g h ≡ same_gate g h
same_gate_eq gate.True gate.True = refl
same_gate_eq gate.True (gate.Input j) = refl
same_gate_eq gate.True (gate.And c d) = refl
same_gate_eq (gate.Input i) gate.True = refl
same_gate_eq (gate.Input i) (gate.Input j) = refl
same_gate_eq (gate.Input i) (gate.And c d) = refl
same_gate_eq (gate.And a b) gate.True = refl
same_gate_eq (gate.And a b) (gate.Input j) = refl
same_gate_eq (gate.And a b) (gate.And c d) = refl

-- both of two truth values that are true together
and_parts : (x y : Bool) → (x && y) ≡ true → (x ≡ true) × (y ≡ true)
and_parts true y h = (refl, h)
and_parts false y h = cc

-- literals that the test calls equal
lit_told : (a b : Lit) → same_lit a b ≡ true → a ≡ b
lit_told a b h = let p = and_parts (a.place == b.place) (beq a.positive b.positive) h in lit_same a b (eqb-true a.place b.place p.0) ((booleans_Decides a.positive b.positive).0 p.1)

-- a literal is equal to itself
lit_itself : (a : Lit) → same_lit a a ≡ true
lit_itself a =
    let p : (a.place == a.place) ≡ true = grind (arith, nat_tests) in
    let q : beq a.positive a.positive ≡ true = (booleans_Decides a.positive a.positive).1 refl in
    rw (p, q) refl

-- the gate that the test calls equal to that of two literals
and_told : (a b : Lit) (g : Gate) → same_gate (gate.And a b) g ≡ true → gate.And a b ≡ g
and_told a b gate.True h = cc
and_told a b (gate.Input i) h = cc
and_told a b (gate.And c d) h =
    let p = and_parts (same_lit a c) (same_lit b d) h in
    let e : a ≡ c = lit_told a c p.0 in
    let f : b ≡ d = lit_told b d p.1 in
    λ j. gate.And (e j) (f j)

-- the gate of two literals is one of them, in one order or the other
data Ordered (a b : Lit) (g : Gate) : Type 0 where
  straight : g ≡ gate.And a b → Ordered a b g
  turned : g ≡ gate.And b a → Ordered a b g

-- by the test of the places
ordered : (a b : Lit) → Ordered a b (and_gate a b)
ordered a b = by (nat_lt a.place b.place) refl
  where
    by : (t : Bool) → nat_lt a.place b.place ≡ t → Ordered a b (and_gate a b)
    by true e = straight (ap (λ (t : Bool). if t then gate.And a b else gate.And b a) e)
    by false e = turned (ap (λ (t : Bool). if t then gate.And a b else gate.And b a) e)

-- a gate of two literals is equal to itself
gate_itself : (a b : Lit) → same_gate (and_gate a b) (and_gate a b) ≡ true
gate_itself a b = elim (ordered a b) [
  | straight e ↦ rw e (rw (lit_itself a, lit_itself b) refl)
  | turned e ↦ rw e (rw (lit_itself b, lit_itself a) refl)
]

-- the gate that the test calls equal to the gate of two literals
gate_told : (a b : Lit) (g : Gate) → same_gate (and_gate a b) g ≡ true → and_gate a b ≡ g
gate_told a b g h = elim (ordered a b) [
  | straight e ↦ e ∙ and_told a b g (rw e at h)
  | turned e ↦ e ∙ and_told b a g (rw e at h)
]

-- two literals of different places have one gate
gate_swap : (a b : Lit) → (a.place == b.place) ≡ false → and_gate b a ≡ and_gate a b
gate_swap a b h = by (nat_lt a.place b.place) (nat_lt b.place a.place) refl refl
  where
    by : (s t : Bool) → nat_lt a.place b.place ≡ s → nat_lt b.place a.place ≡ t → and_gate b a ≡ and_gate a b
    by true true e f = absurd (grind (arith, nat_tests))
    by true false e f = rw (e, f) refl
    by false true e f = rw (e, f) refl
    by false false e f = absurd (grind (arith, nat_tests))

-- the meaning of the gate of two literals
gate_value : (f : Lit → Bool) (bits : List Bool) (a b : Lit) → gate_meaning f bits (and_gate a b) ≡ (f a && f b)
gate_value f bits a b = elim (ordered a b) [
  | straight e ↦ rw e refl
  | turned e ↦ rw e (turn (f b) (f a))
]
  where
    turn : (x y : Bool) → (x && y) ≡ (y && x)
    turn true true = refl
    turn true false = refl
    turn false true = refl
    turn false false = refl

-- where no gate is needed, the literal
lit_folded : (gs : List Gate) (a b c : Lit) → folded a b ≡ Some c → and_lit gs a b ≡ c
lit_folded gs a b c e = ap (λ (o : Option Lit). unwrap_or o (record { place = and_place gs a b; positive = true })) e

-- and the gates
gates_folded : (gs : List Gate) (a b c : Lit) → folded a b ≡ Some c → and_gates gs a b ≡ gs
gates_folded gs a b c e = ap (λ (o : Option Lit). if is_some o then gs else placed gs (and_place gs a b) (and_gate a b)) e

-- where one is needed, the literal
pub lit_placed : (gs : List Gate) (a b : Lit) → folded a b ≡ None → and_lit gs a b ≡ record { place = and_place gs a b; positive = true }
lit_placed gs a b e = ap (λ (o : Option Lit). unwrap_or o (record { place = and_place gs a b; positive = true })) e

-- and the gates
pub gates_placed : (gs : List Gate) (a b : Lit) → folded a b ≡ None → and_gates gs a b ≡ placed gs (and_place gs a b) (and_gate a b)
gates_placed gs a b e = ap (λ (o : Option Lit). if is_some o then gs else placed gs (and_place gs a b) (and_gate a b)) e

-- a pair that was seen gives the same literal again
pub seen_same : (gs later : List Gate) (a b : Lit) → Extends (and_gates gs a b) later → and_lit later a b ≡ and_lit gs a b
seen_same gs later a b h = by (folded a b) refl
  where
    by : (o : Option Lit) → folded a b ≡ o → and_lit later a b ≡ and_lit gs a b
    by (Some c) e = lit_folded later a b c e ∙ sym (lit_folded gs a b c e)
    by None e =
        let k : Extends (placed gs (and_place gs a b) (and_gate a b)) later = subst (λ (x : List Gate). Extends x later) (gates_placed gs a b e) h in
        let i : and_place later a b ≡ and_place gs a b = place_again (same_gate (and_gate a b)) gs later (and_gate a b) (gate_itself a b) k in
        lit_placed later a b e ∙ ap (λ (n : ℕ). record { place = n; positive = true }) i ∙ sym (lit_placed gs a b e)

-- and in the other order
pub lit_swap : (gs : List Gate) (a b : Lit) → and_lit gs b a ≡ and_lit gs a b
lit_swap gs a b = by (folded a b) refl
  where
    by : (o : Option Lit) → folded a b ≡ o → and_lit gs b a ≡ and_lit gs a b
    by (Some c) e = lit_folded gs b a c (folded_swap a b ∙ e) ∙ sym (lit_folded gs a b c e)
    by None e =
        lit_placed gs b a (folded_swap a b ∙ e)
        ∙ ap (λ (g : Gate). record { place = position_or_len (same_gate g) gs; positive = true }) (gate_swap a b (unfolded_apart a b e))
        ∙ sym (lit_placed gs a b e)

-- a pair that was seen gives the same literal again, in either order
pub seen_again : (gs later : List Gate) (a b : Lit) → Extends (and_gates gs a b) later → (and_lit later a b ≡ and_lit gs a b) × (and_lit later b a ≡ and_lit gs a b)
seen_again gs later a b h = (seen_same gs later a b h, lit_swap later a b ∙ seen_same gs later a b h)

-- the gates stay, and at most one more
pub and_grown : (gs : List Gate) (a b : Lit) → Extends gs (and_gates gs a b)
and_grown gs a b = by (folded a b) refl
  where
    by : (o : Option Lit) → folded a b ≡ o → Extends gs (and_gates gs a b)
    by (Some c) e = rw (gates_folded gs a b c e) (extends_same gs)
    by None e = elim (standing gs (and_place gs a b) (place_le (same_gate (and_gate a b)) gs)) [
      | there lt ↦ rw (gates_placed gs a b e, placed_there gs (and_place gs a b) (and_gate a b) lt) (extends_same gs)
      | next i ↦ extends_push gs (and_gates gs a b) (and_gate a b) (gates_placed gs a b e ∙ placed_next gs (and_place gs a b) (and_gate a b) i)
    ]

-- its literal is one of the arena
pub and_below : (gs : List Gate) (a b : Lit) → a.place < length gs → b.place < length gs → (and_lit gs a b).place < length (and_gates gs a b)
and_below gs a b l r = by (folded a b) refl
  where
    by : (o : Option Lit) → folded a b ≡ o → (and_lit gs a b).place < length (and_gates gs a b)
    by (Some c) e = rw (gates_folded gs a b c e, lit_folded gs a b c e) (folded_below a b c (length gs) l r e)
    by None e = elim (standing gs (and_place gs a b) (place_le (same_gate (and_gate a b)) gs)) [
      | there lt ↦ rw (gates_placed gs a b e, placed_there gs (and_place gs a b) (and_gate a b) lt, lit_placed gs a b e) lt
      | next i ↦ rw (gates_placed gs a b e, placed_next gs (and_place gs a b) (and_gate a b) i, lit_placed gs a b e) (omega (arith, length-append gs (and_gate a b ∷ [])))
    ]

-- the values of the literals of an arena whose first gate is True
pub valued : (keys : List Gate) (bits : List Bool) → Valuation (value_of (gate.True ∷ keys) bits)
unfolding value_of
valued keys bits = record {
  constant = λ v. value_kept (gate.True ∷ []) (gate.True ∷ keys) bits (lit_of v) (record { more = keys; is = refl }) (omega arith) ∙ at v;
  negation = value_negated (gate.True ∷ keys) bits;
}
  where
    at : (v : Bool) → value_of (gate.True ∷ []) bits (lit_of v) ≡ v
    at true = refl
    at false = refl

-- the literal is true where both are
pub and_value : (inputs : ℕ) (keys : List Gate) (bits : List Bool) (a b : Lit) → AreGatesFrom inputs 0 (gate.True ∷ keys) → value_of (and_gates (gate.True ∷ keys) a b) bits (and_lit (gate.True ∷ keys) a b) ≡ (value_of (gate.True ∷ keys) bits a && value_of (gate.True ∷ keys) bits b)
and_value inputs keys bits a b h = by (folded a b) refl
  where
    by : (o : Option Lit) → folded a b ≡ o → value_of (and_gates (gate.True ∷ keys) a b) bits (and_lit (gate.True ∷ keys) a b) ≡ (value_of (gate.True ∷ keys) bits a && value_of (gate.True ∷ keys) bits b)
    by (Some c) e = rw (gates_folded (gate.True ∷ keys) a b c e, lit_folded (gate.True ∷ keys) a b c e) (folded_value (value_of (gate.True ∷ keys) bits) (valued keys bits) a b c e)
    by None e = elim (standing (gate.True ∷ keys) (and_place (gate.True ∷ keys) a b) (place_le (same_gate (and_gate a b)) (gate.True ∷ keys))) [
      | there lt ↦ rw (gates_placed (gate.True ∷ keys) a b e, placed_there (gate.True ∷ keys) (and_place (gate.True ∷ keys) a b) (and_gate a b) lt, lit_placed (gate.True ∷ keys) a b e) (
          let t : same_gate (and_gate a b) (get_or (gate.True ∷ keys) (and_place (gate.True ∷ keys) a b) (and_gate a b)) ≡ true = passes_at_first (same_gate (and_gate a b)) (gate.True ∷ keys) (and_gate a b) lt in
          value_at inputs (gate.True ∷ keys) bits (and_place (gate.True ∷ keys) a b) (and_gate a b) h lt (gate_told a b (get_or (gate.True ∷ keys) (and_place (gate.True ∷ keys) a b) (and_gate a b)) t)
          ∙ gate_value (value_of (gate.True ∷ keys) bits) bits a b
          )
      | next i ↦ rw (gates_placed (gate.True ∷ keys) a b e, placed_next (gate.True ∷ keys) (and_place (gate.True ∷ keys) a b) (and_gate a b) i, lit_placed (gate.True ∷ keys) a b e) (value_added (gate.True ∷ keys) bits (and_gate a b) (and_place (gate.True ∷ keys) a b) i ∙ gate_value (value_of (gate.True ∷ keys) bits) bits a b)
    ]
