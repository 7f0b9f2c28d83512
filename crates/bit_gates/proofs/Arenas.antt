-- The values and the gates of an arena that grows.
use Rattle.std.proofs.Common.{◌≡◌, ℕ, zero, suc, ◌+◌, ◌<◌, ◌≤◌, Bool, true, false, not, List, [], ◌∷◌, ◌++◌, length, get_or, refl, sym, ap, subst, arith, ◌∙◌, append_assoc, append-nil, length-append}
use Rattle.std.proofs.lemmas.List.{get_or_append_left, get_or_at}
use Rattle.bit_gates.specs.declared.lit.Gate.{Gate}
use Rattle.bit_gates.specs.declared.lit.Gate.TheVariants as gate
use Rattle.bit_gates.specs.declared.lit.Lit.{Lit}
use Rattle.bit_gates.specs.Formulas.{signed, value_in, gate_meaning, values_onto, value_of, Extends, IsGateBelow, AreGatesFrom, negated}

-- gates stand in themselves
pub extends_same : (gs : List Gate) → Extends gs gs
extends_same gs = record { more = []; is = sym (append-nil gs) }

-- one extension after another
pub extends_then : (xs ys zs : List Gate) → Extends xs ys → Extends ys zs → Extends xs zs
extends_then xs ys zs p q = record { more = p.more ++ q.more; is = q.is ∙ ap (λ (x : List Gate). x ++ q.more) p.is ∙ append_assoc xs p.more q.more }

-- one more gate
pub extends_push : (xs ys : List Gate) (g : Gate) → ys ≡ xs ++ g ∷ [] → Extends xs ys
extends_push xs ys g e = record { more = g ∷ []; is = e }

-- an extension has as many gates, or more
pub extends_length : (xs ys : List Gate) → Extends xs ys → length xs ≤ length ys
extends_length xs ys h = omega (arith, ap length h.is, length-append xs h.more)

-- each gate has a value
pub length_onto : (bits vs : List Bool) (gs : List Gate) → length (values_onto bits vs gs) ≡ length vs + length gs
length_onto bits vs [] = omega arith
length_onto bits vs (g ∷ gs) = omega (arith, length_onto bits (vs ++ gate_meaning (value_in vs) bits g ∷ []) gs, length-append vs (gate_meaning (value_in vs) bits g ∷ []))

-- the values go from the left to the right
pub onto_append : (bits vs : List Bool) (fs gs : List Gate) → values_onto bits vs (fs ++ gs) ≡ values_onto bits (values_onto bits vs fs) gs
onto_append bits vs [] gs = refl
onto_append bits vs (f ∷ fs) gs = onto_append bits (vs ++ gate_meaning (value_in vs) bits f ∷ []) fs gs

-- more gates keep the values that are there
onto_keeps : (bits vs : List Bool) (gs : List Gate) (i : ℕ) → i < length vs → get_or (values_onto bits vs gs) i false ≡ get_or vs i false
onto_keeps bits vs [] i lt = refl
onto_keeps bits vs (g ∷ gs) i lt = onto_keeps bits (vs ++ gate_meaning (value_in vs) bits g ∷ []) gs i (omega (arith, length-append vs (gate_meaning (value_in vs) bits g ∷ []))) ∙ get_or_append_left vs (gate_meaning (value_in vs) bits g ∷ []) false i lt

-- what an arena made keeps its formula
pub value_kept : (old new : List Gate) (bits : List Bool) (a : Lit) → Extends old new → a.place < length old → value_of new bits a ≡ value_of old bits a
unfolding value_of
value_kept old new bits a h lt = ap (λ (v : Bool). signed a.positive v) (ap (λ (gs : List Gate). get_or (values_onto bits [] gs) a.place false) h.is ∙ ap (λ (vs : List Bool). get_or vs a.place false) (onto_append bits [] old h.more) ∙ onto_keeps bits (values_onto bits [] old) h.more a.place (omega (arith, length_onto bits [] old)))

-- the value of a gate that is added
pub value_added : (gs : List Gate) (bits : List Bool) (g : Gate) (i : ℕ) → i ≡ length gs → value_of (gs ++ g ∷ []) bits (record { place = i; positive = true }) ≡ gate_meaning (value_of gs bits) bits g
unfolding value_of
value_added gs bits g i e = rw (onto_append bits [] gs (g ∷ [])) (get_or_at (values_onto bits [] gs) (gate_meaning (value_in (values_onto bits [] gs)) bits g) [] false i (omega (arith, length_onto bits [] gs)))

-- a place below a number, at an equal one
below_moved : (inputs m n : ℕ) (g : Gate) → m ≡ n → IsGateBelow inputs m g → IsGateBelow inputs n g
below_moved inputs m n g e h = subst (λ (k : ℕ). IsGateBelow inputs k g) e h

-- a gate stands where there are more inputs
below_more : (k m n : ℕ) (g : Gate) → k ≤ m → IsGateBelow k n g → IsGateBelow m n g
below_more k m n gate.True le h = tt
below_more k m n (gate.Input i) le h = omega arith
below_more k m n (gate.And a b) le h = h

-- gates stand where there are more inputs
pub from_more : (k m n : ℕ) (gs : List Gate) → k ≤ m → AreGatesFrom k n gs → AreGatesFrom m n gs
from_more k m n [] le h = tt
from_more k m n (g ∷ gs) le h = (below_more k m n g le h.0, from_more k m (n + 1) gs le h.1)

-- gates and one more, whose operands are before it
pub from_push : (inputs n : ℕ) (gs : List Gate) (g : Gate) → AreGatesFrom inputs n gs → IsGateBelow inputs (n + length gs) g → AreGatesFrom inputs n (gs ++ g ∷ [])
from_push inputs n [] g h d = (below_moved inputs (n + 0) n g (omega arith) d, tt)
from_push inputs n (f ∷ gs) g h d = (h.0, from_push inputs (n + 1) gs g h.1 (below_moved inputs (n + length (f ∷ gs)) (n + 1 + length gs) g (omega arith) d))

-- the operands of the gate at a place of gates
pub from_at : (inputs n : ℕ) (gs : List Gate) (i : ℕ) (g : Gate) → AreGatesFrom inputs n gs → i < length gs → g ≡ get_or gs i g → IsGateBelow inputs (n + i) g
from_at inputs n [] i g h lt e = absurd (omega arith)
from_at inputs n (f ∷ gs) zero g h lt e = below_moved inputs n (n + 0) g (omega arith) (subst (λ (x : Gate). IsGateBelow inputs n x) (sym e) h.0)
from_at inputs n (f ∷ gs) (suc i) g h lt e = below_moved inputs (n + 1 + i) (n + suc i) g (omega arith) (from_at inputs (n + 1) gs i g h.1 (omega arith) e)

-- the operands of a gate of an arena are before it
pub gate_at : (inputs : ℕ) (gs : List Gate) (i : ℕ) (g : Gate) → AreGatesFrom inputs 0 gs → i < length gs → g ≡ get_or gs i g → IsGateBelow inputs i g
gate_at inputs gs i g h lt e = below_moved inputs (0 + i) i g (omega arith) (from_at inputs 0 gs i g h lt e)

-- a list before and behind the gate at a place
record Split (gs : List Gate) (i : ℕ) (g : Gate) : Type 0 where
  front : List Gate
  back : List Gate
  is : gs ≡ front ++ g ∷ back
  place : length front ≡ i

-- each place that is there splits the list
split : (gs : List Gate) (i : ℕ) (g : Gate) → i < length gs → g ≡ get_or gs i g → Split gs i g
split [] i g lt e = absurd (omega arith)
split (f ∷ gs) zero g lt e = record { front = []; back = gs; is = ap (λ (x : Gate). x ∷ gs) (sym e); place = refl }
split (f ∷ gs) (suc i) g lt e =
    let h : Split gs i g = split gs i g (omega arith) e in
    record { front = f ∷ h.front; back = h.back; is = ap (λ (x : List Gate). f ∷ x) h.is; place = ap suc h.place }

-- the value of a gate depends on those of its operands alone
meaning_same : (f g : Lit → Bool) (bits : List Bool) (inputs i : ℕ) (x : Gate) → IsGateBelow inputs i x → ((a : Lit) → a.place < i → f a ≡ g a) → gate_meaning f bits x ≡ gate_meaning g bits x
meaning_same f g bits inputs i gate.True d h = refl
meaning_same f g bits inputs i (gate.Input n) d h = refl
meaning_same f g bits inputs i (gate.And a b) d h = rw (h a d.0, h b d.1) refl

-- the value of a gate of an arena
pub value_at : (inputs : ℕ) (gs : List Gate) (bits : List Bool) (i : ℕ) (g : Gate) → AreGatesFrom inputs 0 gs → i < length gs → g ≡ get_or gs i g → value_of gs bits (record { place = i; positive = true }) ≡ gate_meaning (value_of gs bits) bits g
value_at inputs gs bits i g a lt e =
    let h : Split gs i g = split gs i g lt e in
    let place : length h.front ≡ i = h.place in
    let through : Extends (h.front ++ g ∷ []) gs = record { more = h.back; is = h.is ∙ sym (append_assoc h.front (g ∷ []) h.back) } in
    let before : Extends h.front gs = record { more = g ∷ h.back; is = h.is } in
    let below : IsGateBelow inputs i g = gate_at inputs gs i g a lt e in
    value_kept (h.front ++ g ∷ []) gs bits (record { place = i; positive = true }) through (omega (arith, length-append h.front (g ∷ [])))
    ∙ value_added h.front bits g i (sym place)
    ∙ meaning_same (value_of h.front bits) (value_of gs bits) bits inputs i g below (λ b less. sym (value_kept h.front gs bits b before (omega arith)))

-- the value of a negation
pub value_negated : (gs : List Gate) (bits : List Bool) (a : Lit) → value_of gs bits (negated a) ≡ not (value_of gs bits a)
unfolding value_of
value_negated gs bits a = turn a.positive (get_or (values_onto bits [] gs) a.place false)
  where
    turn : (s v : Bool) → signed (not s) v ≡ not (signed s v)
    turn true v = refl
    turn false true = refl
    turn false false = refl
