-- The gates behind True, as a set of gates keeps them.
use Rattle.std.proofs.Common.{◌≡◌, ℕ, zero, suc, ◌+◌, ◌-◌, ◌<◌, Bool, true, false, not, Some, slice_get, List, [], ◌∷◌, ◌++◌, length, take, drop, get_or, refl, sym, ap, subst, arith, ◌∙◌, length-append, if◌then◌else◌}
use Rattle.std.specs.List.{position_or_len, list_any}
use Rattle.std.proofs.lemmas.Bool.Decides.{nat_tests}
use Rattle.std.proofs.lemmas.Option.{slice_get-get_or}
use Rattle.std.proofs.lemmas.Grind.{common_steps}
use Rattle.indexmap.specs.IndexSet.{insert_key}
use Rattle.bit_gates.specs.declared.lit.Gate.{Gate}
use Rattle.bit_gates.specs.declared.lit.Gate.TheVariants as gate
use Rattle.bit_gates.specs.declared.lit.Lit.{Lit}
use Rattle.bit_gates.specs.contracts.lit.GatePartialEq.TheImpl.{eq-value}
use Rattle.bit_gates.specs.Formulas.{value_in, values_onto, value_of, gate_meaning, IsGateBelow, AreGatesFrom, AreBehindTrue, same_gate, placed}
use Rattle.bit_gates.proofs.Arenas.{length_onto, onto_append, value_kept, from_more, from_push, from_at}
use Rattle.bit_gates.proofs.Pairs.{same_gate_eq}
use Rattle.bit_gates.proofs.Places.{placed_there, placed_next}

-- an input that no gate has yet is no key
input_new : (inputs n : ℕ) (keys : List Gate) → AreGatesFrom inputs n keys → list_any (eq-value.it (gate.Input inputs)) keys ≡ false
input_new inputs n [] h = refl
input_new inputs n (g ∷ keys) h = rw (other g h.0, input_new inputs (n + 1) keys h.1) refl
  where
    other : (x : Gate) → IsGateBelow inputs n x → eq-value.it (gate.Input inputs) x ≡ false
    other gate.True d = refl
    other (gate.Input i) d = grind (arith, nat_tests)
    other (gate.And a b) d = refl

-- the next input goes last
pub input_keys : (inputs : ℕ) (keys new : List Gate) → AreBehindTrue inputs keys → new ≡ insert_key eq-value.it keys (gate.Input inputs) → new ≡ keys ++ gate.Input inputs ∷ []
input_keys inputs keys new h e = e ∙ ap (λ (b : Bool). if b then keys else keys ++ gate.Input inputs ∷ []) (input_new inputs 1 keys h.below)

-- gates with the next input
pub behind_input : (inputs : ℕ) (keys new : List Gate) → AreBehindTrue inputs keys → new ≡ keys ++ gate.Input inputs ∷ [] → AreBehindTrue (inputs + 1) new
behind_input inputs keys new h e = rw e (record {
  below = from_push (inputs + 1) 1 keys (gate.Input inputs) (from_more inputs (inputs + 1) 1 keys (omega arith) h.below) (omega arith);
  room = omega (arith, length-append keys (gate.Input inputs ∷ []));
})

-- gates with an And gate, which goes last or is there
pub behind_and : (inputs : ℕ) (keys new : List Gate) (a b : Lit) → AreBehindTrue inputs keys → new ≡ insert_key eq-value.it keys (gate.And a b) → a.place < length (gate.True ∷ keys) → b.place < length (gate.True ∷ keys) → AreBehindTrue inputs new
behind_and inputs keys new a b h e l r = rw e (by (list_any (eq-value.it (gate.And a b)) keys))
  where
    by : (t : Bool) → AreBehindTrue inputs (if t then keys else keys ++ gate.And a b ∷ [])
    by true = h
    by false = record { below = from_push inputs 1 keys (gate.And a b) h.below (omega arith, omega arith); room = omega (arith, length-append keys (gate.And a b ∷ [])) }

module _ (p : Gate → Bool) where
  -- one gate more in front
  absent_step : (t : Bool) (g : Gate) (gs : List Gate) → p g ≡ t → list_any p (g ∷ gs) ≡ false → (list_any p gs ≡ false → position_or_len p gs ≡ length gs) → position_or_len p (g ∷ gs) ≡ length (g ∷ gs)
  absent_step true g gs e h rest = let k : true ≡ false = rw e at h in cc
  absent_step false g gs e h rest = let k : list_any p gs ≡ false = rw e at h in rw e (let m : position_or_len p gs ≡ length gs = rest k in omega arith)

  -- a gate that is not there has the next free place
  absent_place : (gs : List Gate) → list_any p gs ≡ false → position_or_len p gs ≡ length gs
  absent_place [] h = refl
  absent_place (g ∷ gs) h = absent_step (p g) g gs refl h (absent_place gs)

  -- one gate more in front
  present_step : (t : Bool) (g : Gate) (gs : List Gate) → p g ≡ t → list_any p (g ∷ gs) ≡ true → (list_any p gs ≡ true → position_or_len p gs < length gs) → position_or_len p (g ∷ gs) < length (g ∷ gs)
  present_step true g gs e h rest = rw e (omega arith)
  present_step false g gs e h rest = let k : list_any p gs ≡ true = rw e at h in rw e (let m : position_or_len p gs < length gs = rest k in omega arith)

  -- a gate that is there has its place
  present_place : (gs : List Gate) → list_any p gs ≡ true → position_or_len p gs < length gs
  present_place [] h = cc
  present_place (g ∷ gs) h = present_step (p g) g gs refl h (present_place gs)

-- the place of an And gate among all the gates, from that among those behind True
pub and_index : (keys : List Gate) (a b : Lit) → position_or_len (same_gate (gate.And a b)) (gate.True ∷ keys) ≡ position_or_len (eq-value.it (gate.And a b)) keys + 1
and_index keys a b =
    let e : position_or_len (eq-value.it (gate.And a b)) keys ≡ position_or_len (same_gate (gate.And a b)) keys = λ j. position_or_len (λ g. same_gate_eq (gate.And a b) g j) keys in
    let f : position_or_len (same_gate (gate.And a b)) (gate.True ∷ keys) ≡ 1 + position_or_len (same_gate (gate.And a b)) keys = refl in
    omega arith

-- the next free place, where it is not there
and_next : (keys : List Gate) (a b : Lit) → list_any (eq-value.it (gate.And a b)) keys ≡ false → position_or_len (same_gate (gate.And a b)) (gate.True ∷ keys) ≡ length (gate.True ∷ keys)
and_next keys a b h = let e = and_index keys a b in let f = absent_place (eq-value.it (gate.And a b)) keys h in omega arith

-- the next free place, where it is added
pub and_added : (keys : List Gate) (a b : Lit) (added : Bool) → added ≡ not (list_any (eq-value.it (gate.And a b)) keys) → added ≡ true → position_or_len (same_gate (gate.And a b)) (gate.True ∷ keys) ≡ length (gate.True ∷ keys)
and_added keys a b added e t = and_next keys a b (by (list_any (eq-value.it (gate.And a b)) keys) (sym t ∙ e))
  where
    by : (x : Bool) → true ≡ not x → x ≡ false
    by true h = cc
    by false h = refl

-- the gates with it
pub and_placed : (keys new : List Gate) (a b : Lit) → new ≡ insert_key eq-value.it keys (gate.And a b) → gate.True ∷ new ≡ placed (gate.True ∷ keys) (position_or_len (same_gate (gate.And a b)) (gate.True ∷ keys)) (gate.And a b)
and_placed keys new a b e = by (list_any (eq-value.it (gate.And a b)) keys) refl
  where
    by : (t : Bool) → list_any (eq-value.it (gate.And a b)) keys ≡ t → gate.True ∷ new ≡ placed (gate.True ∷ keys) (position_or_len (same_gate (gate.And a b)) (gate.True ∷ keys)) (gate.And a b)
    by true h =
        let lt : position_or_len (eq-value.it (gate.And a b)) keys < length keys = present_place (eq-value.it (gate.And a b)) keys h in
        let n : new ≡ keys = e ∙ ap (λ (t : Bool). if t then keys else keys ++ gate.And a b ∷ []) h in
        let i = and_index keys a b in
        ap (λ (x : List Gate). gate.True ∷ x) n ∙ sym (placed_there (gate.True ∷ keys) (position_or_len (same_gate (gate.And a b)) (gate.True ∷ keys)) (gate.And a b) (omega arith))
    by false h =
        let n : new ≡ keys ++ gate.And a b ∷ [] = e ∙ ap (λ (t : Bool). if t then keys else keys ++ gate.And a b ∷ []) h in
        ap (λ (x : List Gate). gate.True ∷ x) n ∙ sym (placed_next (gate.True ∷ keys) (position_or_len (same_gate (gate.And a b)) (gate.True ∷ keys)) (gate.And a b) (and_next keys a b h))

-- the first gates of some
pub from_take : (inputs n k : ℕ) (gs : List Gate) → AreGatesFrom inputs n gs → AreGatesFrom inputs n (take k gs)
from_take inputs n zero gs h = tt
from_take inputs n (suc k) [] h = tt
from_take inputs n (suc k) (g ∷ gs) h = (h.0, from_take inputs (n + 1) k gs h.1)

-- the value of a literal, from those of the gates up to its own
pub value_front : (keys : List Gate) (bits : List Bool) (a : Lit) → a.place < length (gate.True ∷ keys) → value_of (gate.True ∷ keys) bits a ≡ value_in (values_onto bits [] (gate.True ∷ take a.place keys)) a
unfolding value_of
value_front keys bits a lt =
    let e : keys ≡ take a.place keys ++ drop a.place keys = grind (arith, common_steps) in
    let n : length (take a.place keys) ≡ a.place = grind (arith, common_steps) in
    value_kept (gate.True ∷ take a.place keys) (gate.True ∷ keys) bits a (record { more = drop a.place keys; is = ap (λ (x : List Gate). gate.True ∷ x) e }) (omega arith)

-- the values of one gate more
pub onto_next : (bits : List Bool) (gs : List Gate) (i : ℕ) (g : Gate) → i < length gs → g ≡ get_or gs i g → values_onto bits [] (gate.True ∷ take (i + 1) gs) ≡ values_onto bits [] (gate.True ∷ take i gs) ++ gate_meaning (value_in (values_onto bits [] (gate.True ∷ take i gs))) bits g ∷ []
onto_next bits gs i g lt e =
    let f : take (i + 1) gs ≡ take i gs ++ g ∷ [] = grind (arith, common_steps) in
    rw f (onto_append bits [] (gate.True ∷ take i gs) (g ∷ []))

-- the operands of the next gate have their values
pub next_below : (inputs : ℕ) (bits : List Bool) (gs : List Gate) (i : ℕ) (g : Gate) → AreGatesFrom inputs 1 gs → i < length gs → g ≡ get_or gs i g → IsGateBelow inputs (length (values_onto bits [] (gate.True ∷ take i gs))) g
next_below inputs bits gs i g h lt e =
    let n : length (take i gs) ≡ i = grind (arith, common_steps) in
    let m : 1 + i ≡ length (values_onto bits [] (gate.True ∷ take i gs)) = omega (arith, length_onto bits [] (gate.True ∷ take i gs)) in
    subst (λ (k : ℕ). IsGateBelow inputs k g) m (from_at inputs 1 gs i g h lt e)

-- an element that is there does not depend on the default
pub same_element : (gs : List Gate) (i : ℕ) (d g : Gate) → i < length gs → get_or gs i d ≡ get_or gs i g
same_element gs i d g lt =
    let s : slice_get gs i ≡ Some (get_or gs i d) = slice_get-get_or gs i d lt in
    let t : slice_get gs i ≡ Some (get_or gs i g) = slice_get-get_or gs i g lt in
    cc

-- a key, as a gate of the arena
pub behind_at : (keys : List Gate) (i : ℕ) (g d : Gate) → 0 < i → i < length (gate.True ∷ keys) → g ≡ get_or keys (i - 1) d → g ≡ get_or (gate.True ∷ keys) i g
behind_at keys zero g d p lt e = absurd (omega arith)
behind_at keys (suc k) g d p lt e =
    let q : suc k - 1 ≡ k = omega arith in
    e ∙ ap (λ (n : ℕ). get_or keys n d) q ∙ same_element keys k d g (omega arith)

-- the gates up to a place have a value each
pub length_front : (bits : List Bool) (keys : List Gate) (n : ℕ) → n < length (gate.True ∷ keys) → n < length (values_onto bits [] (gate.True ∷ take n keys))
length_front bits keys n lt =
    let m : length (take n keys) ≡ n = grind (arith, common_steps) in
    omega (arith, length_onto bits [] (gate.True ∷ take n keys))
