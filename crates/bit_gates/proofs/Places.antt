-- The place of a gate in an arena.
use Rattle.std.proofs.Common.{◌≡◌, ◌==◌, ℕ, ◌+◌, ◌<◌, ◌≤◌, Bool, true, false, List, [], ◌∷◌, ◌++◌, length, refl, sym, ap, arith, ◌∙◌, append_assoc, if◌then◌else◌}
use Rattle.std.specs.List.{position_or_len}
use Rattle.std.proofs.lemmas.Bool.Decides.{nat_tests}
use Rattle.std.proofs.lemmas.Bool.{eqb-true}
use Rattle.bit_gates.specs.declared.lit.Gate.{Gate}
use Rattle.bit_gates.specs.Formulas.{Extends, placed}

module _ (p : Gate → Bool) where
  -- one gate more in front
  le_step : (b : Bool) (g : Gate) (gs : List Gate) → p g ≡ b → position_or_len p gs ≤ length gs → position_or_len p (g ∷ gs) ≤ length (g ∷ gs)
  le_step true g gs e h = rw e (omega arith)
  le_step false g gs e h = rw e (omega arith)

  -- the first place is within the list, or behind its end
  pub place_le : (gs : List Gate) → position_or_len p gs ≤ length gs
  place_le [] = omega arith
  place_le (g ∷ gs) = le_step (p g) g gs refl (place_le gs)

  -- one gate more in front
  kept_step : (b : Bool) (g : Gate) (gs more : List Gate) → p g ≡ b → position_or_len p (g ∷ gs) < length (g ∷ gs) → (position_or_len p gs < length gs → position_or_len p (gs ++ more) ≡ position_or_len p gs) → position_or_len p (g ∷ gs ++ more) ≡ position_or_len p (g ∷ gs)
  kept_step true g gs more e h rest = rw e refl
  kept_step false g gs more e h rest = let l : 1 + position_or_len p gs < length (g ∷ gs) = rw e at h in rw e (ap (λ (n : ℕ). 1 + n) (rest (omega arith)))

  -- a gate that is there keeps its place
  pub place_kept : (gs more : List Gate) → position_or_len p gs < length gs → position_or_len p (gs ++ more) ≡ position_or_len p gs
  place_kept [] more lt = absurd (omega arith)
  place_kept (g ∷ gs) more lt = kept_step (p g) g gs more refl lt (place_kept gs more)

  -- one gate more in front
  next_step : (b : Bool) (f : Gate) (gs more : List Gate) (g : Gate) → p f ≡ b → position_or_len p (f ∷ gs) ≡ length (f ∷ gs) → (position_or_len p gs ≡ length gs → position_or_len p (gs ++ g ∷ more) ≡ length gs) → position_or_len p (f ∷ gs ++ g ∷ more) ≡ length (f ∷ gs)
  next_step true f gs more g e d rest = let l : 0 ≡ length (f ∷ gs) = rw e at d in absurd (omega arith)
  next_step false f gs more g e d rest = let l : 1 + position_or_len p gs ≡ length (f ∷ gs) = rw e at d in let r : position_or_len p (gs ++ g ∷ more) ≡ length gs = rest (omega arith) in rw e (omega arith)

  -- a gate that is added takes the next place
  pub place_next : (gs more : List Gate) (g : Gate) → position_or_len p gs ≡ length gs → p g ≡ true → position_or_len p (gs ++ g ∷ more) ≡ length gs
  place_next [] more g e t = rw t refl
  place_next (f ∷ gs) more g e t = next_step (p f) f gs more g refl e (λ h. place_next gs more g h t)

-- the gates stay where the gate is there
pub placed_there : (gs : List Gate) (i : ℕ) (g : Gate) → i < length gs → placed gs i g ≡ gs
placed_there gs i g lt = let e : (i == length gs) ≡ false = grind (arith, nat_tests) in ap (λ (b : Bool). if b then gs ++ g ∷ [] else gs) e

-- and have it at the end where it is not
pub placed_next : (gs : List Gate) (i : ℕ) (g : Gate) → i ≡ length gs → placed gs i g ≡ gs ++ g ∷ []
placed_next gs i g h = let e : (i == length gs) ≡ true = grind (arith, nat_tests) in ap (λ (b : Bool). if b then gs ++ g ∷ [] else gs) e

-- what is known of a place: it is below the length, or the next free one
pub data Standing (gs : List Gate) (i : ℕ) : Type 0 where
  there : i < length gs → Standing gs i
  next : i ≡ length gs → Standing gs i

-- the place of a gate is one that is there, or the next free one
pub standing : (gs : List Gate) (i : ℕ) → i ≤ length gs → Standing gs i
standing gs i le = by (i == length gs) refl
  where
    by : (b : Bool) → (i == length gs) ≡ b → Standing gs i
    by true e = next (eqb-true i (length gs) e)
    by false e = there (grind (arith, nat_tests))

-- once a gate was placed, it is found where it was placed
pub place_again : (p : Gate → Bool) (gs later : List Gate) (g : Gate) → p g ≡ true → Extends (placed gs (position_or_len p gs) g) later → position_or_len p later ≡ position_or_len p gs
place_again p gs later g t h = elim (standing gs (position_or_len p gs) (place_le p gs)) [
  | there lt ↦ rw (h.is, placed_there gs (position_or_len p gs) g lt) (place_kept p gs h.more lt)
  | next e ↦ rw (h.is, placed_next gs (position_or_len p gs) g e, append_assoc gs (g ∷ []) h.more) (place_next p gs h.more g e t ∙ sym e)
]
