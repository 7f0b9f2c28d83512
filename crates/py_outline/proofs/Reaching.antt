-- What words reach tells whether their load is above what is admitted.
use Rattle.std.proofs.Common.{◌≡◌, ℕ, Bool, true, false, List, [], ◌∷◌, ◌++◌, max, refl, arith}
use Rattle.std.specs.Prelude.{nat_lt}
use Rattle.std.proofs.lemmas.Bool.{ltb-true, lt-ltb}
use Rattle.spec_grammar.specs.Words.{Word}
use Rattle.spec_grammar.specs.Load.{ends_operand, behind, load_of, load_behind, load, MAX_LOAD}
use Rattle.py_outline.specs.Reach.{Reach, within, over, line_start, reach, reach_behind, reach_of, is_over}

-- what is over stays so
over_stays : (s : List Word) → is_over (reach_of over s) ≡ true
over_stays [] = refl
over_stays (w ∷ s) = over_stays s

-- the greater of two is above a bound where one of them is
max_above : (k m n : ℕ) → nat_lt k m ≡ true → nat_lt k (max m n) ≡ true
max_above k m n e = let h = ltb-true k m e in lt-ltb k (max m n) (omega arith)

max_other : (k m n : ℕ) → nat_lt k m ≡ false → nat_lt k (max m n) ≡ nat_lt k n
max_other k m n e = grind arith

-- one word, before words of which the claim holds
one_word : (b : Bool) (ls : List ℕ) (s : List Word) → is_over (reach_of (within b ls) s) ≡ nat_lt MAX_LOAD (load_behind b ls s) → is_over (reach_of (reach b ls) s) ≡ nat_lt MAX_LOAD (max (load_of ls) (load_behind b ls s))
one_word b ls s h = by_load (nat_lt MAX_LOAD (load_of ls)) refl
  where
    by_load : (t : Bool) → nat_lt MAX_LOAD (load_of ls) ≡ t → is_over (reach_of (reach b ls) s) ≡ nat_lt MAX_LOAD (max (load_of ls) (load_behind b ls s))
    by_load true e = rw (e, max_above MAX_LOAD (load_of ls) (load_behind b ls s) e) (over_stays s)
    by_load false e = rw (e, max_other MAX_LOAD (load_of ls) (load_behind b ls s) e) h

reached : (b : Bool) (ls : List ℕ) (s : List Word) → is_over (reach_of (within b ls) s) ≡ nat_lt MAX_LOAD (load_behind b ls s)
reached b ls [] = refl
reached b ls (w ∷ s) = one_word (ends_operand w) (behind b w ls) s (reached (ends_operand w) (behind b w ls) s)

-- the reach of a line is over exactly where its load is above what is admitted
pub reach_is_load : (s : List Word) → is_over (reach_of line_start s) ≡ nat_lt MAX_LOAD (load s)
reach_is_load s = reached false (0 ∷ []) s

-- a word behind others goes on from what they reach
pub reach_of-push : (r : Reach) (s : List Word) (w : Word) → reach_of r (s ++ w ∷ []) ≡ reach_behind w (reach_of r s)
reach_of-push r [] w = refl
reach_of-push r (x ∷ s) w = reach_of-push (reach_behind x r) s w
