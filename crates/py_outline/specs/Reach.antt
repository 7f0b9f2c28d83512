-- How far the words of a line go, one after the other, until their load is above what is admitted.
use Rattle.std.specs.Prelude.{ℕ, Bool, true, false, nat_lt, List, [], ◌∷◌, if◌then◌else◌}
use Rattle.spec_grammar.specs.Words.{Word, Name, Int, Str, Sign}
use Rattle.spec_grammar.specs.Load.{ends_operand, behind, load_of, MAX_LOAD}

pub data Reach : Type 0 where
  -- whether the last word ended an operand, and the counts of the levels, the innermost first
  within : Bool → List ℕ → Reach
  -- the load at some word was above what is admitted
  over : Reach

-- before the first word
abbrev pub line_start : Reach
line_start = within false (0 ∷ [])

-- the reach with these counts
abbrev pub reach : Bool → List ℕ → Reach
reach b ls = if nat_lt MAX_LOAD (load_of ls) then over else within b ls

-- the reach behind one more word
abbrev pub reach_behind : Word → Reach → Reach
reach_behind w over = over
reach_behind w (within b ls) = reach (ends_operand w) (behind b w ls)

-- the reach behind all words of a list
abbrev pub reach_of : Reach → List Word → Reach
reach_of r [] = r
reach_of r (w ∷ s) = reach_of (reach_behind w r) s

abbrev pub is_over : Reach → Bool
is_over (within b ls) = false
is_over over = true

-- The word is a name, an integer or a string.
abbrev pub IsOperand : Word → Type 0
IsOperand (Name n x) = Unit {0}
IsOperand (Int n v) = Unit {0}
IsOperand (Str p) = Unit {0}
IsOperand (Sign n m) = ⊥
