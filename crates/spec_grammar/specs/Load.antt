-- The load of a line, which bounds how deep a reader goes into it. It is told before the forms of lines are.
--   At each word stand the line itself and the brackets that are open there, each a level. A bracket is open from its
--   opening sign to the word before its closing sign.
--   Of each level those words count that stand behind its last comma. A closed bracket is left out with all that it holds.
--   The load at a word is the number of open brackets, and one for each `not`, each `else` and each prefix `+`, `-` or `~`
--   among the words that count.
use Rattle.std.specs.Prelude.{ℕ, suc, ◌+◌, ◌-◌, max, List, [], ◌∷◌, length, sum, Bool, true, false, if◌then◌else◌}
use Rattle.spec_grammar.specs.declared.Mark.{Mark}
use Rattle.spec_grammar.specs.declared.Mark.TheVariants as mark
use Rattle.spec_grammar.specs.Words.{Word, Name, Int, Str, Sign}

-- whether a `+` or `-` behind this sign stands between operands
abbrev pub closes_operand : Mark → Bool
closes_operand mark.CloseParen = true
closes_operand mark.CloseBracket = true
closes_operand mark.CloseBrace = true
closes_operand mark.True = true
closes_operand mark.False = true
closes_operand mark.None = true
closes_operand _ = false

-- whether a `+` or `-` behind this word stands between operands
abbrev pub ends_operand : Word → Bool
ends_operand (Name n x) = true
ends_operand (Int n v) = true
ends_operand (Str p) = true
ends_operand (Sign n m) = closes_operand m

-- the levels with one more at the innermost
abbrev pub heavier : List ℕ → List ℕ
heavier [] = []
heavier (k ∷ ls) = suc k ∷ ls

-- the innermost level begins anew, behind a comma
abbrev pub anew : List ℕ → List ℕ
anew [] = []
anew (k ∷ ls) = 0 ∷ ls

-- the levels round the innermost
abbrev pub outer : List ℕ → List ℕ
outer [] = []
outer (k ∷ ls) = ls

-- The counts of the levels behind a sign, where ls are those before it. The flag says that an operand ends before it.
abbrev pub behind_sign : Bool → Mark → List ℕ → List ℕ
behind_sign b mark.OpenParen ls = 0 ∷ ls
behind_sign b mark.OpenBracket ls = 0 ∷ ls
behind_sign b mark.OpenBrace ls = 0 ∷ ls
behind_sign b mark.CloseParen ls = outer ls
behind_sign b mark.CloseBracket ls = outer ls
behind_sign b mark.CloseBrace ls = outer ls
behind_sign b mark.Comma ls = anew ls
behind_sign b mark.Not ls = heavier ls
behind_sign b mark.Else ls = heavier ls
behind_sign b mark.Tilde ls = heavier ls
behind_sign b mark.Plus ls = if b then ls else heavier ls
behind_sign b mark.Minus ls = if b then ls else heavier ls
behind_sign b _ ls = ls

abbrev pub behind : Bool → Word → List ℕ → List ℕ
behind b (Name n x) ls = ls
behind b (Int n v) ls = ls
behind b (Str p) ls = ls
behind b (Sign n m) ls = behind_sign b m ls

-- the load, where these are the counts of the levels, the innermost first and the line itself last
abbrev pub load_of : List ℕ → ℕ
load_of ls = sum ls + (length ls - 1)

-- the greatest load at one of the words, behind others
abbrev pub load_behind : Bool → List ℕ → List Word → ℕ
load_behind b ls [] = 0
load_behind b ls (w ∷ s) = max (load_of (behind b w ls)) (load_behind (ends_operand w) (behind b w ls) s)

-- the greatest load at a word of the line
abbrev pub load : List Word → ℕ
load s = load_behind false (0 ∷ []) s

-- the greatest load that is admitted
abbrev pub MAX_LOAD : ℕ
MAX_LOAD = 100
