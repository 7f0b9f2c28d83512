-- The words of the grammar. Each has the line on which it starts.
use Rattle.std.specs.Prelude.{ℕ, List, [], ◌∷◌}
use Rattle.spec_trees.specs.Expr.{StringPart}
use Rattle.spec_grammar.specs.declared.Mark.{Mark}

pub data Word : Type 0 where
  Name : ℕ → List ℕ → Word
  Int : ℕ → ℕ → Word
  -- its line is in the part
  Str : StringPart → Word
  Sign : ℕ → Mark → Word

-- the line of the first word, and 0 where there is none
abbrev pub line_of : List Word → ℕ
line_of [] = 0
line_of (Name n x ∷ s) = n
line_of (Int n v ∷ s) = n
line_of (Str p ∷ s) = p.line
line_of (Sign n m ∷ s) = n

-- s begins with the sign m, and r follows
pub data IsSign : Mark → List Word → List Word → Type 0 where
  one_sign : {n : ℕ} {m : Mark} {r : List Word} → IsSign m (Sign n m ∷ r) r

-- s begins with the name x, and r follows
pub data IsName : List Word → List Word → List ℕ → Type 0 where
  one_name : {n : ℕ} {x : List ℕ} {r : List Word} → IsName (Name n x ∷ r) r x

-- s begins with the integer v, and r follows
pub data IsInteger : List Word → List Word → ℕ → Type 0 where
  one_integer : {n v : ℕ} {r : List Word} → IsInteger (Int n v ∷ r) r v

-- s begins with the string p, and r follows
pub data IsString : List Word → List Word → StringPart → Type 0 where
  one_string : {p : StringPart} {r : List Word} → IsString (Str p ∷ r) r p
