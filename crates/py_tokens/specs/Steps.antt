-- What one turn of a loop gives.
use Rattle.std.specs.Prelude.{ℕ, suc, Bool, false, ◌&&◌, ◌==◌, List, [], ◌∷◌, Option, Some, None, if◌then◌else◌}
use Rattle.spec_tokens.specs.declared.Piece.{Piece}
use Rattle.spec_tokens.specs.Letters.{is_digit}
use Rattle.spec_tokens.specs.Lines.{ends_line, open_behind}
use Rattle.spec_tokens.specs.Forms.{is_digit_of}

-- a carriage return directly before a line feed
abbrev pub is_return : ℕ → List ℕ → Bool
is_return c [] = false
is_return c (d ∷ s) = c == 13 && d == 10

-- what a letter is read as, before the letters s
abbrev pub read_one : ℕ → List ℕ → List ℕ
read_one c [] = if c == 10 then c ∷ [] else c ∷ 10 ∷ []
read_one c (d ∷ s) = if c == 13 && d == 10 then [] else c ∷ []

-- where these letters end, where the letter ends at a place
abbrev pub ends_one : ℕ → List ℕ → ℕ → List ℕ
ends_one c [] end = if c == 10 then end ∷ [] else end ∷ end ∷ []
ends_one c (d ∷ s) end = if c == 13 && d == 10 then [] else end ∷ []

-- how many letters the first line has, its line feed among them
abbrev pub first_line : List ℕ → ℕ
first_line [] = 0
first_line (c ∷ s) = if c == 10 then 1 else suc (first_line s)

-- the digits of the base that a letter stands for, or decimal ones
abbrev pub digits_of : Option ℕ → ℕ → Bool
digits_of None c = is_digit c
digits_of (Some b) c = is_digit_of b c

-- the first item, where there is one
abbrev pub first_item : {A : Type 0} → List A → Option A
first_item [] = None
first_item (x ∷ xs) = Some x

-- how many pieces the first logical line has, where brackets are open
abbrev pub line_size : List Piece → List Piece → ℕ
line_size outer [] = 0
line_size outer (p ∷ ps) = if ends_line outer p.kind then 1 else suc (line_size (open_behind outer p p.kind) ps)
