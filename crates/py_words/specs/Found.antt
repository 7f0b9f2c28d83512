-- What is found at a place among words, by what the grammar finds at the front of the words there.
use Rattle.std.specs.Prelude.{◌≡◌, ⊤, ℕ, ◌+◌, List, [], ◌∷◌, drop, Option, Some, None}
use Rattle.spec_trees.specs.Expr.{StringPart}
use Rattle.spec_grammar.specs.declared.Mark.{Mark}
use Rattle.spec_grammar.specs.Words.{Word, Name, Int, Str, Sign}
use Rattle.py_tree.specs.declared.exprs.StrPart.{StrPart}
use Rattle.py_tree.specs.Exprs.{part_tree}
use Rattle.py_words.specs.declared.unread.Unread.{Unread}
use Rattle.py_words.specs.declared.unread.Unread.TheVariants.{NoForm, NoMemory}
use Rattle.py_words.specs.declared.words.Word as kept
use Rattle.py_words.specs.Seen.{seen}

-- the place behind what stands there
abbrev pub Finds : List Word → Option ℕ → Option (List Word) → Type 0
Finds s None o = o ≡ None
Finds s (Some p) o = o ≡ Some (drop p s)

-- a value and the place behind it
abbrev pub FindsWith : {A : Type 0} → List Word → Option (A × ℕ) → Option (A × List Word) → Type 0
FindsWith s None o = o ≡ None
FindsWith s (Some x) o = o ≡ Some (x.0, drop x.1 s)

-- the same, of a value that is seen by a view
abbrev pub FindsSeen : {A B : Type 0} → (B → A) → List Word → Option (B × ℕ) → Option (A × List Word) → Type 0
FindsSeen view s None o = o ≡ None
FindsSeen view s (Some x) o = o ≡ Some (view x.0, drop x.1 s)

-- the word at a place, or the end
abbrev pub IsFirst : List Word → ℕ → Option kept.Word → Type 0
IsFirst s p None = drop p s ≡ []
IsFirst s p (Some w) = drop p s ≡ seen w ∷ drop (p + 1) s

-- the sign that words begin with, and what follows it
abbrev pub first_sign : List Word → Option (Mark × List Word)
first_sign [] = None
first_sign (Name n x ∷ s) = None
first_sign (Int n v ∷ s) = None
first_sign (Str p ∷ s) = None
first_sign (Sign n m ∷ s) = Some (m, s)

-- the string that words begin with
abbrev pub first_string : List Word → Option StringPart
first_string [] = None
first_string (Name n x ∷ s) = None
first_string (Int n v ∷ s) = None
first_string (Str p ∷ s) = Some p
first_string (Sign n m ∷ s) = None

-- the string at a place and the place behind it, or no string there
abbrev pub FindsString : List Word → ℕ → Option (StrPart × ℕ) → Type 0
FindsString s p None = first_string (drop p s) ≡ None
FindsString s p (Some x) = drop p s ≡ Str (part_tree x.0) ∷ drop x.1 s

-- nothing is there to be read; a want of memory says nothing of it
abbrev pub Fails : {A : Type 0} → Unread → Option A → Type 0
Fails NoForm o = o ≡ None
Fails NoMemory o = ⊤
