-- How contract lines begin.
use Rattle.std.specs.Prelude.{ℕ, ◌==◌, nat_eq, List, [], ◌∷◌, length, drop, reverse, Option, Some, None, codes, encode_utf8_all, if◌then◌else◌}
use Rattle.std.specs.List.{starts_with, slice_split, before_first, after_first}
use Rattle.spec_tokens.specs.Forms.{is_name}
use Rattle.spec_grammar.specs.Reading.{◌>>=◌}
use Rattle.spec_syntax.specs.Texts.{unindented}
use Rattle.unicode_normalization.specs.Forms.{nfkc}
use Rattle.spec_contracts.specs.declared.LineKind.{LineKind}
use Rattle.spec_contracts.specs.declared.LineKind.TheVariants.{Pre, Post, Raises, Invariant}

-- what a contract line is, the names in its brackets where it has brackets, and what stands behind the colon
pub record Head : Type 0 where
  pub kind : LineKind
  pub names : Option (List (List ℕ))
  pub rest : List ℕ

-- what stands behind a word
abbrev pub behind : List ℕ → List ℕ → Option (List ℕ)
behind word s = if starts_with nat_eq s word then Some (drop (length word) s) else None

-- without the spaces and tabs on both sides
abbrev pub trimmed : List ℕ → List ℕ
trimmed s = reverse (unindented (reverse (unindented s)))

-- a name with spaces and tabs round it, as a tree has it
abbrev pub name_in : List ℕ → Option (List ℕ)
name_in s = if is_name (trimmed s) then Some (encode_utf8_all (nfkc (trimmed s))) else None

abbrev pub all_named : List (List ℕ) → Option (List (List ℕ))
all_named [] = Some []
all_named (s ∷ ss) = name_in s >>= λ x. all_named ss >>= λ xs. Some (x ∷ xs)

-- names with commas between them, of which there is at least one
abbrev pub names_in : List ℕ → Option (List (List ℕ))
names_in s = all_named (slice_split (λ c. c == 44) s)

-- and in brackets there may be none
abbrev pub bracket_names : List ℕ → Option (List (List ℕ))
bracket_names s = if length (unindented s) == 0 then Some [] else names_in s

-- what begins with a word and goes on in any way
abbrev pub plain : List ℕ → LineKind → List ℕ → Option Head
plain word kind s = behind word s >>= λ rest. Some (record { kind = kind; names = None; rest = rest })

-- `post[NAMES]:`; where the brackets hold anything else, the line is prose
abbrev pub bracketed : List ℕ → Option Head
bracketed s = behind (codes "post[") s >>= λ t. bracket_names (before_first (λ c. c == 93) t) >>= λ names. behind (codes ":") (after_first (λ c. c == 93) t) >>= λ rest. Some (record { kind = Post; names = Some names; rest = rest })

abbrev pub or_else : Option Head → Option Head → Option Head
or_else (Some h) o = Some h
or_else None o = o

-- how a line begins, where it is a contract line
abbrev pub head_of : List ℕ → Option Head
head_of s = or_else (plain (codes "pre:") Pre s) (or_else (plain (codes "post:") Post s) (or_else (bracketed s) (or_else (plain (codes "inv:") Invariant s) (plain (codes "raises:") Raises s))))
