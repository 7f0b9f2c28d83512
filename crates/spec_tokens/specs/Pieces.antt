-- Letters cut into pieces, each the longest form that starts at its place.
use Rattle.std.specs.Prelude.{◌≡◌, ℕ, suc, ◌+◌, ◌-◌, ◌≤◌, ◌==◌, List, [], ◌∷◌, ◌++◌, length, take, drop, if◌then◌else◌}
use Rattle.spec_tokens.specs.declared.Kind.{Kind}
use Rattle.spec_tokens.specs.declared.Kind.TheVariants.{Unknown}
use Rattle.spec_tokens.specs.declared.Piece.{Piece}
use Rattle.spec_tokens.specs.Forms.{IsForm}

-- no form starts s
abbrev pub NoForm : List ℕ → Type 0
NoForm s = (k : Kind) (w r : List ℕ) → IsForm k w → s ≡ w ++ r → ⊥

-- w is the longest form that starts the letters w ++ r
pub record IsLongest (k : Kind) (w r : List ℕ) : Type 0 where
  pub form : IsForm k w
  pub longest : (j : Kind) (v q : List ℕ) → IsForm j v → w ++ r ≡ v ++ q → length v ≤ length w

-- w is the piece of the kind k that starts the letters w ++ r: the longest form, or one letter at which no form starts
pub data IsPiece : Kind → List ℕ → List ℕ → Type 0 where
  longest : {k : Kind} {w r : List ℕ} → IsLongest k w r → IsPiece k w r
  unknown : {c : ℕ} {r : List ℕ} → NoForm (c ∷ r) → IsPiece Unknown (c ∷ []) r

-- how many line feeds there are
abbrev pub line_feeds : List ℕ → ℕ
line_feeds [] = 0
line_feeds (c ∷ s) = if c == 10 then suc (line_feeds s) else line_feeds s

-- The pieces of letters of which the first has the number `at` and stands on the line `line`. Each starts where the one before it ends.
pub data IsCut : ℕ → ℕ → List ℕ → List Piece → Type 0 where
  no_piece : {at line : ℕ} → IsCut at line [] []
  piece : {at line : ℕ} {k : Kind} {w r s : List ℕ} {ps : List Piece} → IsPiece k w r → s ≡ w ++ r → IsCut (at + length w) (line + line_feeds w) r ps
      → IsCut at line s (record { kind = k; start = at; end = at + length w; line = line } ∷ ps)

-- the pieces of all the letters
abbrev pub ArePieces : List ℕ → List Piece → Type 0
ArePieces letters ps = IsCut 0 1 letters ps

-- the letters of a piece
abbrev pub spelling : List ℕ → Piece → List ℕ
spelling letters p = take (p.end - p.start) (drop p.start letters)
