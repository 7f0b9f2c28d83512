-- Where a token begins and ends.
use Rattle.std.proofs.Common.{◌≡◌, ℕ, zero, suc, ◌≤◌, List, [], ◌∷◌, length, Option, Some, None, subst, arith}
use Rattle.std.specs.Prelude.{slice_get, IfSome, chars}
use Rattle.std.specs.Str.{IsCharBoundary, IsUtf8}
use Rattle.std.proofs.lemmas.Str.{encodes-chars}
use Rattle.spec_tokens.specs.declared.Lexeme.{Lexeme}
use Rattle.spec_tokens.specs.Tokens.{Scan}
use Rattle.spec_tokens.specs.WellFormed.{AreOrdered, place, IsWellFormed}

-- of tokens in order, each one is in order
span_at : (from to : ℕ) (ts : List Lexeme) (i : ℕ) (t : Lexeme) → AreOrdered from to ts → Some t ≡ slice_get ts i → (t.start ≤ t.end) × (t.end ≤ to)
span_at from to [] i t h e = absurd cc
span_at from to (u ∷ ts) zero t h e = let same : t ≡ u = cc in rw same (h.1, ends u.end ts h.2)
  where
    ends : (from : ℕ) (ts : List Lexeme) → AreOrdered from to ts → from ≤ to
    ends from [] h = h
    ends from (v ∷ ts) h = let later = ends v.end ts h.2 in omega (arith, h.0, h.1)
span_at from to (u ∷ ts) (suc i) t h e = span_at u.end to ts i t h.2 e

pub rises_at : (text : List ℕ) (s : Scan) (i : ℕ) (o : Option Lexeme) → IsWellFormed text s → o ≡ slice_get s.tokens i → IfSome o (λ t. place s t.start ≤ place s t.end)
rises_at text s i None h e = tt
rises_at text s i (Some t) h e = let span = span_at 0 (length s.letters) s.tokens i t h.ordered e in h.rising t.start t.end span.0 span.1

pub starts_at : (bytes : List ℕ) (s : Scan) (i : ℕ) (o : Option Lexeme) → IsUtf8 bytes → IsWellFormed (chars bytes) s → o ≡ slice_get s.tokens i → IfSome o (λ t. IsCharBoundary bytes (place s t.start))
starts_at bytes s i None u h e = tt
starts_at bytes s i (Some t) u h e =
    let span = span_at 0 (length s.letters) s.tokens i t h.ordered e in
    subst (λ (bs : List ℕ). IsCharBoundary bs (place s t.start)) (encodes-chars bytes u) (h.boundaries t.start (omega (arith, span.0, span.1)))

pub ends_at : (bytes : List ℕ) (s : Scan) (i : ℕ) (o : Option Lexeme) → IsUtf8 bytes → IsWellFormed (chars bytes) s → o ≡ slice_get s.tokens i → IfSome o (λ t. IsCharBoundary bytes (place s t.end))
ends_at bytes s i None u h e = tt
ends_at bytes s i (Some t) u h e =
    let span = span_at 0 (length s.letters) s.tokens i t h.ordered e in
    subst (λ (bs : List ℕ). IsCharBoundary bs (place s t.end)) (encodes-chars bytes u) (h.boundaries t.end span.1)
