-- The characters of a text without the spaces and tabs at its front.
use Rattle.std.proofs.Common.{◌≡◌, ℕ, true, false, List, [], ◌∷◌, ◌++◌, drop, Option, Some, None, refl, sym, ◌∙◌, arith}
use Rattle.std.specs.Prelude.{chars, IfSome, encode_utf8, encode_utf8_all}
use Rattle.std.specs.Char.{IsScalar, char_set_contains}
use Rattle.std.specs.Str.{IsUtf8, all_scalars as scalars}
use Rattle.std.specs.Str.Pattern.{HasPassingCharAt, FindsPrefixBy, CutsPrefixes, IsTrimStartMatches}
use Rattle.std.proofs.lemmas.Str.{chars_past_char, IsUtf8-past_char, encodes-chars, scalars-chars, len_utf8_bounds}
use Rattle.std.proofs.lemmas.Grind.{common_steps}
use Rattle.std.proofs.lemmas.Bool.{and_parts}
use Rattle.spec_tokens.specs.Letters.{is_blank}
use Rattle.spec_syntax.specs.Texts.{unindented}

-- the letters of which each is a blank
pub blanks : (c : ℕ) → char_set_contains (32 ∷ 9 ∷ []) c ≡ is_blank c
blanks c = grind (arith, common_steps)

-- a blank at the front is left out
past_blank : (s : List ℕ) (n : ℕ) → IsUtf8 s → HasPassingCharAt is_blank s 0 n → IsUtf8 (drop n s) × (unindented (chars s) ≡ unindented (chars (drop n s)))
past_blank s n u h = (IsUtf8-past_char s (drop n s) h.0 u h.2.split, rw (chars_past_char s (drop n s) h.0 u h.2.split) (rw h.1 refl))

-- letters of which the first is no blank
blankless : (s cs : List ℕ) → encode_utf8_all cs ≡ s → scalars cs ≡ true → ((c : ℕ) (rest : List ℕ) → IsScalar c → s ≡ encode_utf8 c ++ rest → is_blank c ≡ false) → unindented cs ≡ cs
blankless s [] e a f = refl
blankless s (c ∷ cs) e a f = rw (f c (encode_utf8_all cs) (and_parts _ _ a).0 (sym e)) refl

module _ (R : List ℕ → Option ℕ → Type 0) (finds : (s : List ℕ) (o : Option ℕ) → R s o → FindsPrefixBy is_blank s o) where
  past_cuts : (ns s r : List ℕ) → IsUtf8 s → CutsPrefixes R s ns r → IsUtf8 r × (unindented (chars s) ≡ unindented (chars r))
  past_cuts [] s r u e = rw e (u, refl)
  past_cuts (n ∷ ns) s r u h =
      let a = past_cuts ns s h.0 u h.1 in
      let b = past_blank h.0 n a.0 (finds h.0 (Some n) h.2) in
      rw h.3 (b.0, a.1 ∙ b.1)

  at_front : (r : List ℕ) (o : Option ℕ) → IsUtf8 r → FindsPrefixBy is_blank r o → IfSome o (λ n. n ≡ 0) → unindented (chars r) ≡ chars r
  at_front r None u f z = blankless r (chars r) (encodes-chars r u) (scalars-chars r u) f
  at_front r (Some n) u f z = let b = len_utf8_bounds f.0 in absurd (omega (arith, f.2.ends, z, b.0))

  -- where each blank is cut off the front
  pub trimmed : (s r : List ℕ) → IsUtf8 s → IsTrimStartMatches R s r → chars r ≡ unindented (chars s)
  trimmed s r u h =
      let a = past_cuts h.0.0 s r u h.0.1 in
      sym (a.1 ∙ at_front r h.1.0 a.0 (finds r h.1.0 h.1.1) h.1.2)
