-- Names and what a quote makes of them: what is found is one, and none is longer.
use Rattle.std.proofs.Common.{◌≡◌, ℕ, suc, ◌+◌, ◌<◌, ◌≤◌, Bool, true, false, cond, ◌==◌, List, [], ◌∷◌, ◌++◌, length, take, drop, refl, ap, subst, arith, ◌∙◌}
use Rattle.std.specs.Prelude.{◌||◌, ◌&&◌}
use Rattle.std.specs.List.{list_all}
use Rattle.std.proofs.lemmas.Bool.{eqb-true, ne_eqb, and_parts, and_from}
use Rattle.std.proofs.lemmas.List.{append_assoc, length-append, take-append-drop, length-take-le, take_at, drop_at}
use Rattle.std.proofs.Math.Seq.{take-append-add}
use Rattle.spec_tokens.specs.declared.Kind.TheVariants.{Name, Misquoted}
use Rattle.spec_tokens.specs.Letters.{run, begins_name, continues_name, is_quote}
use Rattle.spec_tokens.specs.Forms.{is_name, is_prefix, IsMisquoted}
use Rattle.spec_tokens.specs.Cutting.{string_of, named, piece_of}
use Rattle.spec_tokens.proofs.Found.{IsFormed, Reaches}
use Rattle.spec_tokens.proofs.Fronts.{quote_ends, name_front}
use Rattle.spec_tokens.proofs.Literals.{string_found}
use Rattle.spec_tokens.proofs.Runs.{run_found, run_reached, run_ends}
use Rattle.spec_tokens.proofs.Sizes.{run_within, string_size}

-- ---- what is found

-- a name is found
name_found : (c : ℕ) (w r : List ℕ) → begins_name c ≡ true → list_all continues_name w ≡ true → is_name (take (suc (length w)) (c ∷ (w ++ r))) ≡ true
name_found c w r b h = rw (take_at w r (length w) refl) (and_from (begins_name c) (list_all continues_name w) b h)

-- a name with a quote directly behind it is found
misquoted_found : (c d : ℕ) (w r : List ℕ) → begins_name c ≡ true → list_all continues_name w ≡ true → is_quote d ≡ true → is_prefix (c ∷ w) ≡ false → IsMisquoted (take (suc (suc (length w))) (c ∷ (w ++ d ∷ r)))
misquoted_found c d w r b h is other = record {
  name = c ∷ w;
  quote = d;
  named = and_from (begins_name c) (list_all continues_name w) b h;
  other = other;
  quoted = is;
  parts = parts;
}
  where
    parts : c ∷ take (suc (length w)) (w ++ d ∷ r) ≡ c ∷ (w ++ d ∷ [])
    parts =
        let e : suc (length w) ≡ length w + 1 = omega arith in
        ap (λ (n : ℕ). c ∷ take n (w ++ d ∷ r)) e ∙ ap (λ (v : List ℕ). c ∷ v) (take-append-add w (d ∷ r) 1)

-- the name, or what a quote makes of it, is found
before_found : (c : ℕ) (w r : List ℕ) → begins_name c ≡ true → list_all continues_name w ≡ true → IsFormed (c ∷ (w ++ r)) (named c (length w) r)
before_found c w [] b h = name_found c w [] b h
before_found c [] (d ∷ r) b h = at (is_quote d) (c == 114 || c == 82) refl refl
  where
    at : (p q : Bool) → is_quote d ≡ p → (c == 114 || c == 82) ≡ q → IsFormed (c ∷ d ∷ r) (cond p (cond q (string_of 1 d r) (Misquoted, 2)) (Name, 1))
    at true true ep eq = string_found (c ∷ []) d r ep eq
    at true false ep eq = misquoted_found c d [] r b h ep eq
    at false q ep eq = name_found c [] (d ∷ r) b h
before_found c (e ∷ w) (d ∷ r) b h = rw (ne_eqb (suc (length w)) 0 (λ z. absurd (omega arith))) (at (is_quote d) refl)
  where
    at : (p : Bool) → is_quote d ≡ p → IsFormed (c ∷ e ∷ (w ++ d ∷ r)) (cond p (Misquoted, suc (suc (suc (length w)))) (Name, suc (suc (length w))))
    at true ep = misquoted_found c d (e ∷ w) r b h ep refl
    at false ep = name_found c (e ∷ w) (d ∷ r) b h

-- the same where the name is the run of its letters
pub named_found : (c : ℕ) (s : List ℕ) → begins_name c ≡ true → IsFormed (c ∷ s) (named c (run continues_name s) (drop (run continues_name s) s))
named_found c s b =
    let n : ℕ = run continues_name s in
    subst (λ (v : List ℕ). IsFormed (c ∷ v) (named c (run continues_name s) (drop (run continues_name s) s))) (take-append-drop n s)
    (subst (λ (m : ℕ). IsFormed (c ∷ (take n s ++ drop n s)) (named c m (drop n s))) (length-take-le n s (run_within continues_name s)) (before_found c (take n s) (drop n s) b (run_found continues_name s)))

-- ---- none is longer

-- what begins with a name of n letters or fewer is that name or longer
named_reached : (c n m : ℕ) (r : List ℕ) → m ≤ suc n → Reaches Name m (named c n r)
named_reached c n m [] le = (omega arith, λ e. refl)
named_reached c n m (d ∷ r) le = at (is_quote d) (n == 0 && (c == 114 || c == 82)) refl
  where
    at : (p q : Bool) → (n == 0 && (c == 114 || c == 82)) ≡ q → Reaches Name m (cond p (cond q (string_of 1 d r) (Misquoted, suc (suc n))) (Name, suc n))
    at false q e = (omega arith, λ f. refl)
    at true false e = (omega arith, λ f. absurd (omega arith))
    at true true e =
        let none = eqb-true n 0 (and_parts (n == 0) (c == 114 || c == 82) e).0 in
        let size = string_size 1 d r in
        (omega arith, λ f. absurd (omega arith))

-- a name is found, or a longer piece
pub name_reached : (w r : List ℕ) → is_name w ≡ true → (0 < length w) × Reaches Name (length w) (piece_of (w ++ r))
name_reached [] r h = absurd cc
name_reached (c ∷ w) r h =
    let both = and_parts (begins_name c) (list_all continues_name w) h in
    let more = run_reached continues_name w r both.1 in
    (omega arith, rw (name_front c (w ++ r) both.0) (named_reached c (run continues_name (w ++ r)) (suc (length w)) (drop (run continues_name (w ++ r)) (w ++ r)) (omega arith)))

-- a name that is no prefix and a quote are found as such
named_misquoted : (c d : ℕ) (w r : List ℕ) → is_quote d ≡ true → is_prefix (c ∷ w) ≡ false → named c (length w) (d ∷ r) ≡ (Misquoted, suc (suc (length w)))
named_misquoted c d [] r is other = rw (is, other) refl
named_misquoted c d (e ∷ w) r is other = rw (ne_eqb (suc (length w)) 0 (λ z. absurd (omega arith)), is) refl

-- the front of a name that is no prefix, with a quote directly behind it
misquoted_front : (v : List ℕ) (d : ℕ) (r : List ℕ) → is_name v ≡ true → is_prefix v ≡ false → is_quote d ≡ true → piece_of (v ++ d ∷ r) ≡ (Misquoted, suc (length v))
misquoted_front [] d r h other is = absurd cc
misquoted_front (c ∷ w) d r h other is =
    let both = and_parts (begins_name c) (list_all continues_name w) h in
    let ends = run_ends continues_name w d r both.1 (quote_ends d is) in
    name_front c (w ++ d ∷ r) both.0 ∙ rw (ends, drop_at w (d ∷ r) (length w) refl) (named_misquoted c d w r is other)

-- a name that is no prefix and a quote directly behind it are found
pub misquoted_reached : (w r : List ℕ) → IsMisquoted w → (0 < length w) × Reaches Misquoted (length w) (piece_of (w ++ r))
misquoted_reached w r h =
    let size : length w ≡ suc (length h.name) = ap length h.parts ∙ length-append h.name (h.quote ∷ []) ∙ (let e : length h.name + 1 ≡ suc (length h.name) = omega arith in e) in
    let whole : w ++ r ≡ h.name ++ h.quote ∷ r = ap (λ v. v ++ r) h.parts ∙ append_assoc h.name (h.quote ∷ []) r in
    (omega arith, rw (whole, misquoted_front h.name h.quote r h.named h.other h.quoted) (omega arith, λ e. refl))
