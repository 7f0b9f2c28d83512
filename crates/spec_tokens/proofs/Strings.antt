-- How far strings go on: what is found is one, and none is longer.
use Rattle.std.proofs.Common.{◌≡◌, ℕ, suc, ◌+◌, ◌<◌, ◌≤◌, Bool, true, false, ◌==◌, List, [], ◌∷◌, ◌++◌, length, take, drop, refl, sym, ap, subst, arith, ◌∙◌}
use Rattle.std.specs.Prelude.{◌||◌, nat_eq}
use Rattle.std.specs.List.{starts_with}
use Rattle.std.proofs.lemmas.Bool.{false_from_ne_true}
use Rattle.std.proofs.lemmas.List.{take-append-drop, take_at}
use Rattle.spec_tokens.specs.Letters.{is_inline, is_quote}
use Rattle.spec_tokens.specs.Forms.{quotes_of, IsClosed, closed, escape, letter, IsOpen, end, escape_open, letter_open}
use Rattle.spec_tokens.specs.Cutting.{Tail, longer, tail}
use Rattle.spec_tokens.proofs.Steps.{tail_by, tail_closes, tail_escapes, tail_goes}
use Rattle.spec_tokens.proofs.Starts.{starts_parts, starts_from, starts_none, starts_same, starts_longer}

-- what follows the opening quotes of a string that is closed, or is not
abbrev pub InsideOf : Bool → Bool → ℕ → List ℕ → Type 0
InsideOf true long q w = IsClosed long q w
InsideOf false long q w = IsOpen long q w

-- behind a backslash a letter is passed
inside_escape : (b long : Bool) (q c : ℕ) (w : List ℕ) → InsideOf b long q w → InsideOf b long q (92 ∷ c ∷ w)
inside_escape true long q c w h = escape h
inside_escape false long q c w h = escape_open h

-- another letter is passed
inside_letter : (b long : Bool) (q c : ℕ) (w : List ℕ) → (c == 92) ≡ false → starts_with nat_eq (c ∷ w) (quotes_of long q) ≡ false → (long || is_inline c) ≡ true → InsideOf b long q w → InsideOf b long q (c ∷ w)
inside_letter true long q c w a e i h = letter a e i h
inside_letter false long q c w a e i h = letter_open a e i h

-- the letters over which a string goes on are the inside of one
pub tail_found : (long : Bool) (q : ℕ) (s : List ℕ) → InsideOf (tail long q s).1 long q (take (tail long q s).0 s)
tail_found long q s = tail_by long q (λ s t. InsideOf t.1 long q (take t.0 s))
    end
    (λ s h. subst (λ (w : List ℕ). IsClosed long q w) (sym (ap (take (length (quotes_of long q))) (starts_parts s (quotes_of long q) h) ∙ take_at (quotes_of long q) (drop (length (quotes_of long q)) s) (length (quotes_of long q)) refl)) closed)
    (λ c s t h. let e : 2 + t.0 ≡ suc (suc t.0) = omega arith in rw e (inside_escape t.1 long q c (take t.0 s) h))
    (λ c s t a b i h. let e : 1 + t.0 ≡ suc t.0 = omega arith in rw e (inside_letter t.1 long q c (take t.0 s) a (starts_none (c ∷ take t.0 s) (drop t.0 s) (quotes_of long q) (ap (λ (v : List ℕ). starts_with nat_eq (c ∷ v) (quotes_of long q)) (take-append-drop t.0 s) ∙ b)) i h))
    (λ c s h. end)
    s

-- ---- none is longer

-- there is a quote in quotes
pub quotes_some : (long : Bool) (q : ℕ) → 0 < length (quotes_of long q)
quotes_some true q = omega arith
quotes_some false q = omega arith

-- letters that start with quotes begin with one
pub quotes_first : (long : Bool) (q c : ℕ) (s : List ℕ) → starts_with nat_eq (c ∷ s) (quotes_of long q) ≡ true → c ≡ q
quotes_first true q c s h = let e : c ∷ s ≡ q ∷ q ∷ q ∷ drop 3 (c ∷ s) = starts_parts (c ∷ s) (quotes_of true q) h in cc
quotes_first false q c s h = let e : c ∷ s ≡ q ∷ drop 1 (c ∷ s) = starts_parts (c ∷ s) (quotes_of false q) h in cc

-- a backslash is no quote
pub quotes_slash : (long : Bool) (q : ℕ) (s : List ℕ) → is_quote q ≡ true → starts_with nat_eq (92 ∷ s) (quotes_of long q) ≡ false
quotes_slash long q s h = false_from_ne_true (starts_with nat_eq (92 ∷ s) (quotes_of long q)) (λ t. let e : 92 ≡ q = quotes_first long q 92 s t in let f : is_quote 92 ≡ true = ap is_quote e ∙ h in absurd cc)

-- the inside of a closed string has its closing quotes
closed_size : (long : Bool) (q : ℕ) (w : List ℕ) → IsClosed long q w → length (quotes_of long q) ≤ length w
closed_size long q w closed = omega arith
closed_size long q w (escape {w = v} h) = let m = closed_size long q v h in omega arith
closed_size long q w (letter {w = v} a b i h) = let m = closed_size long q v h in omega arith

-- quotes before letters start the whole
starts_own : (w r : List ℕ) → starts_with nat_eq (w ++ r) w ≡ true
starts_own w r = starts_from (w ++ r) w r refl

-- a string that is closed ends there, whatever follows it
pub tail_closed : (long : Bool) (q : ℕ) (w r : List ℕ) → is_quote q ≡ true → IsClosed long q w → tail long q (w ++ r) ≡ (length w, true)
tail_closed true q w r is closed = tail_closes true q q (q ∷ q ∷ r) (starts_own (q ∷ q ∷ q ∷ []) r)
tail_closed false q w r is closed = tail_closes false q q r (starts_own (q ∷ []) r)
tail_closed long q w r is (escape {c = c} {w = v} h) =
    let e : 2 + length v ≡ suc (suc (length v)) = omega arith in
    tail_escapes long q c (v ++ r) (quotes_slash long q (c ∷ (v ++ r)) is) ∙ ap (longer 2) (tail_closed long q v r is h) ∙ ap (λ (n : ℕ). (n, true)) e
tail_closed long q w r is (letter {c = c} {w = v} a b i h) =
    let m = closed_size long q v h in
    let e : 1 + length v ≡ suc (length v) = omega arith in
    let none : starts_with nat_eq (c ∷ (v ++ r)) (quotes_of long q) ≡ false = starts_same (c ∷ v) r (quotes_of long q) (omega arith) ∙ b in
    tail_goes long q c (v ++ r) a none i ∙ ap (longer 1) (tail_closed long q v r is h) ∙ ap (λ (n : ℕ). (n, true)) e

-- a string goes on over n letters at least, and is not closed where it does over no more
abbrev pub GoesOver : ℕ → Tail → Type 0
GoesOver n t = (n ≤ t.0) × (n ≡ t.0 → t.1 ≡ false)

-- where no letter is passed, the string is not closed
tail_none : (long : Bool) (q : ℕ) (s : List ℕ) → GoesOver 0 (tail long q s)
tail_none long q s = (
  omega arith,
  tail_by long q (λ s t. 0 ≡ t.0 → t.1 ≡ false)
      (λ e. refl)
      (λ s h e. let some = quotes_some long q in absurd (omega arith))
      (λ c s t h e. absurd (omega arith))
      (λ c s t a b i h e. absurd (omega arith))
      (λ c s h e. refl)
      s,
)

-- a string goes on over letters with no closing quotes
pub tail_open : (long : Bool) (q : ℕ) (w r : List ℕ) → is_quote q ≡ true → IsOpen long q w → GoesOver (length w) (tail long q (w ++ r))
tail_open long q w r is end = tail_none long q r
tail_open long q w r is (escape_open {c = c} {w = v} h) =
    let m = tail_open long q v r is h in
    rw (tail_escapes long q c (v ++ r) (quotes_slash long q (c ∷ (v ++ r)) is)) (omega arith, λ e. m.1 (omega arith))
tail_open long q w r is (letter_open {c = c} {w = v} a b i h) = at (starts_with nat_eq (c ∷ (v ++ r)) (quotes_of long q)) refl (tail_open long q v r is h)
  where
    at : (t : Bool) → starts_with nat_eq (c ∷ (v ++ r)) (quotes_of long q) ≡ t → GoesOver (length v) (tail long q (v ++ r)) → GoesOver (suc (length v)) (tail long q (c ∷ (v ++ r)))
    at true e m =
        let less = starts_longer (c ∷ v) r (quotes_of long q) b e in
        rw (tail_closes long q c (v ++ r) e) (omega arith, λ f. absurd (omega arith))
    at false e m = rw (tail_goes long q c (v ++ r) a e i) (omega arith, λ f. m.1 (omega arith))
