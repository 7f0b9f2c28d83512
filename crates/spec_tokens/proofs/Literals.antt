-- String literals: what is found is one, and none is longer.
use Rattle.std.proofs.Common.{◌≡◌, ℕ, ◌+◌, ◌<◌, ◌≤◌, Bool, true, false, cond, List, [], ◌∷◌, ◌++◌, length, take, drop, refl, sym, ap, subst, arith, ◌∙◌}
use Rattle.std.specs.Prelude.{nat_eq}
use Rattle.std.specs.List.{starts_with}
use Rattle.std.proofs.lemmas.Bool.{both_ways}
use Rattle.std.proofs.Math.Seq.{take-append-add}
use Rattle.spec_tokens.specs.declared.Kind.{Kind}
use Rattle.spec_tokens.specs.declared.Kind.TheVariants.{Text, OpenText}
use Rattle.spec_tokens.specs.Letters.{is_quote}
use Rattle.spec_tokens.specs.Forms.{quotes_of, IsClosed, closed, escape, letter, IsOpen, end, escape_open, letter_open, is_start, IsQuoted, IsForm}
use Rattle.spec_tokens.specs.Cutting.{Tail, tail, sized, string_of}
use Rattle.spec_tokens.proofs.Found.{IsFormed, Reaches}
use Rattle.spec_tokens.proofs.Steps.{sized_is}
use Rattle.spec_tokens.proofs.Starts.{starts_parts, starts_from, starts_same}
use Rattle.spec_tokens.proofs.Strings.{InsideOf, tail_found, quotes_slash, tail_closed, GoesOver, tail_open}

-- ---- what is found

-- a string is a form, closed or open
quoted : (b : Bool) (w : List ℕ) → IsQuoted (InsideOf b) w → IsForm (cond b Text OpenText) w
quoted true w h = h
quoted false w h = h

-- the string behind a prefix and opening quotes is a form
sized_found : (long : Bool) (q : ℕ) (prefix s : List ℕ) (n : ℕ) → is_quote q ≡ true → is_start prefix ≡ true → n ≡ length prefix + length (quotes_of long q)
    → IsFormed (prefix ++ (quotes_of long q ++ s)) (sized n (tail long q s))
sized_found long q prefix s n is start e = rw (sized_is n (tail long q s)) (quoted (tail long q s).1 (take (n + (tail long q s).0) (prefix ++ (quotes_of long q ++ s))) (record {
  prefix = prefix;
  long = long;
  quote = q;
  inside = take (tail long q s).0 s;
  prefixed = start;
  quoted = is;
  parts = parts (tail long q s).0;
  rest = tail_found long q s;
}))
  where
    parts : (m : ℕ) → take (n + m) (prefix ++ (quotes_of long q ++ s)) ≡ prefix ++ (quotes_of long q ++ take m s)
    parts m =
        let f : n + m ≡ length prefix + (length (quotes_of long q) + m) = omega arith in
        ap (λ (k : ℕ). take k (prefix ++ (quotes_of long q ++ s))) f
        ∙ take-append-add prefix (quotes_of long q ++ s) (length (quotes_of long q) + m)
        ∙ ap (λ v. prefix ++ v) (take-append-add (quotes_of long q) s m)

-- the string that is found is a form
pub string_found : (prefix : List ℕ) (q : ℕ) (s : List ℕ) → is_quote q ≡ true → is_start prefix ≡ true → IsFormed (prefix ++ q ∷ s) (string_of (length prefix) q s)
string_found prefix q s is start = at (starts_with nat_eq s (q ∷ q ∷ [])) refl
  where
    at : (b : Bool) → starts_with nat_eq s (q ∷ q ∷ []) ≡ b → IsFormed (prefix ++ q ∷ s) (cond b (sized (length prefix + 3) (tail true q (drop 2 s))) (sized (length prefix + 1) (tail false q s)))
    at true e = subst (λ (v : List ℕ). IsFormed (prefix ++ q ∷ v) (sized (length prefix + 3) (tail true q (drop 2 s)))) (sym (starts_parts s (q ∷ q ∷ []) e)) (sized_found true q prefix (drop 2 s) (length prefix + 3) is start (omega arith))
    at false e = sized_found false q prefix s (length prefix + 1) is start (omega arith)

-- ---- none is longer

-- a closed string is found where no longer one is
sized_closed : (n m : ℕ) (t : Tail) → t ≡ (m, true) → Reaches Text (n + m) (sized n t)
sized_closed n m t e = rw e (omega arith, λ f. refl)

-- an open string is found where no longer one is
sized_open : (n m : ℕ) (t : Tail) → GoesOver m t → Reaches OpenText (n + m) (sized n t)
sized_open n m (i, true) h = (omega arith, λ f. let e : m ≡ i = omega arith in let g : true ≡ false = h.1 e in absurd cc)
sized_open n m (i, false) h = (omega arith, λ f. refl)

-- a string of another kind is no piece where a longer one is found
sized_longer : (k : Kind) (n m : ℕ) (t : Tail) → m < n → Reaches k m (sized n t)
sized_longer k n m t lt = rw (sized_is n t) (omega arith, λ f. absurd (omega arith))

-- letters that start with two quotes start with one
two_first : (q : ℕ) (s : List ℕ) → starts_with nat_eq s (q ∷ q ∷ []) ≡ true → starts_with nat_eq s (q ∷ []) ≡ true
two_first q s h = starts_from s (q ∷ []) (q ∷ drop 2 s) (starts_parts s (q ∷ q ∷ []) h)

-- the inside of a closed string in one quote that starts with two quotes, as far as it goes, is the closing one
short_closed : (q : ℕ) (w r : List ℕ) → is_quote q ≡ true → IsClosed false q w → starts_with nat_eq (w ++ r) (q ∷ q ∷ []) ≡ true → length w ≤ 1
short_closed q w r is closed h = omega arith
short_closed q w r is (escape {c = c} {w = v} i) h = absurd (both_ways _ (quotes_slash false q (c ∷ (v ++ r)) is) (two_first q (92 ∷ c ∷ (v ++ r)) h))
short_closed q w r is (letter {c = c} {w = v} a b i g) h = absurd (both_ways _ (starts_same (c ∷ v) r (q ∷ []) (omega arith) ∙ b) (two_first q (c ∷ (v ++ r)) h))

-- the inside of an open string in one quote that starts with two quotes, as far as it goes, is empty
short_open : (q : ℕ) (w r : List ℕ) → is_quote q ≡ true → IsOpen false q w → starts_with nat_eq (w ++ r) (q ∷ q ∷ []) ≡ true → length w ≡ 0
short_open q w r is end h = refl
short_open q w r is (escape_open {c = c} {w = v} i) h = absurd (both_ways _ (quotes_slash false q (c ∷ (v ++ r)) is) (two_first q (92 ∷ c ∷ (v ++ r)) h))
short_open q w r is (letter_open {c = c} {w = v} a b i g) h = absurd (both_ways _ (starts_same (c ∷ v) r (q ∷ []) (omega arith) ∙ b) (two_first q (c ∷ (v ++ r)) h))

-- the letters behind the first of opening quotes
abbrev pub behind_quote : Bool → ℕ → List ℕ → List ℕ
behind_quote true q s = q ∷ q ∷ s
behind_quote false q s = s

-- what is found from three quotes on
string_long : (k : Kind) (n q m : ℕ) (s : List ℕ) → Reaches k m (sized (n + 3) (tail true q s)) → Reaches k m (string_of n q (q ∷ q ∷ s))
string_long k n q m s h = rw (starts_from (q ∷ q ∷ s) (q ∷ q ∷ []) s refl) h

-- what is found from one quote on
string_short : (k : Kind) (n q m : ℕ) (s : List ℕ) → Reaches k m (sized (n + 1) (tail false q s)) → (starts_with nat_eq s (q ∷ q ∷ []) ≡ true → m < n + 3) → Reaches k m (string_of n q s)
string_short k n q m s h g = at (starts_with nat_eq s (q ∷ q ∷ [])) refl
  where
    at : (b : Bool) → starts_with nat_eq s (q ∷ q ∷ []) ≡ b → Reaches k m (cond b (sized (n + 3) (tail true q (drop 2 s))) (sized (n + 1) (tail false q s)))
    at true e = sized_longer k (n + 3) m (tail true q (drop 2 s)) (g e)
    at false e = h

-- a closed string with a prefix of n letters is found, or a longer piece
pub closed_reached : (long : Bool) (n q m : ℕ) (w r : List ℕ) → is_quote q ≡ true → IsClosed long q w → m ≡ n + length (quotes_of long q) + length w → Reaches Text m (string_of n q (behind_quote long q (w ++ r)))
closed_reached true n q m w r is h e = string_long Text n q m (w ++ r) (rw e (sized_closed (n + 3) (length w) (tail true q (w ++ r)) (tail_closed true q w r is h)))
closed_reached false n q m w r is h e = string_short Text n q m (w ++ r) (rw e (sized_closed (n + 1) (length w) (tail false q (w ++ r)) (tail_closed false q w r is h))) (λ two. let small = short_closed q w r is h two in omega arith)

-- so is an open one
pub open_reached : (long : Bool) (n q m : ℕ) (w r : List ℕ) → is_quote q ≡ true → IsOpen long q w → m ≡ n + length (quotes_of long q) + length w → Reaches OpenText m (string_of n q (behind_quote long q (w ++ r)))
open_reached true n q m w r is h e = string_long OpenText n q m (w ++ r) (rw e (sized_open (n + 3) (length w) (tail true q (w ++ r)) (tail_open true q w r is h)))
open_reached false n q m w r is h e = string_short OpenText n q m (w ++ r) (rw e (sized_open (n + 1) (length w) (tail false q (w ++ r)) (tail_open false q w r is h))) (λ two. let small = short_open q w r is h two in omega arith)
