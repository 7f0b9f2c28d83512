-- The front of letters: what is found is a form or an unknown letter, and no form there is longer.
use Rattle.std.proofs.Common.{◌≡◌, ℕ, suc, ◌+◌, ◌<◌, ◌≤◌, Bool, true, false, cond, ◌==◌, List, [], ◌∷◌, ◌++◌, length, take, refl, ap, inl, inr, arith, ◌∙◌}
use Rattle.std.specs.List.{list_all}
use Rattle.std.proofs.lemmas.Bool.{eqb-true, and_parts, and_from}
use Rattle.std.proofs.lemmas.List.{append_assoc, length-append}
use Rattle.spec_tokens.specs.declared.Kind.{Kind}
use Rattle.spec_tokens.specs.declared.Kind.TheVariants.{Blank, Comment, LineEnd, Join, Name, Integer, Text, Operator, Open, Close, OpenText, Misquoted, Unknown}
use Rattle.spec_tokens.specs.Letters.{run, is_blank, is_inline, is_quote}
use Rattle.spec_tokens.specs.Forms.{is_start, is_integer, quotes_of, IsQuoted, IsForm}
use Rattle.spec_tokens.specs.Cutting.{string_of, join_of, piece_of}
use Rattle.spec_tokens.proofs.Found.{IsFound, Reaches}
use Rattle.spec_tokens.proofs.Fronts.{prefix_letter, quote_ends, blank_front, comment_front, feed_front, slash_front, quote_front, digit_front, name_front, opening_front, closing_front}
use Rattle.spec_tokens.proofs.Integers.{integer_found, integer_reached}
use Rattle.spec_tokens.proofs.Literals.{string_found, behind_quote, closed_reached, open_reached}
use Rattle.spec_tokens.proofs.Names.{named_found, name_reached, misquoted_reached}
use Rattle.spec_tokens.proofs.Operators.{sign_found, operator_reached}
use Rattle.spec_tokens.proofs.Runs.{run_found, run_reached}
use Rattle.spec_tokens.proofs.Steps.{piece_by}
use Rattle.spec_tokens.proofs.Strings.{quotes_some}

-- ---- what is found

-- a backslash before a line end joins lines, and another is unknown
join_found : (s : List ℕ) → IsFound (92 ∷ s) (join_of s)
join_found [] = inr (refl, refl)
join_found (c ∷ s) = at (c == 10) refl
  where
    at : (b : Bool) → (c == 10) ≡ b → IsFound (92 ∷ c ∷ s) (cond b (Join, 2) (Unknown, 1))
    at true e = inl (ap (λ (d : ℕ). 92 ∷ d ∷ []) (eqb-true c 10 e))
    at false e = inr (refl, refl)

-- what is found at the front of letters is a form, or an unknown letter
pub piece_found : (s : List ℕ) → 0 < length s → IsFound s (piece_of s)
piece_found s lt = piece_by IsFound
    (λ c s h. inl (and_from (is_blank c) (list_all is_blank (take (run is_blank s) s)) h (run_found is_blank s), λ e. absurd cc))
    (λ s. inl (take (run is_inline s) s, refl, run_found is_inline s))
    (λ s. inl refl)
    join_found
    (λ c s h. inl (string_found [] c s h refl))
    (λ c s h. inl (integer_found c s h))
    (λ c s h. inl (named_found c s h))
    sign_found
    s lt

-- ---- none is longer

-- a form has a letter, and is found there, or a longer one
abbrev pub IsReached : Kind → List ℕ → List ℕ → Type 0
IsReached k w r = (0 < length w) × Reaches k (length w) (piece_of (w ++ r))

-- a piece reaches its own size
reaches_own : (k : Kind) (n : ℕ) → Reaches k n (k, n)
reaches_own k n = (omega arith, λ e. refl)

-- a piece reaches each smaller size, with its own kind
reaches_less : (k : Kind) (m n : ℕ) → m ≤ n → Reaches k m (k, n)
reaches_less k m n le = (le, λ e. refl)

-- blanks are found, or more of them
blank_reached : (w r : List ℕ) → IsForm Blank w → IsReached Blank w r
blank_reached [] r h = absurd (h.1 refl)
blank_reached (c ∷ w) r h =
    let both = and_parts (is_blank c) (list_all is_blank w) h.0 in
    let more = run_reached is_blank w r both.1 in
    (omega arith, rw (blank_front c (w ++ r) both.0) (reaches_less Blank (suc (length w)) (suc (run is_blank (w ++ r))) (omega arith)))

-- a comment is found, or a longer one
comment_reached : (w r : List ℕ) → IsForm Comment w → IsReached Comment w r
comment_reached w r (v, e, h) =
    let more = run_reached is_inline v r h in
    rw e (omega arith, rw (comment_front (v ++ r)) (reaches_less Comment (suc (length v)) (suc (run is_inline (v ++ r))) (omega arith)))

-- an integer is found, or a longer one
integer_form : (w r : List ℕ) → is_integer w ≡ true → IsReached Integer w r
integer_form [] r h = absurd cc
integer_form (c ∷ w) r h =
    let found = integer_reached c w r h in
    (omega arith, rw (digit_front c (w ++ r) found.0) (found.1, λ e. refl))

-- where a string starts, its prefix and its quote decide the piece
string_front : (prefix : List ℕ) (q : ℕ) (s : List ℕ) → is_start prefix ≡ true → is_quote q ≡ true → piece_of (prefix ++ q ∷ s) ≡ string_of (length prefix) q s
string_front [] q s start is = quote_front q s is
string_front (c ∷ []) q s start is = name_front c (q ∷ s) (prefix_letter c start) ∙ rw (quote_ends q is, is, start) refl
string_front (c ∷ d ∷ v) q s start is = absurd cc

-- opening quotes are a quote and what is behind it
quotes_behind : (long : Bool) (q : ℕ) (s : List ℕ) → quotes_of long q ++ s ≡ q ∷ behind_quote long q s
quotes_behind true q s = refl
quotes_behind false q s = refl

-- the piece at the front of a string, whatever follows it
quoted_front : (Inside : Bool → ℕ → List ℕ → Type 0) (w r : List ℕ) (h : IsQuoted Inside w)
    → (piece_of (w ++ r) ≡ string_of (length h.prefix) h.quote (behind_quote h.long h.quote (h.inside ++ r))) × (length w ≡ length h.prefix + length (quotes_of h.long h.quote) + length h.inside)
quoted_front Inside w r h =
    let whole : w ++ r ≡ h.prefix ++ h.quote ∷ behind_quote h.long h.quote (h.inside ++ r) =
    ap (λ v. v ++ r) h.parts
    ∙ append_assoc h.prefix (quotes_of h.long h.quote ++ h.inside) r
    ∙ ap (λ v. h.prefix ++ v) (append_assoc (quotes_of h.long h.quote) h.inside r ∙ quotes_behind h.long h.quote (h.inside ++ r)) in
    let outer = length-append h.prefix (quotes_of h.long h.quote ++ h.inside) in
    let inner = length-append (quotes_of h.long h.quote) h.inside in
    let size = ap length h.parts in
    (ap piece_of whole ∙ string_front h.prefix h.quote (behind_quote h.long h.quote (h.inside ++ r)) h.prefixed h.quoted, omega arith)

-- a string has a letter
quoted_some : (Inside : Bool → ℕ → List ℕ → Type 0) (w : List ℕ) → IsQuoted Inside w → 0 < length w
quoted_some Inside w h =
    let some = quotes_some h.long h.quote in
    let size = (quoted_front Inside w [] h).1 in
    omega arith

-- a form is found, or a longer one
pub form_reached : (k : Kind) (w r : List ℕ) → IsForm k w → IsReached k w r
form_reached Blank w r h = blank_reached w r h
form_reached Comment w r h = comment_reached w r h
form_reached LineEnd w r h = rw h (omega arith, rw (feed_front r) (reaches_own LineEnd 1))
form_reached Join w r h = rw h (omega arith, rw (slash_front (10 ∷ r)) (reaches_own Join 2))
form_reached Name w r h = name_reached w r h
form_reached Integer w r h = integer_form w r h
form_reached Text w r h = let front = quoted_front _ w r h in (quoted_some _ w h, rw front.0 (closed_reached h.long (length h.prefix) h.quote (length w) h.inside r h.quoted h.rest front.1))
form_reached Operator w r h = operator_reached w r h
form_reached (Open b) w r h = rw h (omega arith, rw (opening_front b r) (reaches_own (Open b) 1))
form_reached (Close b) w r h = rw h (omega arith, rw (closing_front b r) (reaches_own (Close b) 1))
form_reached OpenText w r h = let front = quoted_front _ w r h in (quoted_some _ w h, rw front.0 (open_reached h.long (length h.prefix) h.quote (length w) h.inside r h.quoted h.rest front.1))
form_reached Misquoted w r h = misquoted_reached w r h
form_reached Unknown w r h = absurd h
