-- What the first letter of a piece tells.
use Rattle.std.proofs.Common.{◌≡◌, ℕ, suc, ◌<◌, ◌≤◌, ◌⊎◌, Bool, true, false, cond, ◌==◌, List, ◌∷◌, drop, refl, sym, inl, inr, arith, ◌∙◌}
use Rattle.std.specs.Prelude.{◌||◌, ◌&&◌, not, nat_le, nat_lt}
use Rattle.std.specs.Char.{is_ascii_alphabetic}
use Rattle.std.specs.Int.{is_in_range}
use Rattle.std.proofs.lemmas.Bool.{eqb-true, ne_eqb, and_parts, or_cases, or_parts, leb-true, ltb-true, lt-leb, not-true, cases_lt}
use Rattle.unicode_ident.specs.Ident.{is_xid_start}
use Rattle.unicode_ident.proofs.IdentLemmas.{is_xid_start-ascii, is_xid_continue-ascii}
use Rattle.spec_tokens.specs.declared.Bracket.{Bracket}
use Rattle.spec_tokens.specs.declared.Bracket.TheVariants.{Round, Square, Curly}
use Rattle.spec_tokens.specs.declared.Kind.TheVariants.{Blank, Comment, LineEnd, Integer, Open, Close}
use Rattle.spec_tokens.specs.Letters.{run, is_blank, is_inline, is_digit, begins_name, continues_name, is_quote}
use Rattle.spec_tokens.specs.Forms.{opening, closing}
use Rattle.spec_tokens.specs.Cutting.{string_of, named, integer_length, bracket_of, sign_of, join_of, piece_of}

-- ---- names

-- a letter below 128 that is no letter of the alphabet and no `_` begins no name
begins_none : (c : ℕ) → c < 128 → is_ascii_alphabetic c ≡ false → (c == 95) ≡ false → begins_name c ≡ false
begins_none c lt a m = rw (is_xid_start-ascii c lt, a, m) refl

-- a quote goes on with no name
pub quote_ends : (q : ℕ) → is_quote q ≡ true → continues_name q ≡ false
quote_ends q h = at (or_cases (q == 39) (q == 34) h)
  where
    at : ((q == 39) ≡ true) ⊎ ((q == 34) ≡ true) → continues_name q ≡ false
    at (inl e) = rw (eqb-true q 39 e) (is_xid_continue-ascii 39 (omega arith))
    at (inr e) = rw (eqb-true q 34 e) (is_xid_continue-ascii 34 (omega arith))

-- the letter of a prefix begins a name
pub prefix_letter : (c : ℕ) → (c == 114 || c == 82) ≡ true → begins_name c ≡ true
prefix_letter c h = at (or_cases (c == 114) (c == 82) h)
  where
    at : ((c == 114) ≡ true) ⊎ ((c == 82) ≡ true) → begins_name c ≡ true
    at (inl e) = rw (eqb-true c 114 e, is_xid_start-ascii 114 (omega arith)) refl
    at (inr e) = rw (eqb-true c 82 e, is_xid_start-ascii 82 (omega arith)) refl

-- a letter that begins a name is above the digits, and no backslash
name_letter : (c : ℕ) → begins_name c ≡ true → (65 ≤ c) × ((c == 92) ≡ false)
name_letter c h = at (or_cases (is_xid_start c) (c == 95) h) (cases_lt c 128)
  where
    ranges : (is_in_range 65 90 c ≡ true) ⊎ (is_in_range 97 122 c ≡ true) → (65 ≤ c) × ((c == 92) ≡ false)
    ranges (inl r) =
        let both = and_parts (nat_le 65 c) (nat_le c 90) r in
        let low = leb-true 65 c both.0 in
        let high = leb-true c 90 both.1 in
        (omega arith, ne_eqb c 92 (λ e. absurd (omega arith)))
    ranges (inr r) =
        let both = and_parts (nat_le 97 c) (nat_le c 122) r in
        let low = leb-true 97 c both.0 in
        (omega arith, ne_eqb c 92 (λ e. absurd (omega arith)))

    at : (is_xid_start c ≡ true) ⊎ ((c == 95) ≡ true) → (c < 128) ⊎ (128 ≤ c) → (65 ≤ c) × ((c == 92) ≡ false)
    at (inr e) o = rw (eqb-true c 95 e) (omega arith, refl)
    at (inl e) (inl lt) = ranges (or_cases (is_in_range 65 90 c) (is_in_range 97 122 c) (sym (is_xid_start-ascii c lt) ∙ e))
    at (inl e) (inr le) = (omega arith, ne_eqb c 92 (λ e. absurd (omega arith)))

-- a number above another is not the same
apart : (a b : ℕ) → b < a → (a == b) ≡ false
apart a b lt = ne_eqb a b (λ e. absurd (omega arith))

-- ---- the branch that the first letter decides

-- a blank starts a run of blanks
pub blank_front : (c : ℕ) (s : List ℕ) → is_blank c ≡ true → piece_of (c ∷ s) ≡ (Blank, suc (run is_blank s))
unfolding piece_of
blank_front c s h = rw h refl

-- `#` starts a comment up to the line end
pub comment_front : (s : List ℕ) → piece_of (35 ∷ s) ≡ (Comment, suc (run is_inline s))
unfolding piece_of
comment_front s = refl

-- a line feed is a line end
pub feed_front : (s : List ℕ) → piece_of (10 ∷ s) ≡ (LineEnd, 1)
unfolding piece_of
feed_front s = refl

-- a backslash joins lines or is unknown
pub slash_front : (s : List ℕ) → piece_of (92 ∷ s) ≡ join_of s
unfolding piece_of
slash_front s = refl

-- a quote starts a string without a prefix
pub quote_front : (q : ℕ) (s : List ℕ) → is_quote q ≡ true → piece_of (q ∷ s) ≡ string_of 0 q s
unfolding piece_of
quote_front q s h = at (or_cases (q == 39) (q == 34) h)
  where
    at : ((q == 39) ≡ true) ⊎ ((q == 34) ≡ true) → piece_of (q ∷ s) ≡ string_of 0 q s
    at (inl e) = rw (eqb-true q 39 e) refl
    at (inr e) = rw (eqb-true q 34 e) refl

-- a digit starts an integer
pub digit_front : (c : ℕ) (s : List ℕ) → is_digit c ≡ true → piece_of (c ∷ s) ≡ (Integer, integer_length c s)
unfolding piece_of
digit_front c s h =
    let both = and_parts (nat_le 48 c) (nat_le c 57) h in
    let low = leb-true 48 c both.0 in
    let high = leb-true c 57 both.1 in
    let slash : (c == 92) ≡ false = ne_eqb c 92 (λ e. absurd (omega arith)) in
    rw (apart c 32 (omega arith), apart c 9 (omega arith), apart c 35 (omega arith), apart c 10 (omega arith), slash, apart c 39 (omega arith), apart c 34 (omega arith), h) refl

-- a letter that begins a name starts one, or a string behind a prefix, or a name with a quote behind it
pub name_front : (c : ℕ) (s : List ℕ) → begins_name c ≡ true → piece_of (c ∷ s) ≡ named c (run continues_name s) (drop (run continues_name s) s)
unfolding piece_of
name_front c s h =
    let l = name_letter c h in
    rw (apart c 32 (omega arith), apart c 9 (omega arith), apart c 35 (omega arith), apart c 10 (omega arith), l.1, apart c 39 (omega arith), apart c 34 (omega arith), lt-leb c 57 (omega arith)) (digit (nat_le 48 c))
  where
    digit : (b : Bool) → cond (b && false) (Integer, integer_length c s) (cond (begins_name c) (named c (run continues_name s) (drop (run continues_name s) s)) (sign_of (bracket_of c) c s)) ≡ named c (run continues_name s) (drop (run continues_name s) s)
    digit true = rw h refl
    digit false = rw h refl

-- ---- operators and brackets

-- an ASCII letter that no branch takes before that of brackets and operators
abbrev pub is_apart : ℕ → Bool
is_apart c = nat_lt c 128 && not (is_ascii_alphabetic c || c == 95 || is_blank c || c == 35 || c == 10 || c == 92 || is_quote c || is_digit c)

-- such a letter is looked up as a bracket, and then as the start of an operator
pub apart_front : (c : ℕ) (s : List ℕ) → is_apart c ≡ true → piece_of (c ∷ s) ≡ sign_of (bracket_of c) c s
unfolding piece_of
apart_front c s h =
    let low = and_parts (nat_lt c 128) _ h in
    let digit = or_parts _ (is_digit c) (not-true _ low.1) in
    let quote = or_parts _ (is_quote c) digit.0 in
    let slash = or_parts _ (c == 92) quote.0 in
    let feed = or_parts _ (c == 10) slash.0 in
    let hash = or_parts _ (c == 35) feed.0 in
    let blank = or_parts _ (is_blank c) hash.0 in
    let letter = or_parts (is_ascii_alphabetic c) (c == 95) blank.0 in
    let begins = begins_none c (ltb-true c 128 low.0) letter.0 letter.1 in
    rw (blank.1, hash.1, feed.1, slash.1, quote.1, digit.1, begins) refl

-- an opening bracket is found
pub opening_front : (b : Bracket) (s : List ℕ) → piece_of (opening b ∷ s) ≡ (Open b, 1)
opening_front Round s = apart_front 40 s refl
opening_front Square s = apart_front 91 s refl
opening_front Curly s = apart_front 123 s refl

-- a closing bracket is found
pub closing_front : (b : Bracket) (s : List ℕ) → piece_of (closing b ∷ s) ≡ (Close b, 1)
closing_front Round s = apart_front 41 s refl
closing_front Square s = apart_front 93 s refl
closing_front Curly s = apart_front 125 s refl
