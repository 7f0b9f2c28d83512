-- The size of the piece at the front: at least one letter, and no more than there are.
use Rattle.std.proofs.Common.{◌≡◌, ℕ, suc, ◌+◌, ◌<◌, ◌≤◌, Bool, true, false, cond, ◌==◌, List, [], ◌∷◌, length, drop, Option, Some, None, refl, ap, arith, length-drop}
use Rattle.std.specs.Prelude.{◌||◌, ◌&&◌, nat_eq}
use Rattle.std.specs.List.{starts_with}
use Rattle.std.proofs.lemmas.Bool.{eqb-true, and_parts}
use Rattle.spec_tokens.specs.declared.Kind.{Kind}
use Rattle.spec_tokens.specs.declared.Kind.TheVariants.{Name, Operator, Join, Misquoted, Unknown}
use Rattle.spec_tokens.specs.Letters.{run, is_blank, is_inline, is_digit, continues_name, is_quote}
use Rattle.spec_tokens.specs.Forms.{quotes_of, is_digit_of, is_sign, is_pair, is_triple}
use Rattle.spec_tokens.specs.Cutting.{Front, tail, sized, string_of, named, starts, digit_run, is_based, integer_length, bracket_of, single, operator_of, sign_of, join_of, piece_of}
use Rattle.spec_tokens.proofs.Steps.{piece_by, tail_by, sized_is}

-- a run is no longer than the letters
pub run_within : (p : ℕ → Bool) (s : List ℕ) → run p s ≤ length s
run_within p [] = omega arith
run_within p (c ∷ s) = at (p c) (run_within p s)
  where
    at : (b : Bool) → run p s ≤ length s → cond b (suc (run p s)) 0 ≤ suc (length s)
    at true h = omega arith
    at false h = omega arith

-- digits that go on are no more than the letters
pub digit_run_within : (p : ℕ → Bool) (s : List ℕ) → digit_run p s ≤ length s
unfolding digit_run
digit_run_within p [] = omega arith
digit_run_within p (c ∷ s) = at (p c || (c == 95 && starts p s)) (digit_run_within p s)
  where
    at : (b : Bool) → digit_run p s ≤ length s → cond b (suc (digit_run p s)) 0 ≤ suc (length s)
    at true h = omega arith
    at false h = omega arith

-- where letters start with quotes, they are at least as many
pub starts_within : (long : Bool) (q : ℕ) (s : List ℕ) → starts_with nat_eq s (quotes_of long q) ≡ true → length (quotes_of long q) ≤ length s
starts_within false q [] h = absurd cc
starts_within false q (a ∷ s) h = omega arith
starts_within true q [] h = absurd cc
starts_within true q (a ∷ []) h = absurd (grind arith)
starts_within true q (a ∷ b ∷ []) h = absurd (grind arith)
starts_within true q (a ∷ b ∷ c ∷ s) h = omega arith

-- where letters start with two quotes, they are at least two
two_within : (q : ℕ) (s : List ℕ) → starts_with nat_eq s (q ∷ q ∷ []) ≡ true → 2 ≤ length s
two_within q [] h = absurd cc
two_within q (a ∷ []) h = absurd (grind arith)
two_within q (a ∷ b ∷ s) h = omega arith

-- a string goes on over no more letters than there are
pub tail_within : (long : Bool) (q : ℕ) (s : List ℕ) → (tail long q s).0 ≤ length s
tail_within long q s = tail_by long q (λ s t. t.0 ≤ length s)
    (omega arith)
    (λ s h. starts_within long q s h)
    (λ c s t h. omega arith)
    (λ c s t a b e h. omega arith)
    (λ c s h. omega arith)
    s

-- the piece has at least one letter, and no more than there are
abbrev pub IsSize : List ℕ → Front → Type 0
IsSize s x = (0 < x.1) × (x.1 ≤ length s)

-- a string has its first quote, and no more letters than there are
pub string_size : (n q : ℕ) (s : List ℕ) → (n < (string_of n q s).1) × ((string_of n q s).1 ≤ n + suc (length s))
string_size n q s = at (starts_with nat_eq s (q ∷ q ∷ [])) refl
  where
    at : (b : Bool) → starts_with nat_eq s (q ∷ q ∷ []) ≡ b
        → (n < (cond b (sized (n + 3) (tail true q (drop 2 s))) (sized (n + 1) (tail false q s))).1) × ((cond b (sized (n + 3) (tail true q (drop 2 s))) (sized (n + 1) (tail false q s))).1 ≤ n + suc (length s))
    at true e =
        let size = ap (λ (x : Front). x.1) (sized_is (n + 3) (tail true q (drop 2 s))) in
        let within = tail_within true q (drop 2 s) in
        (omega arith, omega (arith, two_within q s e, length-drop 2 s))
    at false e =
        let size = ap (λ (x : Front). x.1) (sized_is (n + 1) (tail false q s)) in
        let within = tail_within false q s in
        (omega arith, omega arith)

-- a name has at least the letters of its run, and with what it makes of a quote no more than there are
pub named_size : (c n : ℕ) (r : List ℕ) → (n < (named c n r).1) × ((named c n r).1 ≤ suc (n + length r))
named_size c n [] = (omega arith, omega arith)
named_size c n (d ∷ r) = at (is_quote d) (n == 0 && (c == 114 || c == 82)) refl
  where
    at : (a b : Bool) → (n == 0 && (c == 114 || c == 82)) ≡ b
        → (n < (cond a (cond b (string_of 1 d r) (Misquoted, suc (suc n))) (Name, suc n)).1) × ((cond a (cond b (string_of 1 d r) (Misquoted, suc (suc n))) (Name, suc n)).1 ≤ suc (n + suc (length r)))
    at false b e = (omega arith, omega arith)
    at true false e = (omega arith, omega arith)
    at true true e =
        let none = eqb-true n 0 (and_parts (n == 0) (c == 114 || c == 82) e).0 in
        let size = string_size 1 d r in
        (omega arith, omega arith)

-- an integer has at least one letter, and no more than there are
integer_size : (c : ℕ) (s : List ℕ) → (0 < integer_length c s) × (integer_length c s ≤ suc (length s))
integer_size c [] = (omega arith, omega arith)
integer_size c (d ∷ s) = at (c == 48 && is_based d s)
  where
    at : (b : Bool) → (0 < cond b (suc (suc (digit_run (is_digit_of d) s))) (suc (digit_run is_digit (d ∷ s)))) × (cond b (suc (suc (digit_run (is_digit_of d) s))) (suc (digit_run is_digit (d ∷ s))) ≤ suc (suc (length s)))
    at true = (omega arith, omega (arith, digit_run_within (is_digit_of d) s))
    at false = (omega arith, omega (arith, digit_run_within is_digit (d ∷ s)))

-- a sign of one letter, or an unknown one, has one letter
single_size : (c : ℕ) → (single c).1 ≡ 1
single_size c = at (is_sign c)
  where
    at : (b : Bool) → (cond {A = Front} b (Operator, 1) (Unknown, 1)).1 ≡ 1
    at true = refl
    at false = refl

-- an operator has at least one letter, and no more than there are
operator_size : (c : ℕ) (s : List ℕ) → IsSize (c ∷ s) (operator_of c s)
operator_size c [] = (omega (arith, single_size c), omega (arith, single_size c))
operator_size c (d ∷ []) = at (is_pair c d)
  where
    at : (b : Bool) → IsSize (c ∷ d ∷ []) (cond b (Operator, 2) (single c))
    at true = (omega arith, omega arith)
    at false = (omega (arith, single_size c), omega (arith, single_size c))
operator_size c (d ∷ e ∷ s) = at (is_triple c d e) (is_pair c d)
  where
    at : (a b : Bool) → IsSize (c ∷ d ∷ e ∷ s) (cond a (Operator, 3) (cond b (Operator, 2) (single c)))
    at true b = (omega arith, omega arith)
    at false true = (omega arith, omega arith)
    at false false = (omega (arith, single_size c), omega (arith, single_size c))

-- a bracket or an operator has at least one letter, and no more than there are
sign_size : (o : Option Kind) (c : ℕ) (s : List ℕ) → IsSize (c ∷ s) (sign_of o c s)
sign_size (Some k) c s = (omega arith, omega arith)
sign_size None c s = operator_size c s

-- a backslash, alone or before a line end, has at least one letter, and no more than there are
join_size : (s : List ℕ) → IsSize (92 ∷ s) (join_of s)
join_size [] = (omega arith, omega arith)
join_size (c ∷ s) = at (c == 10)
  where
    at : (b : Bool) → IsSize (92 ∷ c ∷ s) (cond b (Join, 2) (Unknown, 1))
    at true = (omega arith, omega arith)
    at false = (omega arith, omega arith)

-- the piece at the front has at least one letter, and no more than there are
pub piece_size : (s : List ℕ) → 0 < length s → (0 < (piece_of s).1) × ((piece_of s).1 ≤ length s)
piece_size s lt = piece_by IsSize
    (λ c s h. (omega arith, omega (arith, run_within is_blank s)))
    (λ s. (omega arith, omega (arith, run_within is_inline s)))
    (λ s. (omega arith, omega arith))
    join_size
    (λ c s h. let size = string_size 0 c s in (omega arith, omega arith))
    (λ c s h. integer_size c s)
    (λ c s h. let size = named_size c (run continues_name s) (drop (run continues_name s) s) in (omega arith, omega (arith, run_within continues_name s, length-drop (run continues_name s) s)))
    (λ c s. sign_size (bracket_of c) c s)
    s lt
