-- Integers: what is found is one, and none is longer.
use Rattle.std.proofs.Common.{◌≡◌, ℕ, suc, ◌≤◌, ◌⊎◌, Bool, true, false, cond, ◌==◌, List, [], ◌∷◌, ◌++◌, length, take, refl, ap, inl, inr, arith, ◌∙◌}
use Rattle.std.specs.Prelude.{◌||◌, ◌&&◌, nat_le}
use Rattle.std.proofs.lemmas.Bool.{eqb-true, ne_eqb, both_ways, and_parts, and_from, and_right, or_cases, or_left, or_right, leb-true}
use Rattle.spec_tokens.specs.Letters.{is_digit, is_hex_digit, is_octal_digit, is_binary_digit}
use Rattle.spec_tokens.specs.Forms.{are_more_digits, are_digits, are_based, is_digit_of, is_integer}
use Rattle.spec_tokens.specs.Cutting.{starts, digit_run, is_based, integer_length}

-- ---- what is found

-- a digit before more digits
digit_before : (p : ℕ → Bool) (c : ℕ) (w : List ℕ) → p c ≡ true → are_more_digits p w ≡ true → are_more_digits p (c ∷ w) ≡ true
digit_before p c [] h m = h
digit_before p c (d ∷ w) h m = rw h m

-- a `_` and a digit before more digits
mark_before : (p : ℕ → Bool) (c d : ℕ) (w : List ℕ) → (c == 95) ≡ true → p d ≡ true → are_more_digits p w ≡ true → are_more_digits p (c ∷ d ∷ w) ≡ true
mark_before p c d w e h m = at (p c)
  where
    at : (b : Bool) → cond b (are_more_digits p (d ∷ w)) ((c == 95 && p d) && are_more_digits p w) ≡ true
    at true = digit_before p d w h m
    at false = and_from (c == 95 && p d) (are_more_digits p w) (and_from (c == 95) (p d) e h) m

-- the run goes on over a digit
run_digit : (p : ℕ → Bool) (c : ℕ) (s : List ℕ) → p c ≡ true → digit_run p (c ∷ s) ≡ suc (digit_run p s)
unfolding digit_run
run_digit p c s h = rw h refl

-- the run goes on over a `_` and the digit behind it
run_mark : (p : ℕ → Bool) (c d : ℕ) (s : List ℕ) → (c == 95) ≡ true → p d ≡ true → digit_run p (c ∷ d ∷ s) ≡ suc (suc (digit_run p s))
unfolding digit_run
run_mark p c d s e h = rw (or_right (p c) (c == 95 && p d) (and_from (c == 95) (p d) e h)) (ap suc (run_digit p d s h))

-- the letters of the run are more digits
pub more_found : (p : ℕ → Bool) (s : List ℕ) → are_more_digits p (take (digit_run p s) s) ≡ true
unfolding digit_run
more_found p [] = refl
more_found p (c ∷ []) = at (p c) (c == 95) refl
  where
    at : (a b : Bool) → p c ≡ a → are_more_digits p (take (cond (a || (b && false)) 1 0) (c ∷ [])) ≡ true
    at true b e = e
    at false true e = refl
    at false false e = refl
more_found p (c ∷ d ∷ s) = at (p c) (c == 95) (p d) refl refl refl (more_found p (d ∷ s)) (more_found p s)
  where
    at : (a b e : Bool) → p c ≡ a → (c == 95) ≡ b → p d ≡ e → are_more_digits p (take (digit_run p (d ∷ s)) (d ∷ s)) ≡ true → are_more_digits p (take (digit_run p s) s) ≡ true
        → are_more_digits p (take (cond (a || (b && e)) (suc (digit_run p (d ∷ s))) 0) (c ∷ d ∷ s)) ≡ true
    at true b e ea eb ee one two = digit_before p c (take (digit_run p (d ∷ s)) (d ∷ s)) ea one
    at false true true ea eb ee one two = rw (run_digit p d s ee) (mark_before p c d (take (digit_run p s) s) eb ee two)
    at false true false ea eb ee one two = refl
    at false false e ea eb ee one two = refl

-- `_` is no digit of any base
no_mark : (d : ℕ) → is_digit_of d 95 ≡ false
no_mark d = at (d == 120 || d == 88) (d == 111 || d == 79) (d == 98 || d == 66)
  where
    at : (a b e : Bool) → cond a (is_hex_digit 95) (cond b (is_octal_digit 95) (e && is_binary_digit 95)) ≡ false
    at true b e = refl
    at false true e = refl
    at false false true = refl
    at false false false = refl

-- a digit of some base is no `_`
digit_no_mark : (d e : ℕ) → is_digit_of d e ≡ true → (e == 95) ≡ false
digit_no_mark d e h = ne_eqb e 95 (λ same. both_ways (is_digit_of d e) (ap (is_digit_of d) same ∙ no_mark d) h)

-- the letters of the run are digits of the base
based_found : (d : ℕ) (s : List ℕ) → is_based d s ≡ true → are_based (is_digit_of d) (take (digit_run (is_digit_of d) s) s) ≡ true
based_found d [] h = absurd cc
based_found d (e ∷ s) h = at (or_cases (is_digit_of d e) (e == 95 && starts (is_digit_of d) s) h)
  where
    behind : (e : ℕ) (s : List ℕ) → (e == 95) ≡ true → starts (is_digit_of d) s ≡ true → are_based (is_digit_of d) (take (digit_run (is_digit_of d) (e ∷ s)) (e ∷ s)) ≡ true
    behind e [] m h = absurd cc
    behind e (f ∷ s) m h = rw (run_mark (is_digit_of d) e f s m h, m) (and_from (is_digit_of d f) (are_more_digits (is_digit_of d) (take (digit_run (is_digit_of d) s) s)) h (more_found (is_digit_of d) s))

    at : (is_digit_of d e ≡ true) ⊎ ((e == 95 && starts (is_digit_of d) s) ≡ true) → are_based (is_digit_of d) (take (digit_run (is_digit_of d) (e ∷ s)) (e ∷ s)) ≡ true
    at (inl g) = rw (run_digit (is_digit_of d) e s g, digit_no_mark d e g) (and_from (is_digit_of d e) (are_more_digits (is_digit_of d) (take (digit_run (is_digit_of d) s) s)) g (more_found (is_digit_of d) s))
    at (inr g) = let both = and_parts (e == 95) (starts (is_digit_of d) s) g in behind e s both.0 both.1

-- a digit and more digits are an integer
decimal : (c : ℕ) (w : List ℕ) → is_digit c ≡ true → are_more_digits is_digit w ≡ true → is_integer (c ∷ w) ≡ true
decimal c [] h m = h
decimal c (d ∷ w) h m = or_left (are_digits is_digit (c ∷ d ∷ w)) (c == 48 && are_based (is_digit_of d) w) (and_from (is_digit c) (are_more_digits is_digit (d ∷ w)) h m)

-- the integer that is found is one
pub integer_found : (c : ℕ) (s : List ℕ) → is_digit c ≡ true → is_integer (take (integer_length c s) (c ∷ s)) ≡ true
integer_found c [] h = h
integer_found c (d ∷ s) h = at (c == 48 && is_based d s) refl
  where
    at : (b : Bool) → (c == 48 && is_based d s) ≡ b → is_integer (take (cond b (suc (suc (digit_run (is_digit_of d) s))) (suc (digit_run is_digit (d ∷ s)))) (c ∷ d ∷ s)) ≡ true
    at true e =
        let both = and_parts (c == 48) (is_based d s) e in
        let w : List ℕ = take (digit_run (is_digit_of d) s) s in
        or_right (are_digits is_digit (c ∷ d ∷ w)) (c == 48 && are_based (is_digit_of d) w) (and_from (c == 48) (are_based (is_digit_of d) w) both.0 (based_found d s both.1))
    at false e = decimal c (take (digit_run is_digit (d ∷ s)) (d ∷ s)) h (more_found is_digit (d ∷ s))

-- ---- none is longer

-- a run is as long as more digits at least
more_reached : (p : ℕ → Bool) (w r : List ℕ) → are_more_digits p w ≡ true → length w ≤ digit_run p (w ++ r)
more_reached p [] r h = omega arith
more_reached p (c ∷ []) r h = rw (run_digit p c r h) (omega arith)
more_reached p (c ∷ d ∷ w) r h = at (p c) refl h (more_reached p (d ∷ w) r) (more_reached p w r)
  where
    at : (b : Bool) → p c ≡ b → cond b (are_more_digits p (d ∷ w)) ((c == 95 && p d) && are_more_digits p w) ≡ true
        → (are_more_digits p (d ∷ w) ≡ true → suc (length w) ≤ digit_run p (d ∷ (w ++ r))) → (are_more_digits p w ≡ true → length w ≤ digit_run p (w ++ r)) → suc (suc (length w)) ≤ digit_run p (c ∷ d ∷ (w ++ r))
    at true e h one two = let m = one h in rw (run_digit p c (d ∷ (w ++ r)) e) (omega arith)
    at false e h one two =
        let a = and_parts (c == 95 && p d) (are_more_digits p w) h in
        let b = and_parts (c == 95) (p d) a.0 in
        let m = two a.1 in
        rw (run_mark p c d (w ++ r) b.0 b.1) (omega arith)

-- the letters of a base with digits of it behind them are found
based_reached : (d : ℕ) (w r : List ℕ) → are_based (is_digit_of d) w ≡ true → (is_based d (w ++ r) ≡ true) × (length w ≤ digit_run (is_digit_of d) (w ++ r))
based_reached d [] r h = absurd cc
based_reached d (e ∷ w) r h = at (e == 95) refl h
  where
    behind : (w : List ℕ) → (e == 95) ≡ true → are_digits (is_digit_of d) w ≡ true → (is_based d (e ∷ (w ++ r)) ≡ true) × (suc (length w) ≤ digit_run (is_digit_of d) (e ∷ (w ++ r)))
    behind [] m h = absurd cc
    behind (f ∷ w) m h =
        let both = and_parts (is_digit_of d f) (are_more_digits (is_digit_of d) w) h in
        let more = more_reached (is_digit_of d) w r both.1 in
        (or_right (is_digit_of d e) (e == 95 && is_digit_of d f) (and_from (e == 95) (is_digit_of d f) m both.0), rw (run_mark (is_digit_of d) e f (w ++ r) m both.0) (omega arith))

    at : (b : Bool) → (e == 95) ≡ b → cond b (are_digits (is_digit_of d) w) (are_digits (is_digit_of d) (e ∷ w)) ≡ true → (is_based d (e ∷ (w ++ r)) ≡ true) × (suc (length w) ≤ digit_run (is_digit_of d) (e ∷ (w ++ r)))
    at true m h = behind w m h
    at false m h =
        let both = and_parts (is_digit_of d e) (are_more_digits (is_digit_of d) w) h in
        let more = more_reached (is_digit_of d) w r both.1 in
        (or_left (is_digit_of d e) (e == 95 && starts (is_digit_of d) (w ++ r)) both.0, rw (run_digit (is_digit_of d) e (w ++ r) both.0) (omega arith))

-- a digit or `_` stands for no base
no_base : (d e : ℕ) → (is_digit d || d == 95) ≡ true → is_digit_of d e ≡ false
no_base d e h = at (or_cases (is_digit d) (d == 95) h)
  where
    at : (is_digit d ≡ true) ⊎ ((d == 95) ≡ true) → is_digit_of d e ≡ false
    at (inl g) =
        let low = leb-true d 57 (and_parts (nat_le 48 d) (nat_le d 57) g).1 in
        rw (ne_eqb d 120 (λ x. absurd (omega arith)), ne_eqb d 88 (λ x. absurd (omega arith)), ne_eqb d 111 (λ x. absurd (omega arith)), ne_eqb d 79 (λ x. absurd (omega arith)), ne_eqb d 98 (λ x. absurd (omega arith)), ne_eqb d 66 (λ x. absurd (omega arith))) refl
    at (inr g) = rw (eqb-true d 95 g) refl

-- behind a digit or `_` no digits of a base are found
no_base_found : (d : ℕ) (s : List ℕ) → (is_digit d || d == 95) ≡ true → is_based d s ≡ false
no_base_found d [] h = refl
no_base_found d (e ∷ []) h = rw (no_base d e h) (at (e == 95))
  where
    at : (b : Bool) → (b && false) ≡ false
    at true = refl
    at false = refl
no_base_found d (e ∷ f ∷ s) h = rw (no_base d e h, no_base d f h) (at (e == 95))
  where
    at : (b : Bool) → (b && false) ≡ false
    at true = refl
    at false = refl

-- more digits begin with a digit or `_`
more_first : (d : ℕ) (w : List ℕ) → are_more_digits is_digit (d ∷ w) ≡ true → (is_digit d || d == 95) ≡ true
more_first d [] h = or_left (is_digit d) (d == 95) h
more_first d (e ∷ w) h = at (is_digit d) refl h
  where
    at : (b : Bool) → is_digit d ≡ b → cond b (are_more_digits is_digit (e ∷ w)) ((d == 95 && is_digit e) && are_more_digits is_digit w) ≡ true → (is_digit d || d == 95) ≡ true
    at true g h = or_left (is_digit d) (d == 95) g
    at false g h = or_right (is_digit d) (d == 95) (and_parts (d == 95) (is_digit e) (and_parts (d == 95 && is_digit e) (are_more_digits is_digit w) h).0).0

-- an integer is no longer than the one that is found
pub integer_reached : (c : ℕ) (w r : List ℕ) → is_integer (c ∷ w) ≡ true → (is_digit c ≡ true) × (suc (length w) ≤ integer_length c (w ++ r))
integer_reached c [] [] h = (h, omega arith)
integer_reached c [] (d ∷ r) h = (h, at (c == 48 && is_based d r))
  where
    at : (b : Bool) → 1 ≤ cond b (suc (suc (digit_run (is_digit_of d) r))) (suc (digit_run is_digit (d ∷ r)))
    at true = omega arith
    at false = omega arith
integer_reached c (d ∷ w) r h = at (or_cases (are_digits is_digit (c ∷ d ∷ w)) (c == 48 && are_based (is_digit_of d) w) h)
  where
    at : (are_digits is_digit (c ∷ d ∷ w) ≡ true) ⊎ ((c == 48 && are_based (is_digit_of d) w) ≡ true) → (is_digit c ≡ true) × (suc (suc (length w)) ≤ integer_length c (d ∷ (w ++ r)))
    at (inl g) =
        let both = and_parts (is_digit c) (are_more_digits is_digit (d ∷ w)) g in
        let more = more_reached is_digit (d ∷ w) r both.1 in
        (both.0, rw (and_right (c == 48) (is_based d (w ++ r)) (no_base_found d (w ++ r) (more_first d w both.1))) (omega arith))
    at (inr g) =
        let both = and_parts (c == 48) (are_based (is_digit_of d) w) g in
        let found = based_reached d w r both.1 in
        (rw (eqb-true c 48 both.0) refl, rw (both.0, found.0) (omega arith))
