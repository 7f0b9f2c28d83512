-- Turns of the loop over the digits of an integer, and what values they have.
use Rattle.std.proofs.Common.{◌≡◌, ℕ, zero, suc, ◌+◌, ◌*◌, ◌<◌, ◌≤◌, Bool, true, false, cond, ◌==◌, List, [], ◌∷◌, length, take, drop, get_or, Some, None, refl, sym, ap, arith, ◌∙◌}
use Rattle.std.specs.Prelude.{nat_lt, ◌&&◌}
use Rattle.std.specs.List.{list_all}
use Rattle.std.proofs.Math.Nat.{le-mul_of_pos_right}
use Rattle.std.proofs.lemmas.Bool.{ltb-true, ltb-false, lt-ltb, le-ltb}
use Rattle.spec_tokens.specs.Letters.{is_hex_digit}
use Rattle.spec_tokens.specs.Values.{digit_value, value_onto, base_of, integer_value, hex_value, is_scalar, coded}
use Rattle.py_tokens.specs.Given.{below}
use Rattle.py_tokens.proofs.Lengths.{is_other}

-- ---- a number below a bound

pub below_some : (bound n v : ℕ) → Some v ≡ below bound n → (v ≡ n) × (v < bound)
below_some bound n v e = at (nat_lt n bound) refl e
  where
    at : (b : Bool) → nat_lt n bound ≡ b → Some v ≡ cond b (Some n) None → (v ≡ n) × (v < bound)
    at true is f = let same : v ≡ n = cc in let less = ltb-true n bound is in (same, omega arith)
    at false is f = absurd cc

-- where one is not below it, no greater one is
below_none : (bound n m : ℕ) → None ≡ below bound n → n ≤ m → below bound m ≡ None
below_none bound n m e le = at (nat_lt n bound) refl e
  where
    at : (b : Bool) → nat_lt n bound ≡ b → None ≡ cond b (Some n) None → below bound m ≡ None
    at true is f = absurd cc
    at false is f = let less = ltb-false n bound is in rw (le-ltb m bound (omega arith)) refl

pub below_is : (bound n : ℕ) → n < bound → below bound n ≡ Some n
below_is bound n less = rw (lt-ltb n bound less) refl

-- ---- digits

-- digits behind others make no value smaller
value_grows : (base n : ℕ) (w : List ℕ) → 0 < base → n ≤ value_onto base n w
unfolding value_onto
value_grows base n [] h = omega arith
value_grows base n (c ∷ w) h = at (c == 95) (value_grows base n w h) (value_grows base (n * base + digit_value c) w h)
  where
    at : (b : Bool) → n ≤ value_onto base n w → n * base + digit_value c ≤ value_onto base (n * base + digit_value c) w
        → n ≤ cond b (value_onto base n w) (value_onto base (n * base + digit_value c) w)
    at true skipped counted = skipped
    at false skipped counted = let more = le-mul_of_pos_right n h in omega arith

-- a digit counts, and a `_` does not
pub value_turns : (base n m c : ℕ) (rest s : List ℕ) → rest ≡ c ∷ s → (c == 95) ≡ false → m ≡ n * base + digit_value c → value_onto base n rest ≡ value_onto base m s
unfolding value_onto
value_turns base n m c rest s e other is = rw (e, other, is) refl

pub value_skips : (base n c : ℕ) (rest s : List ℕ) → rest ≡ c ∷ s → (c == 95) ≡ true → value_onto base n rest ≡ value_onto base n s
unfolding value_onto
value_skips base n c rest s e is = rw (e, is) refl

pub value_ends : (base n : ℕ) (rest : List ℕ) → length rest ≡ 0 → value_onto base n rest ≡ n
unfolding value_onto
value_ends base n [] e = refl
value_ends base n (c ∷ s) e = absurd (omega arith)

-- where a digit makes the value too big, those behind it leave it so
pub value_too_big : (bound base n c : ℕ) (rest s : List ℕ) → rest ≡ c ∷ s → (c == 95) ≡ false → 0 < base → None ≡ below bound (n * base + digit_value c) → below bound (value_onto base n rest) ≡ None
value_too_big bound base n c rest s e other some big =
    rw (value_turns base n (n * base + digit_value c) c rest s e other refl)
    (below_none bound (n * base + digit_value c) (value_onto base (n * base + digit_value c) s) big (value_grows base (n * base + digit_value c) s some))

-- ---- integers

-- one letter tells no base
pub value_short : (s : List ℕ) → length s < 2 → integer_value s ≡ value_onto 10 0 s
unfolding value_onto
value_short [] h = refl
value_short (c ∷ []) h = refl
value_short (c ∷ d ∷ s) h = absurd (omega arith)

-- two letters tell the base
pub value_based : (base d : ℕ) (s behind : List ℕ) → d ≡ get_or s 1 d → base ≡ base_of d → (base ≡ 10 → ⊥) → 2 ≤ length s → behind ≡ drop 2 s → integer_value s ≡ value_onto base 0 behind
value_based base d [] behind is b other h e = absurd (omega arith)
value_based base d (c ∷ []) behind is b other h e = absurd (omega arith)
value_based base d (c ∷ x ∷ s) behind is b other h e =
    let same : base_of x ≡ base = ap base_of (sym is) ∙ sym b in
    rw (same, is_other base 10 other, e) refl

-- ---- hexadecimal digits

-- too few letters have no value
pub hex_short : (n v : ℕ) (s : List ℕ) → length s < n → hex_value n v s ≡ None
unfolding hex_value
hex_short zero v s h = absurd (omega arith)
hex_short (suc n) v [] h = refl
hex_short (suc n) v (c ∷ s) h = at (is_hex_digit c) (hex_short n (v * 16 + digit_value c) s (omega arith))
  where
    at : (b : Bool) → hex_value n (v * 16 + digit_value c) s ≡ None → cond b (hex_value n (v * 16 + digit_value c) s) None ≡ None
    at true e = e
    at false e = refl

-- other letters have none
pub hex_other : (n v : ℕ) (s : List ℕ) → list_all is_hex_digit (take n s) ≡ false → hex_value n v s ≡ None
unfolding hex_value
hex_other zero v s h = absurd cc
hex_other (suc n) v [] h = absurd cc
hex_other (suc n) v (c ∷ s) h = at (is_hex_digit c) (hex_other n (v * 16 + digit_value c) s) h
  where
    at : (b : Bool) → (list_all is_hex_digit (take n s) ≡ false → hex_value n (v * 16 + digit_value c) s ≡ None) → (b && list_all is_hex_digit (take n s)) ≡ false
        → cond b (hex_value n (v * 16 + digit_value c) s) None ≡ None
    at true more k = more k
    at false more k = refl

-- digits have the value that they have in an integer
hex_counts : (c : ℕ) → is_hex_digit c ≡ true → (c == 95) ≡ false
hex_counts c h = is_other c 95 (λ (e : c ≡ 95). let f : is_hex_digit 95 ≡ true = ap is_hex_digit (sym e) ∙ h in absurd cc)

hex_digits : (n v : ℕ) (s : List ℕ) → n ≤ length s → list_all is_hex_digit (take n s) ≡ true → hex_value n v s ≡ Some (value_onto 16 v (take n s))
unfolding hex_value value_onto
hex_digits zero v s le h = refl
hex_digits (suc n) v [] le h = absurd (omega arith)
hex_digits (suc n) v (c ∷ s) le h = at (is_hex_digit c) refl (hex_digits n (v * 16 + digit_value c) s (omega arith)) h
  where
    at : (b : Bool) → is_hex_digit c ≡ b → (list_all is_hex_digit (take n s) ≡ true → hex_value n (v * 16 + digit_value c) s ≡ Some (value_onto 16 (v * 16 + digit_value c) (take n s)))
        → (b && list_all is_hex_digit (take n s)) ≡ true
        → cond b (hex_value n (v * 16 + digit_value c) s) None ≡ Some (cond (c == 95) (value_onto 16 v (take n s)) (value_onto 16 (v * 16 + digit_value c) (take n s)))
    at true is more k = rw (hex_counts c is) (more k)
    at false is more k = absurd cc

-- ---- code points

not_scalar : (v : ℕ) → 0x110000 ≤ v → is_scalar v ≡ false
not_scalar v big = rw (le-ltb v 0xD800 (omega arith), le-ltb v 0x110000 (omega arith)) (at (nat_lt 0xDFFF v))
  where
    at : (b : Bool) → (b && false) ≡ false
    at true = refl
    at false = refl

-- a number at which a high bound is reached is no code point
coded_below : (n bound v : ℕ) → 0x110000 ≤ bound → coded n (below bound v) ≡ coded n (Some v)
coded_below n bound v big = at (nat_lt v bound) refl
  where
    at : (b : Bool) → nat_lt v bound ≡ b → coded n (cond b (Some v) None) ≡ coded n (Some v)
    at true is = refl
    at false is = let less = ltb-false v bound is in rw (not_scalar v (omega arith)) refl

-- the escape of hexadecimal digits is that of their value, where it is below a high bound
pub hex_coded : (m n bound : ℕ) (s : List ℕ) → 0x110000 ≤ bound → n ≤ length s → list_all is_hex_digit (take n s) ≡ true → coded m (below bound (value_onto 16 0 (take n s))) ≡ coded m (hex_value n 0 s)
hex_coded m n bound s big le h = rw (hex_digits n 0 s le h) (coded_below m bound (value_onto 16 0 (take n s)) big)
