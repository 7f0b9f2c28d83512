-- Letters cut at the first one that separates.
use Rattle.std.proofs.Common.{◌≡◌, ℕ, suc, ◌+◌, ◌-◌, ◌<◌, Bool, true, false, nat_lt, List, [], ◌∷◌, length, take, drop, Some, None, refl, sym, ap, subst, arith, if◌then◌else◌}
use Rattle.std.proofs.lemmas.Bool.Decides.{nat_tests}
use Rattle.std.proofs.lemmas.List.{length-drop}
use Rattle.std.specs.List.{position_or_len, before_first, after_first, slice_split}
use Rattle.spec_tokens.specs.Letters.{run, is_blank}
use Rattle.spec_syntax.specs.Texts.{unindented}
use Rattle.contract_entries.specs.Letters.{behind_first, parts_of, size_of}

-- ---- the first letter that separates

zero_lt : (n : ℕ) → nat_lt 0 (suc n) ≡ true
zero_lt n = grind (arith, nat_tests)

lt_suc : (a b : ℕ) → nat_lt (suc a) (suc b) ≡ nat_lt a b
lt_suc a b = grind (arith, nat_tests)

pub split_is : (p : ℕ → Bool) (s : List ℕ) → slice_split p s ≡ before_first p s ∷ parts_of p (behind_first p s)
split_is p [] = refl
split_is p (c ∷ s) = by_test (p c) refl (split_is p s)
  where
    by_test : (b : Bool) → p c ≡ b → slice_split p s ≡ before_first p s ∷ parts_of p (behind_first p s) → slice_split p (c ∷ s) ≡ before_first p (c ∷ s) ∷ parts_of p (behind_first p (c ∷ s))
    by_test true e h = rw (e, zero_lt (length s)) refl
    by_test false e h = rw (e, h) (by_end (1 + position_or_len p s) (1 + position_or_len p s + 1) (omega arith) (omega arith) (nat_lt (position_or_len p s) (length s)) refl)
      where
        by_end : (m k : ℕ) → m ≡ suc (position_or_len p s) → k ≡ suc (position_or_len p s + 1) → (b : Bool) → nat_lt (position_or_len p s) (length s) ≡ b
            → (c ∷ before_first p s) ∷ parts_of p (behind_first p s) ≡ take m (c ∷ s) ∷ parts_of p (if nat_lt m (suc (length s)) then Some (drop k (c ∷ s)) else None)
        by_end m k em ek true e = rw (em, ek, lt_suc (position_or_len p s) (length s), e) refl
        by_end m k em ek false e = rw (em, ek, lt_suc (position_or_len p s) (length s), e) refl

drop_shorter : (n : ℕ) (s : List ℕ) → 0 < length s → length (drop (n + 1) s) < length s
drop_shorter n s lt = omega (arith, length-drop (n + 1) s)

pub behind_shorter : (p : ℕ → Bool) (s : List ℕ) → size_of (behind_first p s) < suc (length s)
behind_shorter p s = by_test (nat_lt (position_or_len p s) (length s)) refl
  where
    by_test : (b : Bool) → nat_lt (position_or_len p s) (length s) ≡ b → size_of (if b then Some (after_first p s) else None) < suc (length s)
    by_test true e = let lt : position_or_len p s < length s = grind (arith, nat_tests) in let d = drop_shorter (position_or_len p s) s (omega arith) in omega arith
    by_test false e = omega arith

-- ---- blanks

take_all : (s : List ℕ) → take (length s) s ≡ s
take_all [] = refl
take_all (c ∷ s) = ap (λ (v : List ℕ). c ∷ v) (take_all s)

pub unindented_is : (s : List ℕ) → unindented s ≡ take (length s - run is_blank s) (drop (run is_blank s) s)
unindented_is [] = refl
unindented_is (c ∷ s) = by_test (is_blank c) (unindented_is s)
  where
    by_test : (b : Bool) → unindented s ≡ take (length s - run is_blank s) (drop (run is_blank s) s)
        → (if b then unindented s else c ∷ s) ≡ take (suc (length s) - (if b then suc (run is_blank s) else 0)) (drop (if b then suc (run is_blank s) else 0) (c ∷ s))
    by_test true h = let e : length s - run is_blank s ≡ suc (length s) - suc (run is_blank s) = omega arith in subst (λ (n : ℕ). unindented s ≡ take n (drop (run is_blank s) s)) e h
    by_test false h = let e : suc (length s) ≡ suc (length s) - 0 = omega arith in subst (λ (n : ℕ). c ∷ s ≡ take n (c ∷ s)) e (sym (take_all (c ∷ s)))
