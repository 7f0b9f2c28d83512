-- Widths that are counted up to where they are too great.
use Rattle.std.proofs.Common.{◌≡◌, ℕ, zero, suc, ◌+◌, ◌*◌, ◌≤◌, Bool, true, false, nat_lt, Option, Some, None, refl, sym, ap, arith, ◌∙◌, if◌then◌else◌}
use Rattle.std.proofs.Math.Nat.{mul-le-mul_left, suc-mul, zero-mul}
use Rattle.std.proofs.lemmas.Bool.Decides.{nat_tests}
use Rattle.std.specs.Option.{option_map}
use Rattle.spec_types.specs.Widths.{plus, times}
use Rattle.value_types.specs.Widths.{capped}

capped_sum : (a b : ℕ) → capped (capped a + capped b) ≡ capped (a + b)
capped_sum a b = grind (arith, nat_tests)

pub small_is : (n : ℕ) → n ≤ 4096 → capped n ≡ n
small_is n le = grind (arith, nat_tests)

pub great_is : (n : ℕ) → 4097 ≤ n → capped n ≡ 4097
great_is n le = grind (arith, nat_tests)

capped_product : (n a : ℕ) → capped (suc (n * capped a)) ≡ capped (suc (n * a))
capped_product zero a = rw (zero-mul (capped a), zero-mul a) refl
capped_product (suc n) a = by_test (nat_lt 4096 a) refl
  where
    by_test : (b : Bool) → nat_lt 4096 a ≡ b → capped (suc (suc n * (if b then 4097 else a))) ≡ capped (suc (suc n * a))
    by_test true e =
        let wide : 4097 ≤ a = grind (arith, nat_tests) in
        let one : 4097 ≤ suc n * 4097 = omega (arith, suc-mul n 4097) in
        let many : suc n * 4097 ≤ suc n * a = mul-le-mul_left (suc n) wide in
        great_is (suc (suc n * 4097)) (omega (arith, one)) ∙ sym (great_is (suc (suc n * a)) (omega (arith, one, many)))
    by_test false e = refl

pub capped_plus : (a b : Option ℕ) → option_map capped (plus (option_map capped a) (option_map capped b)) ≡ option_map capped (plus a b)
capped_plus None b = refl
capped_plus (Some a) None = refl
capped_plus (Some a) (Some b) = ap (λ (n : ℕ). Some n) (capped_sum a b)

pub capped_times : (n : ℕ) (w : Option ℕ) → option_map capped (times n (option_map capped w)) ≡ option_map capped (times n w)
capped_times n None = refl
capped_times n (Some a) = ap (λ (m : ℕ). Some m) (capped_product n a)
