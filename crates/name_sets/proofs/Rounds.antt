-- The rounds in which names were added, and the set that they tell.
use Rattle.std.proofs.Common.{◌≡◌, ℕ, zero, suc, ◌+◌, ◌<◌, ◌≤◌, ◌==◌, Bool, true, false, List, [], ◌∷◌, length, map, replicate, refl, ap, arith, slice_set}
use Rattle.std.proofs.lemmas.Bool.Decides.{nat_tests}
use Rattle.std.specs.List.{All}

abbrev pub told : ℕ → List ℕ → List Bool
told round rounds = map (λ r. r == round) rounds

not_later : (r round : ℕ) → r ≤ round → (r == round + 1) ≡ false
not_later r round le = grind (arith, nat_tests)

is_now : (round : ℕ) → (round == round) ≡ true
is_now round = grind (arith, nat_tests)

-- no name was added in a round that has not come yet
pub none_yet : (rounds : List ℕ) (round : ℕ) → All (λ r. r ≤ round) rounds → told (round + 1) rounds ≡ replicate (length (told round rounds)) false
none_yet [] round h = refl
none_yet (r ∷ rs) round h =
    let here : r ≤ round = h 0 0 (omega arith) in
    rw (not_later r round here, none_yet rs round (λ k d lt. h (suc k) d (omega arith))) refl

-- nor in round 1, where each is 0
pub none_first : (n : ℕ) → told 1 (replicate n 0) ≡ replicate n false
none_first zero = refl
none_first (suc n) = ap (λ (v : List Bool). false ∷ v) (none_first n)

pub one_more : (rounds : List ℕ) (i round : ℕ) → told round (slice_set rounds i round) ≡ slice_set (told round rounds) i true
one_more [] i round = refl
one_more (r ∷ rs) zero round = rw (is_now round) refl
one_more (r ∷ rs) (suc i) round = ap (λ (v : List Bool). (r == round) ∷ v) (one_more rs i round)

not_now : (round : ℕ) → 0 < round → (0 == round) ≡ false
not_now round lt = grind (arith, nat_tests)

-- a name that was added in no round is left out
pub one_less : (rounds : List ℕ) (i round : ℕ) → 0 < round → told round (slice_set rounds i 0) ≡ slice_set (told round rounds) i false
one_less [] i round lt = refl
one_less (r ∷ rs) zero round lt = rw (not_now round lt) refl
one_less (r ∷ rs) (suc i) round lt = ap (λ (v : List Bool). (r == round) ∷ v) (one_less rs i round lt)
