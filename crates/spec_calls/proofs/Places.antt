-- Where each integer stands in the listing.
use Rattle.std.proofs.Common.{◌≡◌, ℕ, zero, suc, ◌+◌, ◌-◌, ◌*◌, ◌^◌, ◌<◌, ◌≤◌, List, [], ◌∷◌, ◌++◌, length, Some, refl, sym, ap, subst, inl, inr, arith, ◌∙◌, length-append}
use Rattle.std.specs.Prelude.{ℤ, pos, negsuc}
use Rattle.std.specs.List.{flat_map, slice_get}
use Rattle.std.proofs.Math.Nat.{pow-succ'}
use Rattle.std.proofs.lemmas.Bool.{cases_lt}
use Rattle.std.proofs.lemmas.List.{flat_map_more}
use Rattle.std.proofs.lemmas.Option.{slice_get_within}
use Rattle.spec_calls.specs.Calls.{below, integers}
use Rattle.spec_calls.specs.Order.{rank}

-- the listing of the two integers of each number below n
abbrev pub pairs : ℕ → List ℤ
pairs n = flat_map (λ m. pos m ∷ negsuc m ∷ []) (below n)

-- one number more lists its two integers last
pub pairs_more : (n : ℕ) → pairs (suc n) ≡ pairs n ++ pos n ∷ negsuc n ∷ []
pairs_more n = sym (flat_map_more (λ m. pos m ∷ negsuc m ∷ []) [] (below n) n)

-- n numbers list twice as many integers
pub pairs_length : (n : ℕ) → length (pairs n) ≡ 2 * n
pairs_length zero = refl
pairs_length (suc n) =
    let more : length (pairs (suc n)) ≡ length (pairs n) + 2 = ap length (pairs_more n) ∙ length-append (pairs n) (pos n ∷ negsuc n ∷ []) in
    let same = pairs_length n in
    more ∙ omega arith

-- an element of the first of two lists
pub get_left : {A : Type 0} (xs ys : List A) (i : ℕ) → i < length xs → slice_get (xs ++ ys) i ≡ slice_get xs i
get_left [] ys i lt = absurd (omega arith)
get_left (x ∷ xs) ys zero lt = refl
get_left (x ∷ xs) ys (suc i) lt = get_left xs ys i (omega arith)

-- an element of the second of two lists
pub get_right : {A : Type 0} (xs ys : List A) (j i : ℕ) → j ≡ length xs + i → slice_get (xs ++ ys) j ≡ slice_get ys i
get_right [] ys j i e = ap (slice_get ys) (omega arith)
get_right (x ∷ xs) ys zero i e = absurd (omega arith)
get_right (x ∷ xs) ys (suc j) i e = get_right xs ys j i (omega arith)

-- the two integers of a number stand behind those of the numbers below it
pub last_pair : (n : ℕ) (z : ℤ) → 2 * n ≤ rank z → rank z < 2 * suc n → slice_get (pairs n ++ pos n ∷ negsuc n ∷ []) (rank z) ≡ Some z
last_pair n (pos m) ge lt =
    let same : n ≡ m = omega arith in
    get_right (pairs n) (pos n ∷ negsuc n ∷ []) (2 * m) 0 (omega (arith, pairs_length n)) ∙ ap (λ k. Some (pos k)) same
last_pair n (negsuc m) ge lt =
    let same : n ≡ m = omega arith in
    get_right (pairs n) (pos n ∷ negsuc n ∷ []) (2 * m + 1) 1 (omega (arith, pairs_length n)) ∙ ap (λ k. Some (negsuc k)) same

-- each integer stands at its rank
pub pairs_get : (n : ℕ) (z : ℤ) → rank z < 2 * n → slice_get (pairs n) (rank z) ≡ Some z
pairs_get zero z lt = absurd (omega arith)
pairs_get (suc n) z lt =
    ap (λ zs. slice_get zs (rank z)) (pairs_more n)
    ∙ elim (cases_lt (rank z) (2 * n)) [
      | inl p ↦ get_left (pairs n) (pos n ∷ negsuc n ∷ []) (rank z) (omega (arith, pairs_length n)) ∙ pairs_get n z p
      | inr p ↦ last_pair n z p lt
    ]

-- each number is the rank of an integer
pub at_rank : (i : ℕ) → (z : ℤ) × (rank z ≡ i)
at_rank zero = (pos zero, refl)
at_rank (suc i) = next (at_rank i)
  where
    next : (z : ℤ) × (rank z ≡ i) → (z : ℤ) × (rank z ≡ suc i)
    next (pos m, e) = (negsuc m, omega arith)
    next (negsuc m, e) = (pos (suc m), omega arith)

-- what stands at a place has that rank
pub pairs_order : (n i : ℕ) (z : ℤ) → slice_get (pairs n) i ≡ Some z → (rank z ≡ i) × (i < 2 * n)
pairs_order n i z e =
    let within : i < 2 * n = omega (arith, slice_get_within (pairs n) i z e, pairs_length n) in
    let w = at_rank i in
    let there : slice_get (pairs n) (rank w.0) ≡ Some w.0 = pairs_get n w.0 (omega (arith, w.1)) in
    let here : slice_get (pairs n) i ≡ Some w.0 = subst (λ j. slice_get (pairs n) j ≡ Some w.0) w.1 there in
    let same : w.0 ≡ z = cc in
    (subst (λ y. rank y ≡ i) same w.1, within)

-- one bit more doubles a power of two
pub double : (bits : ℕ) → 0 < bits → 2 * 2 ^ (bits - 1) ≡ 2 ^ bits
double zero lt = absurd (omega arith)
double (suc k) lt =
    let same : suc k - 1 ≡ k = omega arith in
    ap (λ j. 2 * 2 ^ j) same ∙ sym (pow-succ' 2 k)

-- the listing is in the order of the ranks, and stays below the power of two
pub in_order : (bits i : ℕ) (z : ℤ) → 0 < bits → slice_get (integers bits) i ≡ Some z → (rank z ≡ i) × (i < 2 ^ bits)
in_order bits i z lt e =
    let o = pairs_order (2 ^ (bits - 1)) i z e in
    (o.0, omega (arith, o.1, double bits lt))

-- each integer whose rank is below the power of two is listed
pub is_listed : (bits : ℕ) (z : ℤ) → 0 < bits → rank z < 2 ^ bits → slice_get (integers bits) (rank z) ≡ Some z
is_listed bits z lt low = pairs_get (2 ^ (bits - 1)) z (omega (arith, double bits lt))
