-- Literals of an arena that grows.
use Rattle.std.proofs.Common.{◌≡◌, ℕ, zero, suc, ◌+◌, ◌-◌, ◌<◌, ◌≤◌, Bool, List, [], ◌∷◌, ◌++◌, length, map, take, drop, replicate, get_or, refl, sym, ◌∙◌, ap, append_assoc, length-append, arith}
use Rattle.std.proofs.lemmas.List.{get_or_push}
use Rattle.bit_gates.specs.declared.lit.Gate.{Gate}
use Rattle.bit_gates.specs.declared.lit.Lit.{Lit}
use Rattle.bit_gates.specs.Formulas.{Extends, value_of}
use Rattle.bit_gates.proofs.Arenas.{value_kept}
use Rattle.bit_ints.specs.Integers.{AreBelow, values, with_sign_again, extended_by}

-- an arena grows in two steps
pub grown_more : (old mid new : List Gate) → Extends old mid → Extends mid new → Extends old new
grown_more old mid new e f = record { more = e.more ++ f.more; is = f.is ∙ ap (λ gs. gs ++ f.more) e.is ∙ append_assoc old e.more f.more }

-- an arena that grows is no shorter
pub grown_length : (old new : List Gate) → Extends old new → length old ≤ length new
grown_length old new e = omega (arith, ap length e.is, length-append old e.more)

-- literals of fewer gates are literals of more
pub below_later : (m n : ℕ) (lits : List Lit) → AreBelow m lits → m ≤ n → AreBelow n lits
below_later m n [] b h = tt
below_later m n (a ∷ lits) b h = (omega (arith, b.0), below_later m n lits b.1 h)

-- one literal more
pub below_push : (n : ℕ) (lits : List Lit) (a : Lit) → AreBelow n lits → a.place < n → AreBelow n (lits ++ a ∷ [])
below_push n [] a b h = (h, tt)
below_push n (x ∷ lits) a b h = (b.0, below_push n lits a b.1 h)

-- the literal at a place
pub below_at : (n : ℕ) (lits : List Lit) (i : ℕ) (d : Lit) → AreBelow n lits → i < length lits → (get_or lits i d).place < n
below_at n [] i d b h = absurd (omega arith)
below_at n (x ∷ lits) zero d b h = b.0
below_at n (x ∷ lits) (suc i) d b h = below_at n lits i d b.1 (omega arith)

-- old literals keep their values as the arena grows
pub values_kept : (old new : List Gate) (bits : List Bool) (lits : List Lit) → Extends old new → AreBelow (length old) lits → values new bits lits ≡ values old bits lits
values_kept old new bits [] e b = refl
values_kept old new bits (a ∷ lits) e b = rw (value_kept old new bits a e b.0) (ap (λ vs. value_of old bits a ∷ vs) (values_kept old new bits lits e b.1))

-- the sign once more, seen through a map
pub again-map : {A B : Type 0} (f : A → B) (xs : List A) → map f (with_sign_again xs) ≡ with_sign_again (map f xs)
again-map f [] = refl
again-map f (x ∷ []) = refl
again-map f (x ∷ y ∷ xs) = ap (λ zs. f x ∷ zs) (again-map f (y ∷ xs))

-- the sign n times more, seen through a map
pub extended-map : {A B : Type 0} (f : A → B) (n : ℕ) (xs : List A) → map f (extended_by n xs) ≡ extended_by n (map f xs)
extended-map f zero xs = refl
extended-map f (suc n) xs = again-map f (extended_by n xs) ∙ ap with_sign_again (extended-map f n xs)

-- the sign once more makes a list one longer
pub again-length : {A : Type 0} (xs : List A) → 1 ≤ length xs → length (with_sign_again xs) ≡ length xs + 1
again-length [] h = absurd (omega arith)
again-length (x ∷ []) h = omega arith
again-length (x ∷ y ∷ xs) h = omega (arith, again-length (y ∷ xs) (omega arith))

-- the sign n times more makes a list n longer
pub extended-length : {A : Type 0} (n : ℕ) (xs : List A) → 1 ≤ length xs → length (extended_by n xs) ≡ length xs + n
extended-length zero xs h = omega arith
extended-length (suc n) xs h = let k = extended-length n xs h in omega (arith, again-length (extended_by n xs) (omega arith))

-- the last element is the one that is appended
pub again-push : {A : Type 0} (xs : List A) (k : ℕ) (d : A) → length xs ≡ suc k → with_sign_again xs ≡ xs ++ get_or xs k d ∷ []
again-push [] k d h = absurd (omega arith)
again-push (x ∷ []) zero d h = refl
again-push (x ∷ []) (suc k) d h = absurd (omega arith)
again-push (x ∷ y ∷ xs) zero d h = absurd (omega arith)
again-push (x ∷ y ∷ xs) (suc k) d h = ap (λ zs. x ∷ zs) (again-push (y ∷ xs) k d (omega arith))

-- literals with their sign n times more are no new literals
pub below_again : (n : ℕ) (lits : List Lit) → AreBelow n lits → AreBelow n (with_sign_again lits)
below_again n [] b = tt
below_again n (x ∷ []) b = (b.0, (b.0, tt))
below_again n (x ∷ y ∷ lits) b = (b.0, below_again n (y ∷ lits) b.1)

-- the same for their sign n times more
pub below_extended : (n k : ℕ) (lits : List Lit) → AreBelow n lits → AreBelow n (extended_by k lits)
below_extended n zero lits b = b
below_extended n (suc k) lits b = below_again n (extended_by k lits) (below_extended n k lits b)

-- the last element stays the last
extended_last : {A : Type 0} (k : ℕ) (xs : List A) (d : A) → 1 ≤ length xs → get_or (extended_by k xs) (length xs + k - 1) d ≡ get_or xs (length xs - 1) d
extended_last zero xs d h = let e : length xs + 0 - 1 ≡ length xs - 1 = omega arith in ap (λ i. get_or xs i d) e
extended_last (suc k) xs d h =
    let size = extended-length k xs h in
    let e : length xs + suc k - 1 ≡ length xs + k = omega arith in
    let pushed = again-push (extended_by k xs) (length xs + k - 1) d (omega arith) in
    rw (pushed, e) (get_or_push (extended_by k xs) (get_or (extended_by k xs) (length xs + k - 1) d) d (length xs + k) size ∙ extended_last k xs d h)

-- the last element once more
pub extended_push : {A : Type 0} (k : ℕ) (xs : List A) (d : A) → 1 ≤ length xs → extended_by k xs ++ get_or xs (length xs - 1) d ∷ [] ≡ extended_by (suc k) xs
extended_push k xs d h =
    let size = extended-length k xs h in
    rw (← extended_last k xs d h) (sym (again-push (extended_by k xs) (length xs + k - 1) d (omega arith)))

-- what is left of literals of the arena
pub below_drop : (n k : ℕ) (lits : List Lit) → AreBelow n lits → AreBelow n (drop k lits)
below_drop n zero lits b = b
below_drop n (suc k) [] b = tt
below_drop n (suc k) (a ∷ lits) b = below_drop n k lits b.1

-- the first of literals of the arena
pub below_take : (n k : ℕ) (lits : List Lit) → AreBelow n lits → AreBelow n (take k lits)
below_take n zero lits b = tt
below_take n (suc k) [] b = tt
below_take n (suc k) (a ∷ lits) b = (b.0, below_take n k lits b.1)

-- one literal several times
pub below_replicate : (n k : ℕ) (a : Lit) → a.place < n → AreBelow n (replicate k a)
below_replicate n zero a h = tt
below_replicate n (suc k) a h = (h, below_replicate n k a h)
