-- One step of each loop over digits.
use Rattle.std.proofs.Common.{◌≡◌, ℕ, ◌+◌, ◌<◌, ◌≤◌, ◌&&◌, Bool, true, false, not, List, [], ◌∷◌, ◌++◌, length, drop, get_or, refl, sym, ◌∙◌, append_assoc, length-drop, arith}
use Rattle.std.proofs.lemmas.List.{length-map, map-append, get_or-map, drop_more, drop_all}
use Rattle.bit_gates.specs.declared.lit.Gate.{Gate}
use Rattle.bit_gates.specs.declared.lit.Lit.{Lit}
use Rattle.bit_gates.specs.Formulas.{Extends, value_of}
use Rattle.bit_gates.proofs.Arenas.{value_kept}
use Rattle.bit_ints.specs.Integers.{AreBelow, values, zip_with, xor, most, sign, sum_bits, are_same}
use Rattle.bit_ints.proofs.Digits.{below_at, values_kept}

-- a digit of an older arena
pub digit_kept : (old new : List Gate) (bits : List Bool) (lits : List Lit) (i : ℕ) (d : Lit) → Extends old new → AreBelow (length old) lits → i < length lits → value_of new bits (get_or lits i d) ≡ get_or (values old bits lits) i false
digit_kept old new bits lits i d e b h =
    value_kept old new bits (get_or lits i d) e (below_at (length old) lits i d b h) ∙ sym (get_or-map (value_of old bits) lits i d false h)

-- one literal more, as the arena grows
pub values_push : (old new : List Gate) (bits : List Bool) (lits more : List Lit) (a : Lit) → Extends old new → AreBelow (length old) lits → more ≡ lits ++ a ∷ [] → values new bits more ≡ values old bits lits ++ value_of new bits a ∷ []
values_push old new bits lits more a e b is =
    rw (is, map-append (value_of new bits) lits (a ∷ []), values_kept old new bits lits e b) refl

-- what is left of the digits, one step on
pub left_more : (gates : List Gate) (bits : List Bool) (lits : List Lit) (i : ℕ) → i < length lits → drop i (values gates bits lits) ≡ get_or (values gates bits lits) i false ∷ drop (i + 1) (values gates bits lits)
left_more gates bits lits i h = drop_more (values gates bits lits) i false (rw (length-map lits (value_of gates bits)) h)

-- one digit more of an operation digit by digit
pub zip_turn : (f : Bool → Bool → Bool) (g0 g1 g2 : List Gate) (bits : List Bool) (xs ys digits more : List Lit) (i : ℕ) (d e r : Lit) (z : List Bool) → Extends g0 g1 → Extends g1 g2 → AreBelow (length g0) xs → AreBelow (length g0) ys → AreBelow (length g1) digits → i < length xs → i < length ys → more ≡ digits ++ r ∷ [] → value_of g2 bits r ≡ f (value_of g1 bits (get_or xs i d)) (value_of g1 bits (get_or ys i e)) → values g1 bits digits ++ zip_with f (drop i (values g0 bits xs)) (drop i (values g0 bits ys)) ≡ z → values g2 bits more ++ zip_with f (drop (i + 1) (values g0 bits xs)) (drop (i + 1) (values g0 bits ys)) ≡ z
zip_turn f g0 g1 g2 bits xs ys digits more i d e r z e0 e1 bx by bd hx hy is v inv =
    let x = digit_kept g0 g1 bits xs i d e0 bx hx in
    let y = digit_kept g0 g1 bits ys i e e0 by hy in
    let before : values g1 bits digits ++ f (get_or (values g0 bits xs) i false) (get_or (values g0 bits ys) i false) ∷ zip_with f (drop (i + 1) (values g0 bits xs)) (drop (i + 1) (values g0 bits ys)) ≡ z = rw (left_more g0 bits xs i hx, left_more g0 bits ys i hy) at inv in
    rw (values_push g1 g2 bits digits more r e1 bd is, v, x, y, append_assoc) before

-- one digit more of a sum
pub sum_turn : (g0 g1 g2 : List Gate) (bits : List Bool) (xs ys digits more : List Lit) (i : ℕ) (d e c r next : Lit) (z : List Bool) → Extends g0 g1 → Extends g1 g2 → AreBelow (length g0) xs → AreBelow (length g0) ys → AreBelow (length g1) digits → i < length xs → i < length ys → more ≡ digits ++ r ∷ [] → value_of g2 bits r ≡ xor (xor (value_of g1 bits (get_or xs i d)) (value_of g1 bits (get_or ys i e))) (value_of g1 bits c) → value_of g2 bits next ≡ most (value_of g1 bits (get_or xs i d)) (value_of g1 bits (get_or ys i e)) (value_of g1 bits c) → values g1 bits digits ++ sum_bits (value_of g1 bits c) (drop i (values g0 bits xs)) (drop i (values g0 bits ys)) ≡ z → values g2 bits more ++ sum_bits (value_of g2 bits next) (drop (i + 1) (values g0 bits xs)) (drop (i + 1) (values g0 bits ys)) ≡ z
sum_turn g0 g1 g2 bits xs ys digits more i d e c r next z e0 e1 bx by bd hx hy is v w inv =
    let x = digit_kept g0 g1 bits xs i d e0 bx hx in
    let y = digit_kept g0 g1 bits ys i e e0 by hy in
    let before : values g1 bits digits ++ xor (xor (get_or (values g0 bits xs) i false) (get_or (values g0 bits ys) i false)) (value_of g1 bits c) ∷ sum_bits (most (get_or (values g0 bits xs) i false) (get_or (values g0 bits ys) i false) (value_of g1 bits c)) (drop (i + 1) (values g0 bits xs)) (drop (i + 1) (values g0 bits ys)) ≡ z = rw (left_more g0 bits xs i hx, left_more g0 bits ys i hy) at inv in
    rw (values_push g1 g2 bits digits more r e1 bd is, v, w, x, y, append_assoc) before

-- a conjunction of three
and_assoc : (a b c : Bool) → ((a && b) && c) ≡ (a && (b && c))
and_assoc true b c = refl
and_assoc false b c = refl

-- one digit more of a comparison
pub same_turn : (g0 g1 : List Gate) (bits : List Bool) (xs ys : List Lit) (i : ℕ) (d e : Lit) (all next z : Bool) → Extends g0 g1 → AreBelow (length g0) xs → AreBelow (length g0) ys → i < length xs → i < length ys → next ≡ (all && not (xor (value_of g1 bits (get_or xs i d)) (value_of g1 bits (get_or ys i e)))) → (all && are_same (drop i (values g0 bits xs)) (drop i (values g0 bits ys))) ≡ z → (next && are_same (drop (i + 1) (values g0 bits xs)) (drop (i + 1) (values g0 bits ys))) ≡ z
same_turn g0 g1 bits xs ys i d e all next z e0 bx by hx hy v inv =
    let x = digit_kept g0 g1 bits xs i d e0 bx hx in
    let y = digit_kept g0 g1 bits ys i e e0 by hy in
    let before : (all && (not (xor (get_or (values g0 bits xs) i false) (get_or (values g0 bits ys) i false)) && are_same (drop (i + 1) (values g0 bits xs)) (drop (i + 1) (values g0 bits ys)))) ≡ z = rw (left_more g0 bits xs i hx, left_more g0 bits ys i hy) at inv in
    rw (v, x, y) (and_assoc all (not (xor (get_or (values g0 bits xs) i false) (get_or (values g0 bits ys) i false))) (are_same (drop (i + 1) (values g0 bits xs)) (drop (i + 1) (values g0 bits ys))) ∙ before)

-- a conjunction with true
and_true : (a : Bool) → (a && true) ≡ a
and_true true = refl
and_true false = refl

-- no digits are the same as any
pub same_short : (xs : List Bool) → are_same xs [] ≡ true
same_short [] = refl
same_short (x ∷ xs) = refl

-- the end of a comparison
pub same_end : (g0 : List Gate) (bits : List Bool) (xs ys : List Lit) (i : ℕ) (all z : Bool) → length ys ≤ i → (all && are_same (drop i (values g0 bits xs)) (drop i (values g0 bits ys))) ≡ z → all ≡ z
same_end g0 bits xs ys i all z h inv =
    let none : drop i (values g0 bits ys) ≡ [] = drop_all i (values g0 bits ys) (rw (length-map ys (value_of g0 bits)) h) in
    let short : (all && true) ≡ z = rw (none, same_short (drop i (values g0 bits xs))) at inv in
    sym (and_true all) ∙ short

-- the sign of a sum of digits of which there are more
sign_cons : (c x y : Bool) (xs ys : List Bool) → 1 ≤ length xs → 1 ≤ length ys → sign (sum_bits c (x ∷ xs) (y ∷ ys)) ≡ sign (sum_bits (most x y c) xs ys)
sign_cons c x y [] ys h k = absurd (omega arith)
sign_cons c x y (x' ∷ xs) [] h k = absurd (omega arith)
sign_cons c x y (x' ∷ xs) (y' ∷ ys) h k = refl

-- one digit more of the sign of a sum
pub sign_turn : (g0 g1 g2 : List Gate) (bits : List Bool) (xs ys : List Lit) (i : ℕ) (d e c next : Lit) (z : Bool) → Extends g0 g1 → AreBelow (length g0) xs → AreBelow (length g0) ys → i + 1 < length xs → i + 1 < length ys → value_of g2 bits next ≡ most (value_of g1 bits (get_or xs i d)) (value_of g1 bits (get_or ys i e)) (value_of g1 bits c) → sign (sum_bits (value_of g1 bits c) (drop i (values g0 bits xs)) (drop i (values g0 bits ys))) ≡ z → sign (sum_bits (value_of g2 bits next) (drop (i + 1) (values g0 bits xs)) (drop (i + 1) (values g0 bits ys))) ≡ z
sign_turn g0 g1 g2 bits xs ys i d e c next z e0 bx by hx hy v inv =
    let size_x = length-map xs (value_of g0 bits) in
    let size_y = length-map ys (value_of g0 bits) in
    let left_x = length-drop (i + 1) (values g0 bits xs) in
    let left_y = length-drop (i + 1) (values g0 bits ys) in
    let x = digit_kept g0 g1 bits xs i d e0 bx (omega arith) in
    let y = digit_kept g0 g1 bits ys i e e0 by (omega arith) in
    let before = rw (left_more g0 bits xs i (omega arith), left_more g0 bits ys i (omega arith)) at inv in
    let step = sign_cons (value_of g1 bits c) (get_or (values g0 bits xs) i false) (get_or (values g0 bits ys) i false) (drop (i + 1) (values g0 bits xs)) (drop (i + 1) (values g0 bits ys)) (omega arith) (omega arith) in
    rw (v, x, y) (sym step ∙ before)

-- the end of the sign of a sum
pub sign_end : (g0 g1 : List Gate) (bits : List Bool) (xs ys : List Lit) (i : ℕ) (d e c : Lit) (z : Bool) → Extends g0 g1 → AreBelow (length g0) xs → AreBelow (length g0) ys → i + 1 ≡ length xs → i + 1 ≡ length ys → sign (sum_bits (value_of g1 bits c) (drop i (values g0 bits xs)) (drop i (values g0 bits ys))) ≡ z → xor (xor (value_of g1 bits (get_or xs i d)) (value_of g1 bits (get_or ys i e))) (value_of g1 bits c) ≡ z
sign_end g0 g1 bits xs ys i d e c z e0 bx by hx hy inv =
    let size_x = length-map xs (value_of g0 bits) in
    let size_y = length-map ys (value_of g0 bits) in
    let none_x : drop (i + 1) (values g0 bits xs) ≡ [] = drop_all (i + 1) (values g0 bits xs) (omega arith) in
    let x = digit_kept g0 g1 bits xs i d e0 bx (omega arith) in
    let y = digit_kept g0 g1 bits ys i e e0 by (omega arith) in
    let before = rw (left_more g0 bits xs i (omega arith), left_more g0 bits ys i (omega arith), none_x) at inv in
    rw (x, y) before

-- a sum of digits has digits
pub sum_some : (c : Bool) (xs ys : List Bool) → 1 ≤ length xs → 1 ≤ length ys → 1 ≤ length (sum_bits c xs ys)
sum_some c [] ys h k = absurd (omega arith)
sum_some c (x ∷ xs) [] h k = absurd (omega arith)
sum_some c (x ∷ xs) (y ∷ ys) h k = omega arith
