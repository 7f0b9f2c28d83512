-- The last items of a list.
use Rattle.std.proofs.Common.{◌≡◌, ℕ, ◌+◌, ◌-◌, ◌<◌, ◌≤◌, List, [], ◌∷◌, length, get_or, take, drop, reverse, sym, ap, ◌∙◌}
use Rattle.std.proofs.lemmas.List.{reverse-append, length-reverse, length-drop, take-append-drop, take_more, drop_at}

-- the last n items
abbrev pub last_items : {A : Type 0} → ℕ → List A → List A
last_items n xs = reverse (take n (reverse xs))

-- one more item
pub last_items-more : {A : Type 0} (n : ℕ) (xs : List A) (x : A) → n < length (reverse xs) → x ≡ get_or (reverse xs) n x → last_items (n + 1) xs ≡ x ∷ last_items n xs
last_items-more n xs x lt e = ap reverse (take_more (reverse xs) n x lt) ∙ reverse-append (take n (reverse xs)) (get_or (reverse xs) n x ∷ []) ∙ ap (λ y. y ∷ last_items n xs) (sym e)

-- the first items are the last ones of the reverse
pub reverse-take : {A : Type 0} (n : ℕ) (xs : List A) → reverse (take n xs) ≡ drop (length (reverse xs) - n) (reverse xs)
reverse-take n xs =
    let size : length (reverse (drop n xs)) ≡ length (reverse xs) - n = length-reverse (drop n xs) ∙ length-drop n xs ∙ ap (λ k. k - n) (sym (length-reverse xs)) in
    sym (ap (λ s. drop (length (reverse xs) - n) s) (ap reverse (sym (take-append-drop n xs)) ∙ reverse-append (take n xs) (drop n xs)) ∙ drop_at (reverse (drop n xs)) (reverse (take n xs)) (length (reverse xs) - n) size)
