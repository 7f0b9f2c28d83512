-- Elements of lists and the tests that find them.
use Rattle.std.proofs.Common.{◌≡◌, ℕ, zero, suc, ◌<◌, Bool, true, false, List, [], ◌∷◌, length, get_or, take, ◌≤◌, refl, sym, ap, subst, ◌∙◌, arith, Option, Some, None, find, cond, ◌⊎◌, inl, inr, Contains}
use Rattle.std.specs.List.{list_any, list_all, filter_map, cons_option}
use Rattle.std.proofs.lemmas.Bool.{and_parts, and_cases, and_from}
use Rattle.std.proofs.lemmas.List.{get_or-take, get_or_default, length-take}
use Rattle.std.proofs.lemmas.List.Folds.{Any-from_list_any, list_any-from_Any}

module _ {X : Type 0} where
  -- the first element
  pub contains_head : (x : X) (xs : List X) → Contains (x ∷ xs) x
  contains_head x xs = (0, omega arith, refl)

  -- a later element
  pub contains_tail : (x : X) (xs : List X) (y : X) → Contains xs y → Contains (x ∷ xs) y
  contains_tail x xs y (k, lt, e) = (suc k, omega arith, e)

  -- an element is the first one or a later one
  pub contains_cases : (x : X) (xs : List X) (y : X) → Contains (x ∷ xs) y → (x ≡ y) ⊎ Contains xs y
  contains_cases x xs y (zero, lt, e) = inl e
  contains_cases x xs y (suc k, lt, e) = inr (k, omega arith, e)

  -- no element of the empty list
  pub contains_none : (y : X) → Contains [] y → ⊥
  contains_none y (k, lt, e) = omega arith

  -- a longer front has what a shorter one has
  pub contains_take : (m n : ℕ) (xs : List X) (x : X) → m ≤ n → Contains (take m xs) x → Contains (take n xs) x
  contains_take m n xs x le (k, lt, e) =
      let below : k < m = omega (arith, length-take m xs) in
      let under : k < n = omega arith in
      (k, omega (arith, length-take m xs, length-take n xs), get_or-take n xs k x under ∙ sym (get_or-take m xs k x below) ∙ e)

  -- where all pass, each does
  pub all_told : (p : X → Bool) (xs : List X) (x : X) → list_all p xs ≡ true → Contains xs x → p x ≡ true
  all_told p [] x h c = absurd (contains_none x c)
  all_told p (y ∷ xs) x h c =
      let parts = and_parts (p y) (list_all p xs) h in
      elim (contains_cases y xs x c) [ inl e ↦ sym (ap p e) ∙ parts.0 | inr r ↦ all_told p xs x parts.1 r ]

  -- where each passes, all do
  pub all_from : (p : X → Bool) (xs : List X) → ((x : X) → Contains xs x → p x ≡ true) → list_all p xs ≡ true
  all_from p [] h = refl
  all_from p (y ∷ xs) h = and_from (p y) (list_all p xs) (h y (contains_head y xs)) (all_from p xs (λ x c. h x (contains_tail y xs x c)))

  -- where not all pass, some element does not
  pub not_all : (p : X → Bool) (xs : List X) → list_all p xs ≡ false → (x : X) × Contains xs x × (p x ≡ false)
  not_all p [] h = cc
  not_all p (y ∷ xs) h = elim (and_cases (p y) (list_all p xs) h) [
    | inl f ↦ (y, contains_head y xs, f)
    | inr f ↦ (let r = not_all p xs f in (r.0, contains_tail y xs r.0 r.1, r.2))
  ]

  -- what is found stands in the list and passes
  pub found : (p : X → Bool) (xs : List X) (x : X) → find p xs ≡ Some x → Contains xs x × (p x ≡ true)
  found p [] x e = cc
  found p (y ∷ xs) x e = by (found p xs x) (p y) refl e
    where
      by : (find p xs ≡ Some x → Contains xs x × (p x ≡ true)) → (b : Bool) → p y ≡ b → cond b (Some y) (find p xs) ≡ Some x → Contains (y ∷ xs) x × (p x ≡ true)
      by rest true t f = let s : y ≡ x = cc in ((0, omega arith, s), sym (ap p s) ∙ t)
      by rest false t f = let r = rest f in (contains_tail y xs x r.0, r.1)

  -- where nothing is found, nothing passes
  pub not_found : (p : X → Bool) (xs : List X) (x : X) → find p xs ≡ None → Contains xs x → p x ≡ false
  not_found p [] x e c = absurd (contains_none x c)
  not_found p (y ∷ xs) x e c = by (not_found p xs x) (p y) refl e
    where
      by : (find p xs ≡ None → Contains xs x → p x ≡ false) → (b : Bool) → p y ≡ b → cond b (Some y) (find p xs) ≡ None → p x ≡ false
      by rest true t f = cc
      by rest false t f = elim (contains_cases y xs x c) [ inl s ↦ sym (ap p s) ∙ t | inr r ↦ rest f r ]

  -- where some element passes, there is one
  pub any_told : (p : X → Bool) (xs : List X) → list_any p xs ≡ true → (x : X) × Contains xs x × (p x ≡ true)
  any_told p xs h = let a = Any-from_list_any p xs h in (a.1, (a.0, a.2, a.3), a.4)

  -- an element that passes
  pub any_from : (p : X → Bool) (xs : List X) (x : X) → Contains xs x → p x ≡ true → list_any p xs ≡ true
  any_from p xs x c t = list_any-from_Any p xs (c.0, x, c.1, c.2, t)

-- what a function gives of an element stands in the list of what it gives
pub contains_filtered : {X Y : Type 0} (h : X → Option Y) (xs : List X) (x : X) (y : Y) → Contains xs x → h x ≡ Some y → Contains (filter_map h xs) y
contains_filtered h [] x y c e = absurd (contains_none x c)
contains_filtered {Y = Y} h (z ∷ xs) x y c e = elim (contains_cases z xs x c) [
  | inl s ↦ (let P : Option Y → Type 0 = λ o. Contains (cons_option o (filter_map h xs)) y in subst P (sym (ap h s ∙ e)) (contains_head y (filter_map h xs)))
  | inr r ↦ by (h z) (contains_filtered h xs x y r e)
]
  where
    by : (o : Option Y) → Contains (filter_map h xs) y → Contains (cons_option o (filter_map h xs)) y
    by None t = t
    by (Some w) t = contains_tail w (filter_map h xs) y t

-- and nothing else stands there
pub filtered_contains : {X Y : Type 0} (h : X → Option Y) (xs : List X) (y : Y) → Contains (filter_map h xs) y → (x : X) × Contains xs x × (h x ≡ Some y)
filtered_contains h [] y c = absurd (contains_none y c)
filtered_contains {X = X} {Y = Y} h (z ∷ xs) y c = by (filtered_contains h xs y) (h z) refl c
  where
    by : (Contains (filter_map h xs) y → (x : X) × Contains xs x × (h x ≡ Some y)) → (o : Option Y) → h z ≡ o → Contains (cons_option o (filter_map h xs)) y → (x : X) × Contains (z ∷ xs) x × (h x ≡ Some y)
    by rest None e t = let r = rest t in (r.0, contains_tail z xs r.0 r.1, r.2)
    by rest (Some w) e t = elim (contains_cases w (filter_map h xs) y t) [
      | inl s ↦ (z, contains_head z xs, e ∙ ap (λ (v : Y). Some v) s)
      | inr u ↦ (let r = rest u in (r.0, contains_tail z xs r.0 r.1, r.2))
    ]

-- what is read at a place stands in the list
pub contains_at : {X : Type 0} (xs : List X) (i : ℕ) (d : X) → i < length xs → Contains xs (get_or xs i d)
contains_at xs i d lt = (i, lt, get_or_default xs i (get_or xs i d) d lt)
