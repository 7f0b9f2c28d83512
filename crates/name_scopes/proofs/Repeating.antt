-- The keywords of arguments, which are added to a set and left out again.
use Rattle.std.proofs.Common.{◌≡◌, ℕ, zero, suc, ◌+◌, ◌<◌, ◌≤◌, Bool, true, false, ◌||◌, List, [], ◌∷◌, ◌++◌, length, drop, replicate, append-nil, get_or, slice_get, slice_set, Option, Some, None, refl, sym, ap, arith, ◌∙◌}
use Rattle.std.proofs.lemmas.Bool.{true≢false}
use Rattle.std.proofs.lemmas.List.{append_assoc, get_or-set_other, get_or-set_same, length-set}
use Rattle.std.proofs.lemmas.Option.{get_or_from_slice_get}
use Rattle.std.proofs.lemmas.Slice.Eq.{bytes_eq-Decides}
use Rattle.std.specs.Str.{bytes_eq}
use Rattle.spec_trees.specs.Expr.{Expr}
use Rattle.spec_contracts.specs.ContractLines.{is_among}
use Rattle.spec_names.specs.Defined.{are_repeated, onto}
use Rattle.spec_uses.specs.Expressions.{keywords}
use Rattle.py_tree.specs.declared.exprs.Argument.{Argument}
use Rattle.py_tree.specs.declared.ids.NameId.{NameId}
use Rattle.py_tree.specs.Exprs.{AreArgumentsBelow, IsNameBelow, argument_list_tree}
use Rattle.py_tree.specs.Names.{AreDistinct, text_of}
use Rattle.name_sets.specs.Marks.{marks_of}
use Rattle.name_sets.proofs.Marks.{mark_at, marks_length}
use Rattle.told_refusals.proofs.Telling.{drop_all, drop_from}
use Rattle.local_names.proofs.Adding.{adds_none, adds_then}
use Rattle.local_names.specs.Adding.{Adds}
use Rattle.name_scopes.specs.Repeating.{keyword_of}

-- the default of reads, which is never seen
abbrev pub no_argument : Argument
no_argument = record { name = None; value = record { index = 0 } }

pub argument_below : (k n : ℕ) (xs : List Argument) (i : ℕ) (d : Argument) → AreArgumentsBelow k n xs → i < length xs → IsNameBelow k (get_or xs i d).name
argument_below k n [] i d h lt = absurd (omega arith)
argument_below k n (x ∷ xs) zero d h lt = h.0
argument_below k n (x ∷ xs) (suc i) d h lt = argument_below k n xs i d h.2 (omega arith)

-- a keyword is repeated where it is in the set
pub keyword_there : (names : List (List ℕ)) (xs : List (List ℕ)) (set : List Bool) (n : NameId) (r : Bool) → set ≡ marks_of xs names → n.index < length names → slice_get set n.index ≡ Some r
    → r ≡ are_repeated xs (text_of names n ∷ [])
keyword_there names xs set n r e lt at = sym (get_or_from_slice_get set n.index r false at) ∙ ap (λ (v : List Bool). get_or v n.index false) e ∙ mark_at xs names n.index false lt ∙ or_false (is_among xs (text_of names n))
  where
    or_false : (a : Bool) → a ≡ (a || false)
    or_false true = refl
    or_false false = refl

repeated_then : (earlier xs ys : List (List ℕ)) → are_repeated earlier (xs ++ ys) ≡ (are_repeated earlier xs || are_repeated (onto earlier xs) ys)
repeated_then earlier [] ys = refl
repeated_then earlier (x ∷ xs) ys = ap (λ (b : Bool). is_among earlier x || b) (repeated_then (x ∷ earlier) xs ys) ∙ or_assoc (is_among earlier x) (are_repeated (x ∷ earlier) xs) (are_repeated (onto (x ∷ earlier) xs) ys)
  where
    or_assoc : (a b c : Bool) → (a || (b || c)) ≡ ((a || b) || c)
    or_assoc true b c = refl
    or_assoc false b c = refl

-- names are among these in whichever order
pub among_onto : (earlier xs : List (List ℕ)) (x : List ℕ) → is_among (onto earlier xs) x ≡ (is_among earlier x || is_among xs x)
among_onto earlier [] x = or_false (is_among earlier x)
  where
    or_false : (a : Bool) → a ≡ (a || false)
    or_false true = refl
    or_false false = refl
among_onto earlier (y ∷ ys) x = among_onto (y ∷ earlier) ys x ∙ turned (bytes_eq x y) (is_among earlier x) (is_among ys x)
  where
    turned : (a b c : Bool) → ((a || b) || c) ≡ (b || (a || c))
    turned true true c = refl
    turned true false c = refl
    turned false true c = refl
    turned false false c = refl

module _ (names : List (List ℕ)) (t : ℕ → Expr) where
  abbrev pub keywords_in : List Argument → List (List ℕ)
  keywords_in xs = keywords (argument_list_tree names t xs)

  abbrev pub keyword_by : Argument → List (List ℕ)
  keyword_by x = keyword_of names x.name

  pub keywords_step : (x : Argument) (xs : List Argument) → keywords_in (x ∷ xs) ≡ keyword_by x ++ keywords_in xs
  keywords_step x xs = by_name x.name
    where
      by_name : (o : Option NameId) → keywords_in (record { name = o; value = x.value } ∷ xs) ≡ keyword_of names o ++ keywords_in xs
      by_name None = refl
      by_name (Some n) = refl

  module _ (xs : List Argument) (old : List Bool) where
    -- ---- the keywords before the place i are added, and it is told whether one of them was there

    pub record RepeatedTo (now : List Bool) (told : Bool) (i : ℕ) : Type 0 where
      pub so_far : List (List ℕ)
      pub adds : Adds names old now so_far
      pub rest : keywords_in xs ≡ so_far ++ keywords_in (drop i xs)
      pub repeated : (earlier : List (List ℕ)) → old ≡ marks_of earlier names → told ≡ are_repeated earlier so_far

    pub repeated_none : length old ≡ length names → RepeatedTo old false 0
    repeated_none e = record { so_far = []; adds = adds_none names old e; rest = refl; repeated = λ earlier f. refl }

    module _ (now : List Bool) (told : Bool) (i : ℕ) (h : RepeatedTo now told i) where
      pub repeated_more : (new : List Bool) (is_there told_new : Bool) (d : Argument) → i < length xs → Adds names now new (keyword_by (get_or xs i d))
          → ((earlier : List (List ℕ)) → now ≡ marks_of earlier names → is_there ≡ are_repeated earlier (keyword_by (get_or xs i d))) → told_new ≡ (told || is_there) → RepeatedTo new told_new (i + 1)
      repeated_more new is_there told_new d lt adds there is =
          let x : Argument = get_or xs i d in
          record {
            so_far = h.so_far ++ keyword_by x;
            adds = adds_then names old now new h.so_far (keyword_by x) h.adds adds;
            rest = h.rest ∙ ap (λ (v : List Argument). h.so_far ++ keywords_in v) (drop_from xs i d lt) ∙ ap (λ (v : List (List ℕ)). h.so_far ++ v) (keywords_step x (drop (i + 1) xs))
                ∙ sym (append_assoc h.so_far (keyword_by x) (keywords_in (drop (i + 1) xs)));
            repeated = λ earlier f. is ∙ ap (λ (b : Bool). b || is_there) (h.repeated earlier f)
                ∙ ap (λ (b : Bool). are_repeated earlier h.so_far || b) (there (onto earlier h.so_far) (h.adds.set earlier f))
                ∙ sym (repeated_then earlier h.so_far (keyword_by x));
          }

      all : length xs ≤ i → h.so_far ≡ keywords_in xs
      all le = sym (h.rest ∙ ap (λ (v : List Argument). h.so_far ++ keywords_in v) (drop_all xs i le) ∙ append-nil h.so_far)

      pub added_all : length xs ≤ i → Adds names old now (keywords_in xs)
      added_all le = rw (← all le) h.adds

      pub repeated_all : length xs ≤ i → (earlier : List (List ℕ)) → old ≡ marks_of earlier names → told ≡ are_repeated earlier (keywords_in xs)
      repeated_all le earlier f = h.repeated earlier f ∙ ap (are_repeated earlier) (all le)

  -- ---- the keywords before the place i are left out

  pub record LeftTo (xs : List Argument) (now : List Bool) (i : ℕ) : Type 0 where
    pub size : length now ≡ length names
    pub left : (k : ℕ) → k < length names → get_or now k false ≡ true → is_among (keywords_in (drop i xs)) (get_or names k []) ≡ true

  module _ (xs : List Argument) (now : List Bool) where
    pub left_none : now ≡ marks_of (onto [] (keywords_in xs)) names → LeftTo xs now 0
    left_none e = record {
      size = ap length e ∙ marks_length (onto [] (keywords_in xs)) names;
      left = λ k lt is. sym (among_onto [] (keywords_in xs) (get_or names k [])) ∙ sym (mark_at (onto [] (keywords_in xs)) names k false lt) ∙ ap (λ (v : List Bool). get_or v k false) (sym e) ∙ is;
    }

    module _ (i : ℕ) (h : LeftTo xs now i) (d : Argument) (lt : i < length xs) where
      abbrev rest : List (List ℕ)
      rest = keywords_in (drop (i + 1) xs)

      here : keywords_in (drop i xs) ≡ keyword_by (get_or xs i d) ++ rest
      here = ap keywords_in (drop_from xs i d lt) ∙ keywords_step (get_or xs i d) (drop (i + 1) xs)

      pub left_pass : ((n : NameId) → (get_or xs i d).name ≡ Some n → ⊥) → LeftTo xs now (i + 1)
      left_pass none = record {
        size = h.size;
        left = λ k less is. ap (λ (v : List (List ℕ)). is_among v (get_or names k [])) (sym (here ∙ by_name (get_or xs i d).name none)) ∙ h.left k less is;
      }
        where
          by_name : (o : Option NameId) → ((n : NameId) → o ≡ Some n → ⊥) → keyword_of names o ++ rest ≡ rest
          by_name None f = refl
          by_name (Some n) f = absurd (f n refl)

      pub left_more : (n : NameId) → (get_or xs i d).name ≡ Some n → AreDistinct names → n.index < length names → LeftTo xs (slice_set now n.index false) (i + 1)
      left_more n some distinct there = record { size = length-set now n.index false ∙ h.size; left = λ k less is. by_text k less is (bytes_eq (get_or names k []) (text_of names n)) refl }
        where
          by_text : (k : ℕ) → k < length names → get_or (slice_set now n.index false) k false ≡ true → (b : Bool) → bytes_eq (get_or names k []) (text_of names n) ≡ b → is_among rest (get_or names k []) ≡ true
          by_text k less is true e =
              let same : k ≡ n.index = distinct k n.index less there ((bytes_eq-Decides (get_or names k []) (text_of names n)).0 e) in
              let out : get_or (slice_set now n.index false) k false ≡ false = ap (λ (j : ℕ). get_or (slice_set now n.index false) j false) same ∙ get_or-set_same now n.index false false (rw h.size there) in
              absurd (true≢false (sym is ∙ out))
          by_text k less is false e =
              let other : k ≡ n.index → ⊥ = λ same. true≢false (sym ((bytes_eq-Decides (get_or names k []) (text_of names n)).1 (ap (λ (j : ℕ). get_or names j []) same)) ∙ e) in
              let was : is_among (keywords_in (drop i xs)) (get_or names k []) ≡ true = h.left k less (sym (get_or-set_other now n.index k false false other) ∙ is) in
              sym (ap (λ (b : Bool). b || is_among rest (get_or names k [])) e) ∙ ap (λ (v : List (List ℕ)). is_among v (get_or names k [])) (sym (here ∙ ap (λ (o : Option NameId). keyword_of names o ++ rest) some)) ∙ was

    pub left_all : (i : ℕ) → LeftTo xs now i → length xs ≤ i → now ≡ replicate (length names) false
    left_all i h le = all_out now (length names) h.size (λ k less. by_mark k less (get_or now k false) refl)
      where
        by_mark : (k : ℕ) → k < length names → (b : Bool) → get_or now k false ≡ b → get_or now k false ≡ false
        by_mark k less true e = absurd (true≢false (sym (h.left k less e) ∙ ap (λ (v : List Argument). is_among (keywords_in v) (get_or names k [])) (drop_all xs i le)))
        by_mark k less false e = e

        all_out : (v : List Bool) (n : ℕ) → length v ≡ n → ((k : ℕ) → k < n → get_or v k false ≡ false) → v ≡ replicate n false
        all_out [] zero e f = refl
        all_out [] (suc n) e f = absurd (omega (arith, e))
        all_out (b ∷ v) zero e f = absurd (omega (arith, e))
        all_out (b ∷ v) (suc n) e f = rw (f zero (omega arith), all_out v n (omega (arith, e)) (λ k lt. f (suc k) (omega arith))) refl
