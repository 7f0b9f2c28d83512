-- The place of a text among names.
use Rattle.std.proofs.Common.{◌≡◌, ℕ, ◌+◌, ◌<◌, ◌≤◌, ◌||◌, Bool, true, false, List, [], ◌∷◌, ◌++◌, length, map, get_or, slice_get, position, Some, None, refl, sym, ap, subst, cond, ◌∙◌, arith, append-nil, length-append, if◌then◌else◌, nat_lt, not}
use Rattle.std.specs.List.{list_any, position_or_len}
use Rattle.std.specs.Str.{bytes_eq}
use Rattle.std.proofs.Math.Numerals.{one-add}
use Rattle.std.proofs.lemmas.Bool.Decides.{nat_tests}
use Rattle.std.proofs.lemmas.List.{length-map, map-append, get_or_append_left, get_or_at}
use Rattle.std.proofs.lemmas.List.Sums.{fails_before_first}
use Rattle.std.proofs.lemmas.Option.{slice_get-get_or}
use Rattle.std.proofs.lemmas.Slice.Eq.{bytes_eq-Decides}
use Rattle.py_tree.specs.Names.{name_place, with_name, AreDistinct}

-- where a text stands: at a place that is there, or nowhere
data Standing (ns : List (List ℕ)) (t : List ℕ) : Type 0 where
  there : name_place ns t < length ns → get_or ns (name_place ns t) [] ≡ t → list_any (bytes_eq t) ns ≡ true → Standing ns t
  nowhere : name_place ns t ≡ length ns → list_any (bytes_eq t) ns ≡ false → Standing ns t

-- one name more in front
standing_step : (t n : List ℕ) (ns : List (List ℕ)) (b : Bool) → bytes_eq t n ≡ b → Standing ns t → Standing (n ∷ ns) t
standing_step t n ns true e h = there (rw e (omega arith)) (rw e (sym ((bytes_eq-Decides t n).0 e))) (rw e refl)
standing_step t n ns false e (there lt is any) = there (rw e (omega arith)) (rw (e, one-add) is) (rw e any)
standing_step t n ns false e (nowhere len any) = nowhere (rw e (omega arith)) (rw e any)

standing : (ns : List (List ℕ)) (t : List ℕ) → Standing ns t
standing [] t = nowhere refl refl
standing (n ∷ ns) t = standing_step t n ns (bytes_eq t n) refl (standing ns t)

-- a text that stands nowhere is none of the names
absent : (ns : List (List ℕ)) (t : List ℕ) → name_place ns t ≡ length ns → (i : ℕ) → i < length ns → get_or ns i [] ≡ t → ⊥
absent ns t e i lt is =
    let f : bytes_eq t (get_or ns i []) ≡ false = fails_before_first (bytes_eq t) ns i [] (omega arith) in
    let g : bytes_eq t (get_or ns i []) ≡ true = (bytes_eq-Decides t (get_or ns i [])).1 (sym is) in
    cc

-- distinct names and one more, which is none of them
distinct_push : (ns : List (List ℕ)) (t : List ℕ) → AreDistinct ns → ((i : ℕ) → i < length ns → get_or ns i [] ≡ t → ⊥) → AreDistinct (ns ++ t ∷ [])
distinct_push ns t d new i j li lj e = by (nat_lt i (length ns)) (nat_lt j (length ns)) refl refl
  where
    by : (s r : Bool) → nat_lt i (length ns) ≡ s → nat_lt j (length ns) ≡ r → i ≡ j
    by true true p q =
        let l : i < length ns = grind (arith, nat_tests) in
        let m : j < length ns = grind (arith, nat_tests) in
        d i j l m (sym (get_or_append_left ns (t ∷ []) [] i l) ∙ e ∙ get_or_append_left ns (t ∷ []) [] j m)
    by true false p q =
        let l : i < length ns = grind (arith, nat_tests) in
        let m : length ns ≤ j = grind (arith, nat_tests) in
        let k : j ≡ length ns = omega (arith, length-append ns (t ∷ [])) in
        absurd (new i l (sym (get_or_append_left ns (t ∷ []) [] i l) ∙ e ∙ get_or_at ns t [] [] j (sym k)))
    by false true p q =
        let m : j < length ns = grind (arith, nat_tests) in
        let l : length ns ≤ i = grind (arith, nat_tests) in
        let k : i ≡ length ns = omega (arith, length-append ns (t ∷ [])) in
        absurd (new j m (sym (get_or_append_left ns (t ∷ []) [] j m) ∙ sym e ∙ get_or_at ns t [] [] i (sym k)))
    by false false p q =
        let l : length ns ≤ i = grind (arith, nat_tests) in
        let m : length ns ≤ j = grind (arith, nat_tests) in
        omega (arith, length-append ns (t ∷ []))

-- what holds once a text is among the names
pub record IsAdded (ns : List (List ℕ)) (t : List ℕ) (i : ℕ) (ms : List (List ℕ)) : Type 0 where
  pub place : i ≡ name_place ns t
  pub names : ms ≡ with_name ns t
  pub text : slice_get ms i ≡ Some t
  pub below : i < length ms
  pub distinct : AreDistinct ns → AreDistinct ms

-- a text that is there
added_there : (ns : List (List ℕ)) (t : List ℕ) → name_place ns t < length ns → IsAdded ns t (name_place ns t) ns
added_there ns t lt = elim (standing ns t) [
  | there l is any ↦ record {
    place = refl;
    names = sym (ap (λ (b : Bool). if b then ns else ns ++ t ∷ []) any);
    text = slice_get-get_or ns (name_place ns t) [] lt ∙ ap (λ (x : List ℕ). Some x) is;
    below = lt;
    distinct = λ d. d;
  }
  | nowhere e any ↦ absurd (omega arith)
]

-- a text that is new
added_new : (ns : List (List ℕ)) (t : List ℕ) → name_place ns t ≡ length ns → IsAdded ns t (length ns) (with_name ns t)
added_new ns t e = elim (standing ns t) [
  | there l is any ↦ absurd (omega arith)
  | nowhere f any ↦
      let w : with_name ns t ≡ ns ++ t ∷ [] = ap (λ (b : Bool). if b then ns else ns ++ t ∷ []) any in
      let below : length ns < length (ns ++ t ∷ []) = omega (arith, length-append ns (t ∷ [])) in
      record {
        place = sym e;
        names = refl;
        text = rw w (slice_get-get_or (ns ++ t ∷ []) (length ns) [] below ∙ ap (λ (x : List ℕ). Some x) (get_or_at ns t [] [] (length ns) refl));
        below = rw w below;
        distinct = λ d. rw w (distinct_push ns t d (absent ns t e));
      }
]

-- the names grow at their end
pub with_name_more : (ns : List (List ℕ)) (t : List ℕ) → (more : List (List ℕ)) × (with_name ns t ≡ ns ++ more)
with_name_more ns t = by (list_any (bytes_eq t) ns) refl
  where
    by : (b : Bool) → list_any (bytes_eq t) ns ≡ b → (more : List (List ℕ)) × (with_name ns t ≡ ns ++ more)
    by true e = ([], ap (λ (b : Bool). if b then ns else ns ++ t ∷ []) e ∙ sym (append-nil ns))
    by false e = (t ∷ [], ap (λ (b : Bool). if b then ns else ns ++ t ∷ []) e)

module _ {K : Type 0} (f : K → List ℕ) (t : List ℕ) where
  -- the place among keys, each of which shows a name
  place_map : (ks : List K) → name_place (map f ks) t ≡ position_or_len (λ k. bytes_eq t (f k)) ks
  place_map [] = refl
  place_map (k ∷ ks) = ap (λ (n : ℕ). cond (not (bytes_eq t (f k))) (1 + n) 0) (place_map ks)

  any_map : (ks : List K) → list_any (bytes_eq t) (map f ks) ≡ list_any (λ k. bytes_eq t (f k)) ks
  any_map [] = refl
  any_map (k ∷ ks) = ap (λ (b : Bool). bytes_eq t (f k) || b) (any_map ks)

  -- keys, one of which shows the text
  pub found_there : (ks : List K) (i : ℕ) → position (λ k. bytes_eq t (f k)) ks ≡ Some i → IsAdded (map f ks) t i (map f ks)
  found_there ks i e = by (nat_lt (position_or_len (λ k. bytes_eq t (f k)) ks) (length ks)) refl
    where
      by : (b : Bool) → nat_lt (position_or_len (λ k. bytes_eq t (f k)) ks) (length ks) ≡ b → IsAdded (map f ks) t i (map f ks)
      by true p =
          let q : Some (position_or_len (λ k. bytes_eq t (f k)) ks) ≡ Some i = rw p at e in
          let r : position_or_len (λ k. bytes_eq t (f k)) ks ≡ i = cc in
          let lt : position_or_len (λ k. bytes_eq t (f k)) ks < length ks = grind (arith, nat_tests) in
          subst (λ (j : ℕ). IsAdded (map f ks) t j (map f ks)) (place_map ks ∙ r) (added_there (map f ks) t (omega (arith, place_map ks, length-map ks f)))
      by false p =
          let q : None ≡ Some i = rw p at e in
          absurd (cc)

  -- keys, none of which shows the text, and one more that does
  pub found_new : (ks : List K) (v : K) (i : ℕ) (ms : List K) → position (λ k. bytes_eq t (f k)) ks ≡ None → i ≡ length ks → f v ≡ t → ms ≡ (if list_any (λ k. bytes_eq (f v) (f k)) ks then ks else ks ++ v ∷ []) → IsAdded (map f ks) t i (map f ms)
  found_new ks v i ms e len is grown = by (nat_lt (position_or_len (λ k. bytes_eq t (f k)) ks) (length ks)) refl
    where
      by : (b : Bool) → nat_lt (position_or_len (λ k. bytes_eq t (f k)) ks) (length ks) ≡ b → IsAdded (map f ks) t i (map f ms)
      by true p =
          let q : Some (position_or_len (λ k. bytes_eq t (f k)) ks) ≡ None = rw p at e in
          absurd (cc)
      by false p = elim (standing (map f ks) t) [
        | there l has any ↦
            let o : name_place (map f ks) t ≡ position_or_len (λ k. bytes_eq t (f k)) ks = place_map ks in
            let m : length (map f ks) ≡ length ks = length-map ks f in
            let q : position_or_len (λ k. bytes_eq t (f k)) ks < length ks = omega (arith, l) in
            absurd (grind (arith, nat_tests))
        | nowhere l any ↦
            let none : list_any (λ k. bytes_eq (f v) (f k)) ks ≡ false = rw is (sym (any_map ks) ∙ any) in
            let pushed : ms ≡ ks ++ v ∷ [] = grown ∙ ap (λ (b : Bool). if b then ks else ks ++ v ∷ []) none in
            let shown : map f ms ≡ map f ks ++ t ∷ [] = rw pushed (map-append f ks (v ∷ []) ∙ ap (λ (x : List ℕ). map f ks ++ x ∷ []) is) in
            let same : with_name (map f ks) t ≡ map f ks ++ t ∷ [] = ap (λ (b : Bool). if b then map f ks else map f ks ++ t ∷ []) any in
            subst (λ (j : ℕ). IsAdded (map f ks) t j (map f ms)) (length-map ks f ∙ sym len) (
            subst (λ (x : List (List ℕ)). IsAdded (map f ks) t (length (map f ks)) x) (same ∙ sym shown) (added_new (map f ks) t l)
            )
      ]
