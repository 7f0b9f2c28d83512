-- What names stand for in annotations.
use Rattle.std.proofs.Common.{◌++◌, slice_get, take, ◌≡◌, ℕ, zero, suc, ◌+◌, ◌<◌, ◌≤◌, Bool, true, false, List, [], ◌∷◌, length, map, drop, drop-cons, get_or, slice_set, replicate, Option, Some, None, refl, sym, ap, arith, ◌∙◌, if◌then◌else◌, add-one}
use Rattle.std.proofs.lemmas.List.{get_or-map, map_more}
use Rattle.std.proofs.lemmas.Option.{get_or_from_slice_get}
use Rattle.std.proofs.lemmas.Slice.Eq.{bytes_eq-Decides}
use Rattle.std.specs.Str.{bytes_eq}
use Rattle.spec_trees.specs.Module.{Block}
use Rattle.spec_uses.specs.declared.Meaning.{Meaning}
use Rattle.spec_uses.specs.declared.Meaning.TheVariants as meaning
use Rattle.spec_uses.specs.Meanings.{meaning_in}
use Rattle.spec_types.specs.declared.TypeName.{TypeName}
use Rattle.spec_types.specs.Classes.{class_number, classes, number_from}
use Rattle.spec_types.specs.Names.{meant_type, type_name}
use Rattle.py_tree.specs.Names.{AreDistinct}
use Rattle.py_tree.specs.Arena.{State}
use Rattle.module_classes.specs.declared.class.Class.{Class}
use Rattle.module_classes.specs.Sorted.{class_in}
use Rattle.type_names.specs.Meant.{type_meant}

-- ---- one name

meant_by_number : (f : List ℕ → Option ℕ) (m : Meaning) (x : List ℕ) → meant_type (λ _. f x) m x ≡ meant_type f m x
meant_by_number f meaning.Imported x = refl
meant_by_number f meaning.Class x = refl
meant_by_number f m x = refl

type_named : (b : Block) (x : List ℕ) → type_meant (meaning_in b x) (class_number b x) x ≡ type_name b x
type_named b x = rw (meant_by_number (class_number b) (meaning_in b x) x) refl

-- one type more, of the name of this place, whose meaning and number stand there too
pub one_type_more : (b : Block) (names : List (List ℕ)) (i : ℕ) (x : List ℕ) (m : Meaning) (o : Option ℕ) → i < length names → slice_get names i ≡ Some x
    → slice_get (map (meaning_in b) names) i ≡ Some m → o ≡ get_or (map (class_number b) names) i o
    → map (type_name b) (take i names) ++ type_meant m o x ∷ [] ≡ map (type_name b) (take (i + 1) names)
one_type_more b names i x m o lt text meant number =
    let text_is : get_or names i [] ≡ x = get_or_from_slice_get names i x [] text in
    let meaning_is : m ≡ meaning_in b x = sym (get_or_from_slice_get (map (meaning_in b) names) i m m meant) ∙ get_or-map (meaning_in b) names i [] m lt ∙ ap (meaning_in b) text_is in
    let number_is : o ≡ class_number b x = number ∙ get_or-map (class_number b) names i [] o lt ∙ ap (class_number b) text_is in
    let here : type_meant m o x ≡ type_name b (get_or names i []) = ap (λ (n : Meaning). type_meant n o x) meaning_is ∙ ap (λ (p : Option ℕ). type_meant (meaning_in b x) p x) number_is ∙ type_named b x ∙ ap (type_name b) (sym text_is) in
    ap (λ (t : TypeName). map (type_name b) (take i names) ++ t ∷ []) here ∙ sym (map_more (type_name b) names i [] lt)

-- ---- the numbers of classes

-- one name has this number
abbrev with_number : List ℕ → ℕ → (List ℕ → Option ℕ) → List ℕ → Option ℕ
with_number y k f x = if bytes_eq y x then Some k else f x

other_text : (x y : List ℕ) → (x ≡ y → ⊥) → bytes_eq x y ≡ false
other_text x y n = by_test (bytes_eq x y) refl
  where
    by_test : (b : Bool) → bytes_eq x y ≡ b → b ≡ false
    by_test true e = absurd (n ((bytes_eq-Decides x y).0 e))
    by_test false e = refl

-- names that are not y keep their numbers
kept : (f : List ℕ → Option ℕ) (k : ℕ) (names : List (List ℕ)) (y : List ℕ) → ((i : ℕ) → i < length names → y ≡ get_or names i [] → ⊥) → map f names ≡ map (with_number y k f) names
kept f k [] y n = refl
kept f k (x ∷ xs) y n =
    let here : bytes_eq y x ≡ false = other_text y x (n zero (omega arith)) in
    let rest : map f xs ≡ map (with_number y k f) xs = kept f k xs y (λ i lt. n (suc i) (omega arith)) in
    rw (here, ← rest) refl

set_number : (f : List ℕ → Option ℕ) (k : ℕ) (names : List (List ℕ)) (i : ℕ) → AreDistinct names → i < length names → slice_set (map f names) i (Some k) ≡ map (with_number (get_or names i []) k f) names
set_number f k [] i d lt = absurd (omega arith)
set_number f k (x ∷ xs) zero d lt =
    let here : bytes_eq x x ≡ true = (bytes_eq-Decides x x).1 refl in
    let rest : map f xs ≡ map (with_number x k f) xs = kept f k xs x (λ i lt e. let z : zero ≡ suc i = d zero (suc i) (omega arith) (omega arith) e in absurd (omega arith)) in
    rw (here, ← rest) refl
set_number f k (x ∷ xs) (suc i) d lt =
    let here : bytes_eq (get_or xs i []) x ≡ false = other_text (get_or xs i []) x (λ e. let z : suc i ≡ zero = d (suc i) zero (omega arith) (omega arith) e in absurd (omega arith)) in
    let rest : slice_set (map f xs) i (Some k) ≡ map (with_number (get_or xs i []) k f) xs = set_number f k xs i (λ j l a b e. let z : suc j ≡ suc l = d (suc j) (suc l) (omega arith) (omega arith) e in omega arith) (omega arith) in
    rw (here, rest) refl

-- the numbers of the classes from the one of this place on
abbrev pub numbers_from : State → List Class → ℕ → List ℕ → Option ℕ
numbers_from m cs i = number_from i (map (class_in m) (drop i cs))

pub no_numbers : (m : State) (cs : List Class) (names : List (List ℕ)) (i : ℕ) → length cs ≤ i → replicate (length names) None ≡ map (numbers_from m cs i) names
no_numbers m cs names i le = rw (drop_all cs i le) (all_none names)
  where
    drop_all : (cs : List Class) (i : ℕ) → length cs ≤ i → drop i cs ≡ []
    drop_all [] zero le = refl
    drop_all [] (suc i) le = refl
    drop_all (c ∷ cs) zero le = absurd (omega arith)
    drop_all (c ∷ cs) (suc i) le = drop_all cs i (omega arith)

    all_none : (names : List (List ℕ)) → replicate (length names) None ≡ map (number_from i []) names
    all_none [] = refl
    all_none (x ∷ xs) = rw (all_none xs) refl

pub one_number_more : (m : State) (cs : List Class) (i : ℕ) (d : Class) (j : ℕ) → AreDistinct m.names → i < length cs → j < length m.names → get_or m.names j [] ≡ (class_in m (get_or cs i d)).name
    → slice_set (map (numbers_from m cs (i + 1)) m.names) j (Some i) ≡ map (numbers_from m cs i) m.names
one_number_more m cs i d j distinct lt below text =
    set_number (numbers_from m cs (i + 1)) i m.names j distinct below
    ∙ map_same (with_number (get_or m.names j []) i (numbers_from m cs (i + 1))) (numbers_from m cs i) m.names (λ x. rw (drop_from cs i d lt, text, add-one) refl)
  where
    drop_from : (cs : List Class) (i : ℕ) (d : Class) → i < length cs → drop i cs ≡ get_or cs i d ∷ drop (i + 1) cs
    drop_from cs i d lt = grind (arith, drop-cons)

    map_same : (f g : List ℕ → Option ℕ) (xs : List (List ℕ)) → ((x : List ℕ) → f x ≡ g x) → map f xs ≡ map g xs
    map_same f g [] h = refl
    map_same f g (x ∷ xs) h = rw (h x, map_same f g xs h) refl
