-- Tables of what names stand for.
use Rattle.std.proofs.Common.{◌≡◌, ℕ, zero, suc, ◌+◌, ◌<◌, ◌≤◌, Bool, true, false, ◌||◌, List, [], ◌∷◌, ◌++◌, length, map, take, drop, drop-cons, get_or, slice_get, slice_set, Option, Some, None, refl, sym, ap, arith, ◌∙◌, if◌then◌else◌}
use Rattle.std.proofs.lemmas.Grind.{common_steps}
use Rattle.std.proofs.lemmas.List.{map-append, take_more}
use Rattle.std.proofs.lemmas.Option.{gets, get_or_from_slice_get}
use Rattle.std.proofs.lemmas.Slice.Eq.{bytes_eq-Decides}
use Rattle.std.specs.Str.{bytes_eq}
use Rattle.std.specs.List.{list_any}
use Rattle.spec_trees.specs.Module as tree
use Rattle.spec_trees.specs.Module.{Block, Statement}
use Rattle.spec_contracts.specs.ContractLines.{is_among}
use Rattle.spec_names.specs.Members.{member_of}
use Rattle.spec_uses.specs.declared.Meaning.{Meaning}
use Rattle.std.specs.Option.{option_map}
use Rattle.spec_contracts.specs.ContractLines.{is_exception}
use Rattle.spec_names.specs.declared.builtins.Builtin.{Builtin}
use Rattle.spec_uses.specs.declared.Meaning.TheVariants as meaning
use Rattle.spec_uses.specs.Meanings.{builtin_of, defined_as, given_as, meaning_in, meant_by, or_else, otherwise}
use Rattle.py_tree.specs.declared.ids.StmtId.{StmtId}
use Rattle.py_tree.specs.declared.ids.NameId.{NameId}
use Rattle.py_tree.specs.Names.{AreDistinct, text_of}
use Rattle.py_tree.specs.Stmts.{block_tree}
use Rattle.name_meanings.specs.Tables.{with_member, with_name, with_names}

pub map_same : (f g : List ℕ → Meaning) (xs : List (List ℕ)) → ((x : List ℕ) → f x ≡ g x) → map f xs ≡ map g xs
map_same f g [] h = refl
map_same f g (x ∷ xs) h = rw (h x, map_same f g xs h) refl

-- ---- one name

same_text : (x y : List ℕ) → x ≡ y → bytes_eq x y ≡ true
same_text x y e = (bytes_eq-Decides x y).1 e

other_text : (x y : List ℕ) → (x ≡ y → ⊥) → bytes_eq x y ≡ false
other_text x y n = by_test (bytes_eq x y) refl
  where
    by_test : (b : Bool) → bytes_eq x y ≡ b → b ≡ false
    by_test true e = absurd (n ((bytes_eq-Decides x y).0 e))
    by_test false e = refl

-- names that are not y keep their meanings
kept : (f : List ℕ → Meaning) (m : Meaning) (names : List (List ℕ)) (y : List ℕ) → ((i : ℕ) → i < length names → y ≡ get_or names i [] → ⊥) → map f names ≡ map (with_name y m f) names
kept f m [] y n = refl
kept f m (x ∷ xs) y n =
    let here : bytes_eq y x ≡ false = other_text y x (n zero (omega arith)) in
    let rest : map f xs ≡ map (with_name y m f) xs = kept f m xs y (λ i lt. n (suc i) (omega arith)) in
    rw (here, ← rest) refl

pub set_one : (f : List ℕ → Meaning) (m : Meaning) (names : List (List ℕ)) (i : ℕ) → AreDistinct names → i < length names → slice_set (map f names) i m ≡ map (with_name (get_or names i []) m f) names
set_one f m [] i d lt = absurd (omega arith)
set_one f m (x ∷ xs) zero d lt =
    let rest : map f xs ≡ map (with_name x m f) xs = kept f m xs x (λ i lt e. let z : zero ≡ suc i = d zero (suc i) (omega arith) (omega arith) e in absurd (omega arith)) in
    rw (same_text x x refl, ← rest) refl
set_one f m (x ∷ xs) (suc i) d lt =
    let here : bytes_eq (get_or xs i []) x ≡ false = other_text (get_or xs i []) x (λ e. let z : suc i ≡ zero = d (suc i) zero (omega arith) (omega arith) e in absurd (omega arith)) in
    let rest : slice_set (map f xs) i m ≡ map (with_name (get_or xs i []) m f) xs = set_one f m xs i (λ j k a b e. let z : suc j ≡ suc k = d (suc j) (suc k) (omega arith) (omega arith) e in omega arith) (omega arith) in
    rw (here, rest) refl

-- ---- a list of names

turned : (x y : List ℕ) → bytes_eq x y ≡ bytes_eq y x
turned x y = by_test (bytes_eq x y) refl (bytes_eq y x) refl
  where
    by_test : (b : Bool) → bytes_eq x y ≡ b → (c : Bool) → bytes_eq y x ≡ c → b ≡ c
    by_test true e true f = refl
    by_test false e false f = refl
    by_test true e false f = sym ((bytes_eq-Decides y x).1 (sym ((bytes_eq-Decides x y).0 e))) ∙ f
    by_test false e true f = sym e ∙ (bytes_eq-Decides x y).1 (sym ((bytes_eq-Decides y x).0 f))

any_push : (f : List ℕ → Bool) (xs : List (List ℕ)) (y : List ℕ) → list_any f (xs ++ y ∷ []) ≡ (list_any f xs || f y)
any_push f [] y = by_test (f y)
  where
    by_test : (b : Bool) → (b || false) ≡ (false || b)
    by_test true = refl
    by_test false = refl
any_push f (x ∷ xs) y = by_test (f x) (any_push f xs y)
  where
    by_test : (b : Bool) → list_any f (xs ++ y ∷ []) ≡ (list_any f xs || f y) → (b || list_any f (xs ++ y ∷ [])) ≡ ((b || list_any f xs) || f y)
    by_test true h = refl
    by_test false h = h

one_more : (f : List ℕ → Meaning) (m : Meaning) (ys : List (List ℕ)) (y x : List ℕ) → with_name y m (with_names ys m f) x ≡ with_names (ys ++ y ∷ []) m f x
one_more f m ys y x = rw (any_push (bytes_eq x) ys y, turned x y) (by_tests (bytes_eq y x) (is_among ys x))
  where
    by_tests : (a b : Bool) → (if a then m else (if b then m else f x)) ≡ (if b || a then m else f x)
    by_tests true true = refl
    by_tests true false = refl
    by_tests false true = refl
    by_tests false false = refl

pub set_more : (f : List ℕ → Meaning) (m : Meaning) (ys names : List (List ℕ)) (y : List ℕ) → map (with_name y m (with_names ys m f)) names ≡ map (with_names (ys ++ y ∷ []) m f) names
set_more f m ys names y = map_same (with_name y m (with_names ys m f)) (with_names (ys ++ y ∷ []) m f) names (one_more f m ys y)

-- ---- a module, from its end

pub stmts_from : (t : ℕ → Statement) (xs : List StmtId) (i : ℕ) (s : StmtId) → slice_get xs i ≡ Some s → block_tree t (drop i xs) ≡ tree.statement (t s.index) (block_tree t (drop (i + 1) xs))
stmts_from t xs i s e = ap (block_tree t) (drop_from xs i s e)
  where
    drop_from : (xs : List StmtId) (i : ℕ) (s : StmtId) → slice_get xs i ≡ Some s → drop i xs ≡ s ∷ drop (i + 1) xs
    drop_from xs i s e = grind (arith, common_steps, gets, drop-cons)

pub drop_all : (xs : List StmtId) (i : ℕ) → length xs ≤ i → drop i xs ≡ []
drop_all [] zero le = refl
drop_all [] (suc i) le = refl
drop_all (x ∷ xs) zero le = absurd (omega arith)
drop_all (x ∷ xs) (suc i) le = drop_all xs i (omega arith)

either_way : (o p : Option Meaning) (m : Meaning) → otherwise o (otherwise p m) ≡ otherwise (or_else o p) m
either_way None p m = refl
either_way (Some x) p m = refl

pub one_before : (names : List (List ℕ)) (s : Statement) (b : Block) → map (with_member (member_of s) (meaning_in b)) names ≡ map (meaning_in (tree.statement s b)) names
one_before names s b = map_same (with_member (member_of s) (meaning_in b)) (meaning_in (tree.statement s b)) names (λ x. either_way (meant_by (member_of s) x) (defined_as b x) (given_as x))

-- ---- names that no module defines

pub function_is : (x : List ℕ) (k : Builtin) → Some k ≡ builtin_of x → meaning.BuiltIn k ≡ given_as x
function_is x k e = ap (λ (o : Option Builtin). otherwise (option_map meaning.BuiltIn o) (if is_exception x then meaning.Exception else meaning.Unknown)) e

pub unknown_is : (x : List ℕ) → None ≡ builtin_of x → is_exception x ≡ false → meaning.Unknown ≡ given_as x
unknown_is x e f = sym (ap (λ (b : Bool). if b then meaning.Exception else meaning.Unknown) f) ∙ ap (λ (o : Option Builtin). otherwise (option_map meaning.BuiltIn o) (if is_exception x then meaning.Exception else meaning.Unknown)) e

-- the default of reads, which is never seen
abbrev pub no_name : NameId
no_name = record { index = 0 }

-- the texts of one name more
pub texts_more : (names : List (List ℕ)) (xs : List NameId) (i : ℕ) (x : NameId) → i < length xs → slice_get xs i ≡ Some x → map (text_of names) (take i xs) ++ text_of names x ∷ [] ≡ map (text_of names) (take (i + 1) xs)
texts_more names xs i x lt at = sym (ap (map (text_of names)) (take_more xs i no_name lt ∙ ap (λ (y : NameId). take i xs ++ y ∷ []) (get_or_from_slice_get xs i x no_name at)) ∙ map-append (text_of names) (take i xs) (x ∷ []))
