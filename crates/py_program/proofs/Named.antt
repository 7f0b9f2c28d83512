-- Tables of what names define, from the last definition on.
use Rattle.std.proofs.Common.{◌≡◌, ℕ, zero, suc, ◌+◌, ◌<◌, ◌≤◌, Bool, true, false, List, [], ◌∷◌, length, map, drop, drop-cons, get_or, slice_get, slice_set, replicate, Option, Some, None, refl, sym, ap, arith, ◌∙◌, if◌then◌else◌, add-one}
use Rattle.std.specs.List.{All}
use Rattle.std.specs.Str.{bytes_eq}
use Rattle.std.proofs.lemmas.Grind.{common_steps}
use Rattle.std.proofs.lemmas.List.{get_or-map, length-map}
use Rattle.std.proofs.lemmas.Option.{gets}
use Rattle.std.proofs.lemmas.Slice.Eq.{bytes_eq-Decides}
use Rattle.spec_trees.specs.Expr.{Expr}
use Rattle.spec_trees.specs.Module as tree
use Rattle.spec_trees.specs.Module.{Block, Statement}
use Rattle.spec_names.specs.Members.{member_of}
use Rattle.spec_uses.specs.Functions.{FunctionOf}
use Rattle.spec_types.specs.Classes.{ClassOf, number_from}
use Rattle.spec_programs.specs.Definitions.{constant_named, is_constant_named, is_free_named, number_of, value_in}
use Rattle.py_tree.specs.declared.ids.ExprId.{ExprId}
use Rattle.py_tree.specs.declared.ids.NameId.{NameId}
use Rattle.py_tree.specs.declared.ids.StmtId.{StmtId}
use Rattle.py_tree.specs.Arena.{State, shown_stmt}
use Rattle.py_tree.specs.Exprs.{IsBoundBelow}
use Rattle.py_tree.specs.Names.{AreDistinct, text_of}
use Rattle.py_tree.specs.Stmts.{block_tree, optional_expr}
use Rattle.py_program.specs.Named.{first_from, has_text}

-- ---- one name

other_text : (x y : List ℕ) → (x ≡ y → ⊥) → bytes_eq x y ≡ false
other_text x y n = by_test (bytes_eq x y) refl
  where
    by_test : (b : Bool) → bytes_eq x y ≡ b → b ≡ false
    by_test true e = absurd (n ((bytes_eq-Decides x y).0 e))
    by_test false e = refl

module _ {B : Type 0} where
  -- one name has this value
  abbrev pub with_value : List ℕ → B → (List ℕ → B) → List ℕ → B
  with_value y v f x = if bytes_eq y x then v else f x

  pub map_same : (f g : List ℕ → B) (xs : List (List ℕ)) → ((x : List ℕ) → f x ≡ g x) → map f xs ≡ map g xs
  map_same f g [] h = refl
  map_same f g (x ∷ xs) h = rw (h x, map_same f g xs h) refl

  -- names that are not y keep their values
  kept : (f : List ℕ → B) (v : B) (names : List (List ℕ)) (y : List ℕ) → ((i : ℕ) → i < length names → y ≡ get_or names i [] → ⊥) → map f names ≡ map (with_value y v f) names
  kept f v [] y n = refl
  kept f v (x ∷ xs) y n =
      let here : bytes_eq y x ≡ false = other_text y x (n zero (omega arith)) in
      let rest : map f xs ≡ map (with_value y v f) xs = kept f v xs y (λ i lt. n (suc i) (omega arith)) in
      rw (here, ← rest) refl

  pub set_one : (f : List ℕ → B) (v : B) (names : List (List ℕ)) (i : ℕ) → AreDistinct names → i < length names → slice_set (map f names) i v ≡ map (with_value (get_or names i []) v f) names
  set_one f v [] i d lt = absurd (omega arith)
  set_one f v (x ∷ xs) zero d lt =
      let here : bytes_eq x x ≡ true = (bytes_eq-Decides x x).1 refl in
      let rest : map f xs ≡ map (with_value x v f) xs = kept f v xs x (λ i lt e. let z : zero ≡ suc i = d zero (suc i) (omega arith) (omega arith) e in absurd (omega arith)) in
      rw (here, ← rest) refl
  set_one f v (x ∷ xs) (suc i) d lt =
      let here : bytes_eq (get_or xs i []) x ≡ false = other_text (get_or xs i []) x (λ e. let z : suc i ≡ zero = d (suc i) zero (omega arith) (omega arith) e in absurd (omega arith)) in
      let rest : slice_set (map f xs) i v ≡ map (with_value (get_or xs i []) v f) xs = set_one f v xs i (λ j k a b e. let z : suc j ≡ suc k = d (suc j) (suc k) (omega arith) (omega arith) e in omega arith) (omega arith) in
      rw (here, rest) refl

-- no name has a value
pub all_none : {B : Type 0} (f : List ℕ → Option B) (names : List (List ℕ)) → ((x : List ℕ) → f x ≡ None) → replicate (length names) None ≡ map f names
all_none f [] h = refl
all_none f (x ∷ xs) h = rw (h x, all_none f xs h) refl

pub drop_from : {X : Type 0} (xs : List X) (i : ℕ) (d : X) → i < length xs → drop i xs ≡ get_or xs i d ∷ drop (i + 1) xs
drop_from xs i d lt = grind (arith, common_steps, drop-cons)

pub drop_all : {X : Type 0} (xs : List X) (i : ℕ) → length xs ≤ i → drop i xs ≡ []
drop_all [] zero le = refl
drop_all [] (suc i) le = refl
drop_all (x ∷ xs) zero le = absurd (omega arith)
drop_all (x ∷ xs) (suc i) le = drop_all xs i (omega arith)

-- ---- numbers

module _ (names : List (List ℕ)) (os : List (Option NameId)) where
  -- the numbers of the names from this place on
  abbrev pub numbers_from : ℕ → List ℕ → Option ℕ
  numbers_from i = first_from names i (drop i os)

  pub no_numbers : (i : ℕ) → length os ≤ i → replicate (length names) None ≡ map (numbers_from i) names
  no_numbers i le = rw (drop_all os i le) (all_none (first_from names i []) names (λ x. refl))

  module _ (i : ℕ) (d : Option NameId) (lt : i < length os) where
    pub number_here : (n : NameId) → AreDistinct names → n.index < length names → get_or os i d ≡ Some n → slice_set (map (numbers_from (i + 1)) names) n.index (Some i) ≡ map (numbers_from i) names
    number_here n distinct below e =
        set_one (numbers_from (i + 1)) (Some i) names n.index distinct below
        ∙ map_same (with_value (text_of names n) (Some i) (numbers_from (i + 1))) (numbers_from i) names (λ x. rw (drop_from os i d lt, e, add-one) refl)

    pub no_number_here : get_or os i d ≡ None → map (numbers_from (i + 1)) names ≡ map (numbers_from i) names
    no_number_here e = map_same (numbers_from (i + 1)) (numbers_from i) names (λ x. rw (drop_from os i d lt, e, add-one) refl)

-- names that tell of functions which are named have their numbers
pub function_numbers : (names : List (List ℕ)) (x : List ℕ) (os : List (Option NameId)) (fs : List FunctionOf) (k : ℕ) → map (has_text names x) os ≡ map (is_free_named x) fs → first_from names k os x ≡ number_of (is_free_named x) k fs
function_numbers names x [] [] k e = refl
function_numbers names x [] (f ∷ fs) k e = cc
function_numbers names x (o ∷ os) [] k e = cc
function_numbers names x (o ∷ os) (f ∷ fs) k e =
    let here : has_text names x o ≡ is_free_named x f = cc in
    let rest : map (has_text names x) os ≡ map (is_free_named x) fs = cc in
    rw (here, function_numbers names x os fs (suc k) rest) refl

abbrev pub is_class_named : List ℕ → ClassOf → Bool
is_class_named x c = bytes_eq c.name x

pub class_numbers : (names : List (List ℕ)) (x : List ℕ) (os : List (Option NameId)) (cs : List ClassOf) (k : ℕ) → map (has_text names x) os ≡ map (is_class_named x) cs → first_from names k os x ≡ number_from k cs x
class_numbers names x [] [] k e = refl
class_numbers names x [] (c ∷ cs) k e = cc
class_numbers names x (o ∷ os) [] k e = cc
class_numbers names x (o ∷ os) (c ∷ cs) k e =
    let here : has_text names x o ≡ is_class_named x c = cc in
    let rest : map (has_text names x) os ≡ map (is_class_named x) cs = cc in
    rw (here, class_numbers names x os cs (suc k) rest) refl

-- ---- constants

pub stmts_from : (t : ℕ → Statement) (xs : List StmtId) (i : ℕ) (s : StmtId) → slice_get xs i ≡ Some s → block_tree t (drop i xs) ≡ tree.statement (t s.index) (block_tree t (drop (i + 1) xs))
stmts_from t xs i s e = ap (block_tree t) (from xs i s e)
  where
    from : (xs : List StmtId) (i : ℕ) (s : StmtId) → slice_get xs i ≡ Some s → drop i xs ≡ s ∷ drop (i + 1) xs
    from xs i s e = grind (arith, common_steps, gets, drop-cons)

pub stmts_end : (t : ℕ → Statement) (xs : List StmtId) (i : ℕ) → length xs ≤ i → block_tree t (drop i xs) ≡ tree.no_statement
stmts_end t xs i le = ap (block_tree t) (drop_all xs i le)

module _ (names : List (List ℕ)) (s : Statement) (b : Block) (o : Option NameId) (text : (x : List ℕ) → has_text names x o ≡ is_constant_named x (member_of s)) where
  pub constant_here : (n : NameId) → AreDistinct names → n.index < length names → o ≡ Some n → slice_set (map (constant_named b) names) n.index (value_in s) ≡ map (constant_named (tree.statement s b)) names
  constant_here n distinct below e =
      set_one (constant_named b) (value_in s) names n.index distinct below
      ∙ map_same (with_value (text_of names n) (value_in s) (constant_named b)) (constant_named (tree.statement s b)) names
      (λ x. ap (λ (v : Bool). if v then value_in s else constant_named b x) (sym (ap (has_text names x) e) ∙ text x))

  pub no_constant_here : o ≡ None → map (constant_named b) names ≡ map (constant_named (tree.statement s b)) names
  no_constant_here e = map_same (constant_named b) (constant_named (tree.statement s b)) names (λ x. ap (λ (v : Bool). if v then value_in s else constant_named b x) (sym (ap (has_text names x) e) ∙ text x))

pub no_constants : (m : State) (xs : List StmtId) (i : ℕ) → length xs ≤ i → map (optional_expr m) (replicate (length m.names) None) ≡ map (constant_named (block_tree (shown_stmt m) (drop i xs))) m.names
no_constants m xs i le = rw (stmts_end (shown_stmt m) xs i le) (by_names m.names)
  where
    by_names : (names : List (List ℕ)) → map (optional_expr m) (replicate (length names) None) ≡ map (constant_named tree.no_statement) names
    by_names [] = refl
    by_names (x ∷ xs) = rw (by_names xs) refl

all_same : {X : Type 0} (P : X → Type 0) (x : X) → P x → (n : ℕ) → All P (replicate n x)
all_same P x p zero k d lt = absurd (omega arith)
all_same P x p (suc n) zero d lt = p
all_same P x p (suc n) (suc k) d lt = all_same P x p n k d (omega arith)

pub no_values : (m : State) → All (IsBoundBelow (length m.exprs)) (replicate (length m.names) None)
no_values m = all_same (IsBoundBelow (length m.exprs)) None tt (length m.names)

-- ---- reads

-- what was read from one of two lists that show the same
pub read_both : {A B C : Type 0} (f : A → C) (g : B → C) (xs : List A) (ys : List B) (i : ℕ) (x : A) (d : B) → map f xs ≡ map g ys → i < length ys → x ≡ get_or xs i x → f x ≡ g (get_or ys i d)
read_both f g xs ys i x d e lt is =
    let within : i < length xs = omega (arith, length-map xs f, length-map ys g, ap length e) in
    ap f is ∙ sym (get_or-map f xs i x (f x) within) ∙ ap (λ v. get_or v i (f x)) e ∙ get_or-map g ys i d (f x) lt
