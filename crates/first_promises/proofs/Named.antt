-- The parameters of a function, one after the other: their names and their types.
use Rattle.std.proofs.Common.{◌≡◌, ℕ, zero, suc, ◌+◌, ◌<◌, ◌≤◌, ◌==◌, Bool, true, false, ◌||◌, ◌&&◌, List, [], ◌∷◌, ◌++◌, length, map, drop, drop-cons, get_or, slice_get, Option, Some, None, refl, sym, ap, subst, arith, ◌∙◌, if◌then◌else◌, append_assoc, append-nil}
use Rattle.std.specs.Prelude.{codes}
use Rattle.std.specs.Str.{bytes_eq}
use Rattle.std.proofs.lemmas.Bool.Decides.{nat_tests}
use Rattle.std.proofs.lemmas.Grind.{common_steps}
use Rattle.std.proofs.lemmas.List.{map-append}
use Rattle.std.proofs.lemmas.Option.{get_or_from_slice_get}
use Rattle.std.proofs.lemmas.Slice.Eq.{bytes_eq-Decides}
use Rattle.spec_trees.specs.Stmt as simple
use Rattle.spec_trees.specs.Stmt.{TypeExpr}
use Rattle.spec_first_trees.specs.Program.{Parameter}
use Rattle.spec_contracts.specs.ContractLines.{is_among}
use Rattle.spec_forms.specs.Forms.{are_integers, integer_parameter, is_int}
use Rattle.py_tree.specs.declared.ids.NameId.{NameId}
use Rattle.py_tree.specs.declared.ids.TypeId.{TypeId}
use Rattle.py_tree.specs.declared.stmts.ParameterNode.{ParameterNode}
use Rattle.py_tree.specs.Names.{AreDistinct, text_of}
use Rattle.py_tree.specs.State.{State, shown_type}
use Rattle.py_tree.specs.Stmts.{AreParametersThere, parameters_tree}
use Rattle.py_tree.specs.Types.{IsTypeBelow, optional_type, types_tree}
use Rattle.first_tree.specs.Functions.{int_parameter}
use Rattle.first_promises.specs.Scopes.{parameter_names}

-- the text of a name that is there
pub text_found : (names : List (List ℕ)) (n : NameId) (t : List ℕ) → slice_get names n.index ≡ Some t → text_of names n ≡ t
text_found names n t e = get_or_from_slice_get names n.index t [] e

same_text : (x y : List ℕ) → x ≡ y → bytes_eq x y ≡ true
same_text x y e = (bytes_eq-Decides x y).1 e

other_text : (x y : List ℕ) → (x ≡ y → ⊥) → bytes_eq x y ≡ false
other_text x y n = by_test (bytes_eq x y) refl
  where
    by_test : (b : Bool) → bytes_eq x y ≡ b → b ≡ false
    by_test true e = absurd (n ((bytes_eq-Decides x y).0 e))
    by_test false e = refl

-- the default of reads, which is never seen
abbrev pub no_parameter : ParameterNode
no_parameter = record { name = record { index = 0 }; annotation = None; default = None }

-- nothing stands behind the last one
pub drop_all : {A : Type 0} (xs : List A) (i : ℕ) → length xs ≤ i → drop i xs ≡ []
drop_all [] zero le = refl
drop_all [] (suc i) le = refl
drop_all (x ∷ xs) zero le = absurd (omega arith)
drop_all (x ∷ xs) (suc i) le = drop_all xs i (omega arith)

module _ (m : State) (ps : List ParameterNode) (i : ℕ) (d : ParameterNode) (lt : i < length ps) where
  from : drop i ps ≡ get_or ps i d ∷ drop (i + 1) ps
  from = grind (arith, common_steps, drop-cons)

  there : AreParametersThere m (drop i ps) → AreParametersThere m (get_or ps i d ∷ drop (i + 1) ps)
  there h = subst (AreParametersThere m) from h

  pub rest_there : AreParametersThere m (drop i ps) → AreParametersThere m (drop (i + 1) ps)
  rest_there h = (there h).3

  pub name_there : AreParametersThere m (drop i ps) → (get_or ps i d).name.index < length m.names
  name_there h = (there h).0

  pub type_there : AreParametersThere m (drop i ps) → IsTypeBelow (length m.types) (get_or ps i d).annotation
  type_there h = (there h).1

  -- ---- a name among those of the parameters

  abbrev text : NameId → List ℕ
  text n = text_of m.names n

  names_from : parameter_names m (drop i ps) ≡ text (get_or ps i d).name ∷ parameter_names m (drop (i + 1) ps)
  names_from = ap (parameter_names m) from

  pub name_is : (n : NameId) → (get_or ps i d).name.index ≡ n.index → is_among (parameter_names m (drop i ps)) (text n) ≡ true
  name_is n e =
      let same : text n ≡ text (get_or ps i d).name = ap (λ (k : ℕ). get_or m.names k []) (sym e) in
      rw (names_from, same_text _ _ same) refl

  pub name_is_not : (n : NameId) → AreDistinct m.names → AreParametersThere m (drop i ps) → n.index < length m.names → ((get_or ps i d).name.index ≡ n.index → ⊥)
      → is_among (parameter_names m (drop i ps)) (text n) ≡ is_among (parameter_names m (drop (i + 1) ps)) (text n)
  name_is_not n distinct h below not =
      let other : bytes_eq (text n) (text (get_or ps i d).name) ≡ false = other_text _ _ (λ e. not (sym (distinct n.index (get_or ps i d).name.index below (name_there h) e))) in
      rw (names_from, other) refl

  -- ---- integers

  integers_from : are_integers (parameters_tree m (drop i ps)) ≡ (is_int (optional_type (shown_type m) (get_or ps i d).annotation) && are_integers (parameters_tree m (drop (i + 1) ps)))
  integers_from = ap (λ (v : List ParameterNode). are_integers (parameters_tree m v)) from

  pub no_integers : is_int (optional_type (shown_type m) (get_or ps i d).annotation) ≡ false → are_integers (parameters_tree m (drop i ps)) ≡ false
  no_integers e = rw (integers_from, e) refl

  pub more_integers : is_int (optional_type (shown_type m) (get_or ps i d).annotation) ≡ true → are_integers (parameters_tree m (drop (i + 1) ps)) ≡ are_integers (parameters_tree m (drop i ps))
  more_integers e = rw (integers_from, e) refl

  pub one_name_more : (xs : List (List ℕ)) (x : List ℕ) → x ≡ text (get_or ps i d).name
      → map int_parameter (xs ++ x ∷ []) ++ map integer_parameter (parameters_tree m (drop (i + 1) ps)) ≡ map int_parameter xs ++ map integer_parameter (parameters_tree m (drop i ps))
  one_name_more xs x e =
      rw (map-append int_parameter xs (x ∷ []), append_assoc (map int_parameter xs) (int_parameter x ∷ []) (map integer_parameter (parameters_tree m (drop (i + 1) ps))), e)
      (ap (λ (v : List ParameterNode). map int_parameter xs ++ map integer_parameter (parameters_tree m v)) (sym from))

-- ---- what is answered

pub not_integers : (m : State) (ps : List ParameterNode) (o : Option (List Parameter)) → o ≡ None → are_integers (parameters_tree m ps) ≡ false
    → o ≡ (if are_integers (parameters_tree m ps) then Some (map integer_parameter (parameters_tree m ps)) else None)
not_integers m ps o e f = rw (e, f) refl

pub all_integers : (m : State) (ps : List ParameterNode) (i : ℕ) (xs : List (List ℕ)) → length ps ≤ i
    → are_integers (parameters_tree m (drop i ps)) ≡ are_integers (parameters_tree m ps)
    → map int_parameter xs ++ map integer_parameter (parameters_tree m (drop i ps)) ≡ map integer_parameter (parameters_tree m ps)
    → Some (map int_parameter xs) ≡ (if are_integers (parameters_tree m ps) then Some (map integer_parameter (parameters_tree m ps)) else None)
all_integers m ps i xs le are is =
    let end : drop i ps ≡ [] = drop_all ps i le in
    let all : are_integers (parameters_tree m ps) ≡ true = sym are ∙ ap (λ (v : List ParameterNode). are_integers (parameters_tree m v)) end in
    let names : map int_parameter xs ≡ map integer_parameter (parameters_tree m ps) = sym (append-nil (map int_parameter xs)) ∙ ap (λ (v : List ParameterNode). map int_parameter xs ++ map integer_parameter (parameters_tree m v)) (sym end) ∙ is in
    rw (all, names) refl

-- ---- the type `int`

or_false : (b : Bool) → (b || false) ≡ b
or_false true = refl
or_false false = refl

pub int_alone : (n : ℕ) (x : List ℕ) (t : ℕ → TypeExpr) (xs : List TypeId) → (length xs == 0) ≡ true → is_int (Some (simple.name n x (types_tree t xs))) ≡ bytes_eq x (codes "int")
int_alone n x t [] e = or_false (bytes_eq x (codes "int"))
int_alone n x t (y ∷ ys) e = absurd (grind (arith, nat_tests))

pub no_int : (n : ℕ) (x : List ℕ) (t : ℕ → TypeExpr) (xs : List TypeId) → (length xs == 0) ≡ false → is_int (Some (simple.name n x (types_tree t xs))) ≡ false
no_int n x t [] e = absurd (grind (arith, nat_tests))
no_int n x t (y ∷ ys) e = refl
