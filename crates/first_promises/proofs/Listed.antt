-- The exception classes of a list of names, one after the other.
use Rattle.std.proofs.Common.{◌≡◌, ℕ, ◌+◌, ◌≤◌, List, [], ◌∷◌, ◌++◌, length, map, drop, drop-cons, get_or, slice_get, Some, None, refl, sym, ap, arith, ◌∙◌, append_assoc, append-nil}
use Rattle.std.specs.List.{filter_map}
use Rattle.std.proofs.lemmas.Grind.{common_steps}
use Rattle.std.proofs.lemmas.Option.{gets}
use Rattle.spec_first_trees.specs.declared.ExcClass.{ExcClass}
use Rattle.spec_first_trees.specs.Classes.{class_named}
use Rattle.py_tree.specs.declared.ids.NameId.{NameId}
use Rattle.py_tree.specs.declared.ids.NamesId.{NamesId}
use Rattle.py_tree.specs.Names.{text_of}
use Rattle.py_tree.specs.State.{State}
use Rattle.first_promises.proofs.Named.{drop_all, text_found}

abbrev pub names_at : State → NamesId → List NameId
names_at m l = get_or m.lists l.index []

abbrev classes_named : State → List NameId → List ExcClass
classes_named m ns = filter_map class_named (map (text_of m.names) ns)

-- the classes of the names from the place i on
abbrev pub classes_from : State → NamesId → ℕ → List ExcClass
classes_from m l i = classes_named m (drop i (names_at m l))

module _ (m : State) (l : NamesId) (i : ℕ) (n : NameId) (t : List ℕ) (at : slice_get (names_at m l) i ≡ Some n) (text : slice_get m.names n.index ≡ Some t) where
  from : classes_from m l i ≡ classes_named m (n ∷ drop (i + 1) (names_at m l))
  from = ap (classes_named m) (drop_from (names_at m l) i n at)
    where
      drop_from : (xs : List NameId) (i : ℕ) (x : NameId) → slice_get xs i ≡ Some x → drop i xs ≡ x ∷ drop (i + 1) xs
      drop_from xs i x e = grind (arith, common_steps, gets, drop-cons)

  pub no_class : class_named t ≡ None → classes_from m l (i + 1) ≡ classes_from m l i
  no_class e = sym (from ∙ rw (text_found m.names n t text, e) refl)

  pub one_class : (old : List ExcClass) (k : ExcClass) → class_named t ≡ Some k → (old ++ k ∷ []) ++ classes_from m l (i + 1) ≡ old ++ classes_from m l i
  one_class old k e =
      let here : classes_from m l i ≡ k ∷ classes_from m l (i + 1) = from ∙ rw (text_found m.names n t text, e) refl in
      append_assoc old (k ∷ []) (classes_from m l (i + 1)) ∙ ap (λ (v : List ExcClass). old ++ v) (sym here)

pub no_class_left : (m : State) (l : NamesId) (i : ℕ) (old : List ExcClass) → length (names_at m l) ≤ i → old ≡ old ++ classes_from m l i
no_class_left m l i old le = sym (append-nil old) ∙ ap (λ (v : List NameId). old ++ classes_named m v) (sym (drop_all (names_at m l) i le))
