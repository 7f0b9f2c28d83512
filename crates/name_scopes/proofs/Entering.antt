-- The scope of a body or of a contract line, from the names of the function that was entered.
use Rattle.std.proofs.Common.{◌≡◌, ℕ, zero, suc, ◌<◌, Bool, true, false, ◌&&◌, ◌||◌, not, List, [], ◌∷◌, ◌++◌, length, replicate, get_or, Option, Some, None, refl, sym, ap, arith, ◌∙◌, if◌then◌else◌}
use Rattle.std.proofs.Math.Bool.{and-false, and-true, or-false}
use Rattle.std.proofs.lemmas.List.{get_or-map, get_or-replicate}
use Rattle.std.proofs.lemmas.Slice.Eq.{bytes_eq-Decides}
use Rattle.std.specs.Str.{bytes_eq}
use Rattle.spec_contracts.specs.declared.LineKind.{LineKind}
use Rattle.spec_contracts.specs.declared.LineKind.TheVariants.{Pre, Post, Raises, Invariant}
use Rattle.spec_contracts.specs.ContractLines.{is_among}
use Rattle.spec_names.specs.Defined.{onto}
use Rattle.spec_names.specs.Names.{is_self, names_of}
use Rattle.spec_uses.specs.declared.Meaning.{Meaning}
use Rattle.spec_uses.specs.declared.Meaning.TheVariants.{Local, Unknown}
use Rattle.spec_uses.specs.Meanings.{meaning_in, module_scope, with_locals}
use Rattle.spec_uses.specs.ContractScopes.{before_body, scope_of, without_self}
use Rattle.py_tree.specs.declared.ids.NameId.{NameId}
use Rattle.py_tree.specs.declared.stmts.ParameterNode.{ParameterNode}
use Rattle.py_tree.specs.Arena.{State, module_tree}
use Rattle.py_tree.specs.Names.{text_of}
use Rattle.py_tree.specs.Stmts.{AreParametersThere, parameters_tree}
use Rattle.name_sets.specs.Marks.{marks_of}
use Rattle.name_sets.proofs.Marks.{mark_at, marks_none}
use Rattle.local_names.specs.Adding.{Adds}
use Rattle.name_scopes.specs.Showing.{Held, HasParameters, IsScopeOf, Shows, around, has_before, is_post, is_seen_in, meaning_held, old_held}
use Rattle.name_scopes.proofs.Repeating.{among_onto}

-- ---- the names of parameters

-- the default of reads, which is never seen
abbrev pub no_parameter : ParameterNode
no_parameter = record { name = record { index = 0 }; annotation = None; default = None }

pub parameter_below : (m : State) (ps : List ParameterNode) (i : ℕ) (d : ParameterNode) → AreParametersThere m ps → i < length ps → (get_or ps i d).name.index < length m.names
parameter_below m [] i d h lt = absurd (omega arith)
parameter_below m (p ∷ ps) zero d h lt = h.0
parameter_below m (p ∷ ps) (suc i) d h lt = parameter_below m ps i d h.3 (omega arith)

module _ (m : State) where
  abbrev pub names_in : List ParameterNode → List (List ℕ)
  names_in ps = names_of (parameters_tree m ps)

  abbrev pub names_by : ParameterNode → List (List ℕ)
  names_by p = text_of m.names p.name ∷ []

  pub parameters_step : (p : ParameterNode) (ps : List ParameterNode) → names_in (p ∷ ps) ≡ names_by p ++ names_in ps
  parameters_step p ps = refl

-- A set that was cleared, and to which these names were added, has them.
pub has_added : (names : List (List ℕ)) (old cleared : List Bool) (new : Held) (is_made : Bool) (xs : List (List ℕ)) → length old ≡ length names → cleared ≡ replicate (length old) false → Adds names cleared new.own xs
    → new.is_constructor ≡ is_made → HasParameters names new is_made xs
has_added names old cleared new is_made xs size e adds made =
    let set : new.own ≡ marks_of (onto [] xs) names = adds.set [] (e ∙ ap (λ (n : ℕ). replicate n false) size ∙ marks_none names) in
    record {
      own = λ n lt. ap (λ (v : List Bool). get_or v n.index false) set ∙ mark_at (onto [] xs) names n.index false lt ∙ among_onto [] xs (text_of names n);
      made = made;
    }

-- ---- the names that are seen before the body

among_without_self : (xs : List (List ℕ)) (x : List ℕ) → is_among (without_self xs) x ≡ (is_among xs x && not (is_self x))
among_without_self [] x = refl
among_without_self (y ∷ ys) x = by_tests (is_self y) (bytes_eq x y) refl refl (among_without_self ys x)
  where
    by_tests : (b c : Bool) → is_self y ≡ b → bytes_eq x y ≡ c → is_among (without_self ys) x ≡ (is_among ys x && not (is_self x))
        → is_among (if b then without_self ys else y ∷ without_self ys) x ≡ ((c || is_among ys x) && not (is_self x))
    by_tests true true is e rest = rest ∙ rw (ap is_self ((bytes_eq-Decides x y).0 e) ∙ is) (and-false (is_among ys x))
    by_tests true false is e rest = rest
    by_tests false true is e rest = rw (e, ap is_self ((bytes_eq-Decides x y).0 e) ∙ is) refl
    by_tests false false is e rest = rw e rest

among_before : (is_made : Bool) (xs : List (List ℕ)) (x : List ℕ) → is_among (before_body is_made xs) x ≡ (is_among xs x && has_before is_made x)
among_before true xs x = among_without_self xs x
among_before false xs x = sym (and-true (is_among xs x))

-- ---- the scope

module _ (m : State) (h : Held) (is_made : Bool) (xs : List (List ℕ)) (scope : IsScopeOf m h) (has : HasParameters m.names h is_made xs) where
  abbrev outer : List ℕ → Meaning
  outer = meaning_in (module_tree m).body

  shown_at : (kind : Option LineKind) (n : NameId) → n.index < length m.names
      → meaning_held m.names (record h { kind = kind }) n
      ≡ (if is_among xs (text_of m.names n) && is_seen_in kind is_made (text_of m.names n) then Local else around kind (outer (text_of m.names n)) (text_of m.names n))
  shown_at kind n lt =
      let found : get_or h.meanings n.index Unknown ≡ outer (text_of m.names n) = ap (λ (v : List Meaning). get_or v n.index Unknown) scope.meanings ∙ get_or-map outer m.names n.index [] Unknown lt in
      let no_variable : get_or h.inner n.index false ≡ false = ap (λ (v : List Bool). get_or v n.index false) scope.inner ∙ get_or-replicate (length m.names) n.index false false lt in
      rw (no_variable, has.own n lt, has.made, found) refl

  old_at : (kind : Option LineKind) (n : NameId) → n.index < length m.names → old_held m.names (record h { kind = kind }) n ≡ (is_post kind && is_among xs (text_of m.names n) && has_before is_made (text_of m.names n))
  old_at kind n lt = rw (has.own n lt, has.made) refl

  -- a body has all names of the function
  pub shows_body : Shows m.names (record h { kind = None }) (with_locals xs (module_scope (module_tree m).body))
  shows_body = record {
    meanings = λ n lt. shown_at None n lt ∙ ap (λ (b : Bool). if b then Local else outer (text_of m.names n)) (and-true (is_among xs (text_of m.names n)));
    olds = old_at None;
  }

  -- a contract line has those that its kind sees
  pub shows_line : (kind : LineKind) → Shows m.names (record h { kind = Some kind }) (scope_of kind is_made xs (module_scope (module_tree m).body))
  shows_line kind = record {
    meanings = λ n lt. shown_at (Some kind) n lt ∙ meaning_is kind (text_of m.names n);
    olds = λ n lt. old_at (Some kind) n lt ∙ old_is kind (text_of m.names n);
  }
    where
      meaning_is : (k : LineKind) (x : List ℕ) → (if is_among xs x && is_seen_in (Some k) is_made x then Local else around (Some k) (outer x) x) ≡ (scope_of k is_made xs (module_scope (module_tree m).body)).meaning x
      meaning_is Pre x = ap (λ (b : Bool). if b then Local else outer x) (sym (among_before is_made xs x))
      meaning_is Post x = ap (λ (b : Bool). if b then Local else around (Some Post) (outer x) x) (and-true (is_among xs x))
      meaning_is Raises x = ap (λ (b : Bool). if b then Local else outer x) (and-false (is_among xs x))
      meaning_is Invariant x =
          ap (λ (b : Bool). if b then Local else around (Some Invariant) (outer x) x) (and-false (is_among xs x))
          ∙ ap (λ (b : Bool). if b then Local else outer x) (sym (or-false (is_self x)))

      old_is : (k : LineKind) (x : List ℕ) → (is_post (Some k) && is_among xs x && has_before is_made x) ≡ is_among (scope_of k is_made xs (module_scope (module_tree m).body)).olds x
      old_is Pre x = refl
      old_is Post x = sym (among_before is_made xs x)
      old_is Raises x = refl
      old_is Invariant x = refl

pub scope_back : (m : State) (a b : Held) → a ≡ b → IsScopeOf m b → IsScopeOf m a
scope_back m a b e s = rw e s
