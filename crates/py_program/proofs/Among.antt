-- Whether a name is among those that several things have, one after the other.
use Rattle.std.proofs.Common.{◌≡◌, ℕ, ◌+◌, ◌<◌, ◌≤◌, Bool, true, false, ◌||◌, List, [], ◌∷◌, ◌++◌, length, drop, get_or, refl, sym, ap, ◌∙◌}
use Rattle.std.proofs.lemmas.List.Folds.{list_any-append}
use Rattle.std.specs.Str.{bytes_eq}
use Rattle.spec_contracts.specs.ContractLines.{is_among}
use Rattle.spec_names.specs.Names.{names_of}
use Rattle.py_tree.specs.declared.stmts.ParameterNode.{ParameterNode}
use Rattle.py_tree.specs.Arena.{State}
use Rattle.py_tree.specs.Names.{text_of}
use Rattle.py_tree.specs.Stmts.{parameters_tree}
use Rattle.py_program.proofs.Named.{drop_from, drop_all}

pub among_both : (x : List ℕ) (xs ys : List (List ℕ)) → is_among (xs ++ ys) x ≡ (is_among xs x || is_among ys x)
among_both x xs ys = list_any-append (bytes_eq x) xs ys

module _ {X : Type 0} (names_in : List X → List (List ℕ)) (names_by : X → List (List ℕ)) (x : List ℕ) (xs : List X) where
  -- the name is none of those before the place i
  abbrev pub AmongFrom : ℕ → Type 0
  AmongFrom i = is_among (names_in (drop i xs)) x ≡ is_among (names_in xs) x

  module _ (step : (y : X) (ys : List X) → names_in (y ∷ ys) ≡ names_by y ++ names_in ys) (i : ℕ) (h : AmongFrom i) where
    here_or_behind : (d : X) → i < length xs → is_among (names_in (drop i xs)) x ≡ (is_among (names_by (get_or xs i d)) x || is_among (names_in (drop (i + 1) xs)) x)
    here_or_behind d lt =
        ap (λ (ys : List X). is_among (names_in ys) x) (drop_from xs i d lt)
        ∙ ap (λ (ns : List (List ℕ)). is_among ns x) (step (get_or xs i d) (drop (i + 1) xs))
        ∙ among_both x (names_by (get_or xs i d)) (names_in (drop (i + 1) xs))

    pub among_here : (d : X) → i < length xs → true ≡ is_among (names_by (get_or xs i d)) x → true ≡ is_among (names_in xs) x
    among_here d lt e = ap (λ (b : Bool). b || is_among (names_in (drop (i + 1) xs)) x) e ∙ sym (here_or_behind d lt) ∙ h

    pub among_behind : (d : X) → i < length xs → false ≡ is_among (names_by (get_or xs i d)) x → AmongFrom (i + 1)
    among_behind d lt e = ap (λ (b : Bool). b || is_among (names_in (drop (i + 1) xs)) x) e ∙ sym (here_or_behind d lt) ∙ h

  pub among_none : (i : ℕ) → names_in [] ≡ [] → AmongFrom i → length xs ≤ i → false ≡ is_among (names_in xs) x
  among_none i none h le = sym (ap (λ (ns : List (List ℕ)). is_among ns x) (ap names_in (drop_all xs i le) ∙ none)) ∙ h

module _ (m : State) where
  abbrev pub names_in_parameters : List ParameterNode → List (List ℕ)
  names_in_parameters ps = names_of (parameters_tree m ps)

  abbrev pub names_by_parameter : ParameterNode → List (List ℕ)
  names_by_parameter p = text_of m.names p.name ∷ []

  pub parameters_step : (p : ParameterNode) (ps : List ParameterNode) → names_in_parameters (p ∷ ps) ≡ names_by_parameter p ++ names_in_parameters ps
  parameters_step p ps = refl

-- the only name
pub among_one : (x y : List ℕ) (b : Bool) → b ≡ bytes_eq x y → b ≡ is_among (y ∷ []) x
among_one x y b e = e ∙ by_test (bytes_eq x y)
  where
    by_test : (b : Bool) → b ≡ (b || false)
    by_test true = refl
    by_test false = refl
