-- Names that are among those of parameters.
use Rattle.std.proofs.Common.{◌≡◌, ◌<◌, ℕ, ◌+◌, Bool, true, false, ◌||◌, List, [], ◌∷◌, ◌++◌, length, map, drop, drop-cons, get_or, slice_get, Option, Some, None, refl, sym, ap, subst, arith, ◌∙◌, if◌then◌else◌}
use Rattle.std.proofs.lemmas.Grind.{common_steps}
use Rattle.std.proofs.lemmas.List.{map-append}
use Rattle.std.proofs.lemmas.Option.{get_or_from_slice_get}
use Rattle.std.proofs.lemmas.Slice.Eq.{bytes_eq-Decides}
use Rattle.std.specs.Global.{Global}
use Rattle.std.specs.List.{list_all, list_any}
use Rattle.std.specs.Prelude.{String, string_bytes}
use Rattle.std.specs.Str.{bytes_eq}
use Rattle.spec_contracts.specs.ContractLines.{brackets_known, is_among}
use Rattle.py_tree.specs.declared.stmts.ParameterNode.{ParameterNode}
use Rattle.py_tree.specs.Arena.{State}
use Rattle.py_tree.specs.Stmts.{AreParametersThere}
use Rattle.contract_owners.specs.Members.{names_in}
use Rattle.contract_lines.specs.Given.{HaveSame}

all_same : (f g : List ℕ → Bool) (xs : List (List ℕ)) → ((x : List ℕ) → f x ≡ g x) → list_all f xs ≡ list_all g xs
all_same f g [] h = refl
all_same f g (x ∷ xs) h = rw (h x, all_same f g xs h) refl

-- sets of the same names know the same brackets
pub known_same : (set names : List (List ℕ)) (o : Option (List (List ℕ))) → HaveSame set names → brackets_known names o ≡ brackets_known set o
known_same set names None h = refl
known_same set names (Some xs) h = all_same (is_among names) (is_among set) xs (λ x. sym (h x))

-- ---- sets of texts

any_map : (f : List ℕ → Bool) (ks : List (String Global)) → list_any f (map string_bytes ks) ≡ list_any (λ k. f (string_bytes k)) ks
any_map f [] = refl
any_map f (k ∷ ks) = rw (any_map f ks) refl

pub among_keys : (ks : List (String Global)) (x : List ℕ) → is_among (map string_bytes ks) x ≡ list_any (λ k. bytes_eq x (string_bytes k)) ks
among_keys ks x = any_map (bytes_eq x) ks

any_push : (f : List ℕ → Bool) (xs : List (List ℕ)) (y : List ℕ) → list_any f (xs ++ y ∷ []) ≡ (list_any f xs || f y)
any_push f [] y = by_test (f y)
  where
    by_test : (b : Bool) → (b || false) ≡ (false || b)
    by_test true = refl
    by_test false = refl
any_push f (x ∷ xs) y = by_test (f x) (any_push f xs y)
  where
    by_test : (b : Bool) → list_any f (xs ++ y ∷ []) ≡ (list_any f xs || f y) → (b || list_any f (xs ++ y ∷ [])) ≡ ((b || list_any f xs) || f y)
    by_test true h = refl
    by_test false h = h

-- what is among texts stays so where it is added once more
any_there : (xs : List (List ℕ)) (x y : List ℕ) → is_among xs y ≡ true → is_among xs x ≡ (is_among xs x || bytes_eq x y)
any_there xs x y h = by_test (bytes_eq x y) refl (is_among xs x) refl
  where
    by_test : (b : Bool) → bytes_eq x y ≡ b → (a : Bool) → is_among xs x ≡ a → a ≡ (a || b)
    by_test b e true f = refl
    by_test false e false f = refl
    by_test true e false f = let same : x ≡ y = (bytes_eq-Decides x y).0 e in sym f ∙ ap (is_among xs) same ∙ h

pub among_insert : (ks : List (String Global)) (v : String Global) (b : Bool) (x : List ℕ) → list_any (λ k. bytes_eq (string_bytes v) (string_bytes k)) ks ≡ b
    → is_among (map string_bytes (if b then ks else ks ++ v ∷ [])) x ≡ (is_among (map string_bytes ks) x || bytes_eq x (string_bytes v))
among_insert ks v true x e = any_there (map string_bytes ks) x (string_bytes v) (among_keys ks (string_bytes v) ∙ e)
among_insert ks v false x e = ap (λ (l : List (List ℕ)). is_among l x) (map-append string_bytes ks (v ∷ [])) ∙ any_push (bytes_eq x) (map string_bytes ks) (string_bytes v)

-- ---- parameters that are among a set, one after the other

pub drop_from : (ps : List ParameterNode) (i : ℕ) (d : ParameterNode) → i < length ps → drop i ps ≡ get_or ps i d ∷ drop (i + 1) ps
drop_from ps i d lt = grind (arith, common_steps, drop-cons)

module _ (m : State) (ps : List ParameterNode) (i : ℕ) (set new want : List (List ℕ)) (p : ParameterNode) (t : List ℕ) (at : drop i ps ≡ p ∷ drop (i + 1) ps) (text : slice_get m.names p.name.index ≡ Some t) (more : (x : List ℕ) → is_among new x ≡ (is_among set x || bytes_eq x t)) where
  pub parameter_more : AreParametersThere m (drop i ps) × ((x : List ℕ) → (is_among set x || is_among (names_in m.names (drop i ps)) x) ≡ is_among want x)
      → AreParametersThere m (drop (i + 1) ps) × ((x : List ℕ) → (is_among new x || is_among (names_in m.names (drop (i + 1) ps)) x) ≡ is_among want x)
  parameter_more h =
      let there : AreParametersThere m (p ∷ drop (i + 1) ps) = subst (AreParametersThere m) at h.0 in
      (there.3, λ x. rw (more x) (or_assoc (is_among set x) (bytes_eq x t) (is_among (names_in m.names (drop (i + 1) ps)) x)) ∙ ap (λ (v : List ℕ). is_among set x || (bytes_eq x v || is_among (names_in m.names (drop (i + 1) ps)) x)) (sym (get_or_from_slice_get m.names p.name.index t [] text)) ∙ ap (λ (v : List ParameterNode). is_among set x || is_among (names_in m.names v) x) (sym at) ∙ h.1 x)
    where
      or_assoc : (a b c : Bool) → ((a || b) || c) ≡ (a || (b || c))
      or_assoc true b c = refl
      or_assoc false b c = refl
