-- The defaults of parameters, one after the other.
use Rattle.std.proofs.Common.{◌≡◌, ℕ, zero, suc, ◌+◌, ◌<◌, Bool, true, false, ◌&&◌, ◌||◌, List, [], ◌∷◌, ◌++◌, length, drop, drop-cons, get_or, Option, Some, None, refl, sym, ap, arith, ◌∙◌}
use Rattle.std.specs.Prelude.{not}
use Rattle.std.specs.Option.{is_some}
use Rattle.std.proofs.lemmas.Grind.{common_steps}
use Rattle.std.proofs.lemmas.List.{append_assoc}
use Rattle.spec_trees.specs.Stmt.{Parameter}
use Rattle.spec_names.specs.declared.Refusal.{Refusal}
use Rattle.spec_names.specs.Parameters.{all_default_refusals, are_misordered, default_refusals}
use Rattle.py_tree.specs.declared.ids.ExprId.{ExprId}
use Rattle.py_tree.specs.declared.stmts.ParameterNode.{ParameterNode}
use Rattle.py_tree.specs.Arena.{State}
use Rattle.py_tree.specs.Exprs.{IsBoundBelow}
use Rattle.py_tree.specs.Stmts.{AreParametersThere, optional_expr, parameters_tree}
use Rattle.told_refusals.specs.Telling.{Tells}
use Rattle.told_refusals.proofs.Telling.{tells_then}

-- a parameter, and those behind it
pub parameters_from : (ps : List ParameterNode) (i : ℕ) (d : ParameterNode) → i < length ps → drop i ps ≡ get_or ps i d ∷ drop (i + 1) ps
parameters_from ps i d lt = grind (arith, common_steps, drop-cons)

pub default_below : (m : State) (ps : List ParameterNode) (i : ℕ) (d : ParameterNode) → AreParametersThere m ps → i < length ps → IsBoundBelow (length m.exprs) (get_or ps i d).default
default_below m [] i d h lt = absurd (omega arith)
default_below m (p ∷ ps) zero d h lt = h.2
default_below m (p ∷ ps) (suc i) d h lt = default_below m ps i d h.3 (omega arith)

-- ---- defaults that are no constants

-- what the defaults before the place i add is told
pub record DefaultsTo (m : State) (ps : List ParameterNode) (old new : Option Refusal) (i : ℕ) : Type 0 where
  pub so_far : List Refusal
  pub told : Tells old new so_far
  pub rest : all_default_refusals (parameters_tree m ps) ≡ so_far ++ all_default_refusals (parameters_tree m (drop i ps))

module _ (m : State) (ps : List ParameterNode) (old : Option Refusal) where
  module _ (now : Option Refusal) (i : ℕ) (h : DefaultsTo m ps old now i) where
    pub defaults_more : (new : Option Refusal) (d : ParameterNode) → i < length ps → Tells now new (default_refusals (optional_expr m (get_or ps i d).default)) → DefaultsTo m ps old new (i + 1)
    defaults_more new d lt told =
        let here : List Refusal = default_refusals (optional_expr m (get_or ps i d).default) in
        record {
          so_far = h.so_far ++ here;
          told = tells_then old now new h.so_far here h.told told;
          rest = h.rest ∙ ap (λ (v : List ParameterNode). h.so_far ++ all_default_refusals (parameters_tree m v)) (parameters_from ps i d lt) ∙ sym (append_assoc h.so_far here (all_default_refusals (parameters_tree m (drop (i + 1) ps))));
        }

-- ---- parameters that are out of order

-- whether one is out of order, where the one before them has a default
abbrev pub misordered_behind : Bool → List Parameter → Bool
misordered_behind b [] = false
misordered_behind b (p ∷ ps) = (b && not (is_some p.default)) || misordered_behind (is_some p.default) ps

behind_one : (p : Parameter) (ps : List Parameter) → are_misordered (p ∷ ps) ≡ misordered_behind (is_some p.default) ps
behind_one p [] = refl
behind_one p (q ∷ ps) = ap (λ (b : Bool). (is_some p.default && not (is_some q.default)) || b) (behind_one q ps)

pub behind_none : (ps : List Parameter) → are_misordered ps ≡ misordered_behind false ps
behind_none [] = refl
behind_none (p ∷ ps) = behind_one p ps

pub has_default : (m : State) (o : Option ExprId) → is_some (optional_expr m o) ≡ is_some o
has_default m None = refl
has_default m (Some e) = refl

module _ (m : State) (ps : List ParameterNode) (i : ℕ) (d : ParameterNode) (b : Bool) (lt : i < length ps) (h : are_misordered (parameters_tree m ps) ≡ misordered_behind b (parameters_tree m (drop i ps))) where
  here : are_misordered (parameters_tree m ps) ≡ ((b && not (is_some (get_or ps i d).default)) || misordered_behind (is_some (get_or ps i d).default) (parameters_tree m (drop (i + 1) ps)))
  here = h ∙ ap (λ (v : List ParameterNode). misordered_behind b (parameters_tree m v)) (parameters_from ps i d lt)
      ∙ ap (λ (t : Bool). (b && not t) || misordered_behind t (parameters_tree m (drop (i + 1) ps))) (has_default m (get_or ps i d).default)

  pub none_misordered : (b && not (is_some (get_or ps i d).default)) ≡ false → are_misordered (parameters_tree m ps) ≡ misordered_behind (is_some (get_or ps i d).default) (parameters_tree m (drop (i + 1) ps))
  none_misordered not_here = here ∙ ap (λ (t : Bool). t || misordered_behind (is_some (get_or ps i d).default) (parameters_tree m (drop (i + 1) ps))) not_here

pub not_both : (a : Bool) (o : Option ExprId) → is_some o ≡ true → (a && not (is_some o)) ≡ false
not_both true None e = absurd cc
not_both true (Some x) e = refl
not_both false o e = refl

pub not_first : (a : Bool) (o : Option ExprId) → a ≡ false → (a && not (is_some o)) ≡ false
not_first true o e = absurd cc
not_first false o e = refl
