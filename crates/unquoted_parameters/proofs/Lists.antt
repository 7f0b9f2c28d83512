-- Lists of parameters and of functions, and each of their items.
use Rattle.std.proofs.Common.{◌≡◌, ℕ, zero, suc, ◌<◌, List, [], ◌∷◌, length, map, get_or, refl, ap, arith}
use Rattle.std.specs.List.{All}
use Rattle.spec_trees.specs.Stmt.{Parameter}
use Rattle.spec_programs.specs.Program.{Param}
use Rattle.py_tree.specs.declared.stmts.ParameterNode.{ParameterNode}
use Rattle.py_tree.specs.Arena.{State}
use Rattle.py_tree.specs.Stmts.{AreParametersThere, parameters_tree}
use Rattle.module_functions.specs.declared.function.Function.{Function}
use Rattle.module_functions.specs.Listed.{AreThere, IsThere}
use Rattle.unquoted_parameters.specs.Parameters.{IsParameterThere, parameter_tree}

module _ (m : State) where
  pub each_param : (g : Parameter → Param) (ps : List ParameterNode) → map g (parameters_tree m ps) ≡ map (λ (p : ParameterNode). g (parameter_tree m p)) ps
  each_param g [] = refl
  each_param g (p ∷ ps) = ap (λ (qs : List Param). g (parameter_tree m p) ∷ qs) (each_param g ps)

  pub all_there : (ps : List ParameterNode) → All (IsParameterThere m) ps → AreParametersThere m ps
  all_there [] h = tt
  all_there (p ∷ ps) h = let here = h 0 p (omega arith) in (here.0, here.1, here.2, all_there ps (λ k d lt. h (suc k) d (omega arith)))

  pub parameter_there : (ps : List ParameterNode) (i : ℕ) (d : ParameterNode) → AreParametersThere m ps → i < length ps → IsParameterThere m (get_or ps i d)
  parameter_there [] i d h lt = absurd (omega arith)
  parameter_there (p ∷ ps) zero d h lt = (h.0, h.1, h.2)
  parameter_there (p ∷ ps) (suc i) d h lt = parameter_there ps i d h.3 (omega arith)

  pub function_there : (fs : List Function) (i : ℕ) (d : Function) → AreThere m fs → i < length fs → IsThere m (get_or fs i d)
  function_there [] i d h lt = absurd (omega arith)
  function_there (f ∷ fs) zero d h lt = h.0
  function_there (f ∷ fs) (suc i) d h lt = function_there fs i d h.1 (omega arith)
