-- Parameters and functions while a module grows: what is not exchanged stays as it is.
use Rattle.std.proofs.Common.{◌≡◌, ◌∙◌, ◌<◌, ◌≤◌, length, map, Option, Some, None, refl, ap, arith}
use Rattle.std.specs.Global.{Vec}
use Rattle.spec_trees.specs.Stmt.{TypeExpr}
use Rattle.spec_uses.specs.Meanings.{otherwise}
use Rattle.spec_types.specs.Quotes.{unquoted}
use Rattle.spec_programs.specs.Programs.{exchanged_type, param_of}
use Rattle.py_tree.specs.declared.ids.TypeId.{TypeId}
use Rattle.py_tree.specs.declared.stmts.ParameterNode.{ParameterNode}
use Rattle.py_tree.specs.Arena.{State, IsModule, shown_type}
use Rattle.py_tree.specs.Stmts.{AreParametersThere, parameters_tree}
use Rattle.py_tree.specs.Types.{IsTypeBelow, optional_type}
use Rattle.py_tree.proofs.Arenas.{exprs_grow, names_grow, shown_type_kept, stmts_grow, text_kept}
use Rattle.py_tree.proofs.Nodes.{bound_more}
use Rattle.py_tree.proofs.Statements.{shown_stmt_kept}
use Rattle.py_tree.proofs.StmtNodes.{optional_expr_kept, parameters_kept, parameters_there}
use Rattle.py_types.specs.Given.{Grows}
use Rattle.module_functions.specs.declared.function.Function.{Function}
use Rattle.module_functions.specs.Listed.{IsThere, function_in, function_of}
use Rattle.read_annotations.proofs.Turns.{type_kept}
use Rattle.unquoted_parameters.specs.Parameters.{IsParameterThere, as_param, parameter_tree}

module _ (m n : State) (g : Grows m n) (v : IsModule m) where
  pub parameter_kept : (x : ParameterNode) → IsParameterThere m x → IsParameterThere n x × (parameter_tree n x ≡ parameter_tree m x)
  parameter_kept x h =
      let names : length m.names ≤ length n.names = names_grow m n g.extends in
      let type = type_kept m n g v x.annotation h.1 in
      let default = bound_more (length m.exprs) (length n.exprs) (exprs_grow m n g.extends) x.default h.2 in
      ((omega (arith, h.0, names), type.0, default), rw (text_kept m n x.name.index g.extends h.0, type.1, optional_expr_kept m n g.extends v x.default h.2) refl)

  pub param_kept : (x : ParameterNode) → IsParameterThere m x → IsParameterThere n x × (as_param (parameter_tree n x) ≡ as_param (parameter_tree m x))
  param_kept x h = let k = parameter_kept x h in (k.0, ap as_param k.1)

  pub params_kept : (x : Vec ParameterNode) → AreParametersThere m x.items → AreParametersThere n x.items × (map as_param (parameters_tree n x.items) ≡ map as_param (parameters_tree m x.items))
  params_kept x h = (parameters_there m n g.extends x.items h, ap (map as_param) (parameters_kept m n g.extends v x.items h))

  pub function_kept : (f : Function) → IsThere m f → IsThere n f × (function_in n f ≡ function_in m f)
  function_kept f h =
      let more : length m.stmts ≤ length n.stmts = stmts_grow m n g.extends in
      (omega (arith, h, more), ap (function_of f.class) (shown_stmt_kept m n f.statement.index g.extends v h))

  -- an annotation with a string that holds no type
  pub as_written : (a : Option TypeId) (t : TypeId) → IsTypeBelow (length m.types) a → a ≡ Some t → None ≡ unquoted (shown_type m t.index) → Some (shown_type n t.index) ≡ exchanged_type (optional_type (shown_type m) a)
  as_written a t h e none =
      let there : t.index < length m.types = rw e at h in
      rw e (ap Some (shown_type_kept m n t.index g.extends v there ∙ ap (λ (u : Option TypeExpr). otherwise u (shown_type m t.index)) none))

  -- a parameter with another annotation
  pub param_exchanged : (x : ParameterNode) (o : Option TypeId) → IsParameterThere m x → optional_type (shown_type n) o ≡ exchanged_type (optional_type (shown_type m) x.annotation) → as_param (parameter_tree n (record { name = x.name; annotation = o; default = x.default })) ≡ param_of (parameter_tree m x)
  param_exchanged x o h e = rw (text_kept m n x.name.index g.extends h.0, e, optional_expr_kept m n g.extends v x.default h.2) refl
