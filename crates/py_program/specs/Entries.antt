-- What entries stand for in a module, and that what they name is there.
use Rattle.std.specs.Prelude.{◌<◌, ℕ, List, length, map, Option, Some, None}
use Rattle.std.specs.List.{All}
use Rattle.std.specs.Option.{option_map}
use Rattle.spec_trees.specs.Expr.{Expr}
use Rattle.spec_trees.specs.Stmt.{Parameter}
use Rattle.spec_uses.specs.Functions.{FunctionOf}
use Rattle.spec_programs.specs.Program as program
use Rattle.spec_programs.specs.Program.{Param, Function, Class}
use Rattle.contract_owners.specs.declared.listing.FnId.{FnId}
use Rattle.contract_owners.specs.declared.listing.ClassId.{ClassId}
use Rattle.py_tree.specs.declared.ids.ExprId.{ExprId}
use Rattle.py_tree.specs.declared.ids.NamesId.{NamesId}
use Rattle.py_tree.specs.declared.stmts.ParameterNode.{ParameterNode}
use Rattle.py_tree.specs.Arena.{State, shown, shown_stmt}
use Rattle.py_tree.specs.Names.{text_of}
use Rattle.py_tree.specs.Exprs.{AreItemsBelow, IsBoundBelow}
use Rattle.py_tree.specs.Types.{IsTypeBelow}
use Rattle.py_tree.specs.Stmts.{AreParametersThere, AreStmtsBelow, block_tree, parameters_tree, texts_of}
use Rattle.py_program.specs.declared.entries.Condition.{Condition}
use Rattle.py_program.specs.declared.entries.Condition.TheVariants as condition
use Rattle.py_program.specs.declared.entries.FnEntry.{FnEntry}
use Rattle.py_program.specs.declared.entries.ClassEntry.{ClassEntry}

-- ---- what they stand for

abbrev pub param : Parameter → Param
param p = record { name = p.name; type = p.annotation; default = p.default }

module _ (m : State) where
  abbrev pub exprs_in : List ExprId → List Expr
  exprs_in es = map (λ (e : ExprId). shown m e.index) es

  abbrev pub condition_in : Condition → program.Condition
  condition_in (condition.Raises l) = program.Raises l
  condition_in (condition.Post l e names) = program.Post l (shown m e.index) (option_map (texts_of m) names)
  condition_in (condition.Invariant l e) = program.Invariant l (shown m e.index)

  abbrev pub function_in : FnEntry → Function
  function_in e = record {
    name = text_of m.names e.name;
    line = e.def_line;
    class = option_map (λ (c : ClassId). c.index) e.class;
    is_checked = e.checked;
    parameters = map param (parameters_tree m e.parameters.items);
    preconditions = exprs_in e.preconditions.items;
    permitted = e.raises.items;
    conditions = map condition_in e.conditions.items;
    body = block_tree (shown_stmt m) e.body.items;
  }

  abbrev pub class_in : ClassEntry → Class
  class_in e = record {
    name = text_of m.names e.name;
    line = e.first;
    constructor = option_map (λ (f : FnId). f.index) e.constructor;
    invariants = exprs_in e.invariants.items;
  }

  -- the `def` of a function
  abbrev pub defined_in : FnEntry → FunctionOf
  defined_in e = record {
    line = e.def_line;
    name = text_of m.names e.name;
    parameters = parameters_tree m e.parameters.items;
    body = block_tree (shown_stmt m) e.body.items;
    class = option_map (λ (c : ClassId). c.index) e.class;
  }

-- ---- what is there

module _ (m : State) where
  pub record IsParameterThere (p : ParameterNode) : Type 0 where
    pub name : p.name.index < length m.names
    pub annotation : IsTypeBelow (length m.types) p.annotation
    pub default : IsBoundBelow (length m.exprs) p.default

  abbrev pub IsListThere : Option NamesId → Type 0
  IsListThere None = Unit {0}
  IsListThere (Some l) = l.index < length m.lists

  abbrev pub IsConditionThere : Condition → Type 0
  IsConditionThere (condition.Raises l) = Unit {0}
  IsConditionThere (condition.Post l e names) = (e.index < length m.exprs) × IsListThere names
  IsConditionThere (condition.Invariant l e) = e.index < length m.exprs

  -- its names, nodes and lists are there; its class may be still to come
  pub record IsFunctionThere (e : FnEntry) : Type 0 where
    pub name : e.name.index < length m.names
    pub parameters : AreParametersThere m e.parameters.items
    pub preconditions : AreItemsBelow (length m.exprs) e.preconditions.items
    pub conditions : All IsConditionThere e.conditions.items
    pub body : AreStmtsBelow (length m.stmts) e.body.items

  -- and so for a class, whose constructor may be still to come
  pub record IsClassThere (e : ClassEntry) : Type 0 where
    pub name : e.name.index < length m.names
    pub invariants : AreItemsBelow (length m.exprs) e.invariants.items
