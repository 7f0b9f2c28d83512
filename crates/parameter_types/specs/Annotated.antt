-- The annotations of a module, as they are read.
use Rattle.std.specs.Prelude.{◌≡◌, List, map, Option}
use Rattle.spec_trees.specs.Module.{Block}
use Rattle.spec_types.specs.Classes.{ClassOf, classes, constructor_of}
use Rattle.spec_types.specs.Signatures.{typed}
use Rattle.spec_uses.specs.Functions.{FunctionOf, all_functions}
use Rattle.py_tree.specs.Arena.{State}
use Rattle.read_annotations.specs.Reading.{AreListsThere, Read, shown_lists}
use Rattle.signatures.specs.Written.{annotations}
use Rattle.parameter_types.specs.declared.annotated.Annotated.{Annotated}

-- the annotations of the parameters of all functions
abbrev pub of_functions : Block → List (List (Option Read))
of_functions b = map (λ (f : FunctionOf). annotations (typed f)) (all_functions b)

-- the annotations of what the constructors of all classes take
abbrev pub of_constructors : Block → List (List (Option Read))
of_constructors b = map (λ (c : ClassOf). annotations (constructor_of c.body)) (classes b)

-- these are the annotations of a module with these statements
pub record IsAnnotated (m : State) (b : Block) (a : Annotated) : Type 0 where
  pub functions : shown_lists m a.functions.items ≡ of_functions b
  pub constructors : shown_lists m a.constructors.items ≡ of_constructors b
  pub functions_there : AreListsThere m a.functions.items
  pub constructors_there : AreListsThere m a.constructors.items
