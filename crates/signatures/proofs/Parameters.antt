-- Annotations as they are written.
use Rattle.std.proofs.Common.{◌≡◌, ℕ, zero, suc, ◌<◌, List, [], ◌∷◌, length, map, get_or, Option, Some, None, refl, ap, arith}
use Rattle.std.specs.List.{All}
use Rattle.spec_trees.specs.Module as tree
use Rattle.spec_trees.specs.Module.{Statement}
use Rattle.spec_types.specs.Classes.{behind_self}
use Rattle.spec_types.specs.Signatures.{typed}
use Rattle.spec_uses.specs.Functions.{FunctionOf}
use Rattle.py_tree.specs.declared.ids.TypeId.{TypeId}
use Rattle.py_tree.specs.declared.stmts.ParameterNode.{ParameterNode}
use Rattle.py_tree.specs.Arena.{State, shown_stmt, shown_type}
use Rattle.py_tree.specs.Stmts.{AreParametersThere, parameters_tree}
use Rattle.py_tree.specs.Types.{IsTypeBelow, optional_type}
use Rattle.module_classes.specs.declared.class.Class.{Class}
use Rattle.module_classes.specs.Sorted as sorted
use Rattle.module_functions.specs.declared.function.Function.{Function}
use Rattle.module_functions.specs.Listed.{AreThere, IsThere, function_in, function_of}
use Rattle.read_annotations.specs.Reading.{AreWritten, Read, read, written}
use Rattle.signatures.specs.Written.{annotations}

-- one thing before others
pub All-cons : {X : Type 0} (P : X → Type 0) (x : X) (xs : List X) → P x → All P xs → All P (x ∷ xs)
All-cons {X = X} P x xs p h = λ k d lt. by_place k d lt
  where
    by_place : (k : ℕ) (d : X) → k < length (x ∷ xs) → P (get_or (x ∷ xs) k d)
    by_place zero d lt = p
    by_place (suc k) d lt = h k d (omega (arith, lt))

abbrev pub annotated : List ParameterNode → List (Option TypeId)
annotated ps = map (λ (p : ParameterNode). p.annotation) ps

module _ (m : State) where
  pub written_are : (ps : List ParameterNode) → written m (annotated ps) ≡ annotations (parameters_tree m ps)
  written_are [] = refl
  written_are (p ∷ ps) = ap (λ (v : List (Option Read)). read (optional_type (shown_type m) p.annotation) ∷ v) (written_are ps)

  pub are_written : (ps : List ParameterNode) → AreParametersThere m ps → AreWritten m (annotated ps)
  are_written [] h = λ k d lt. absurd (omega arith)
  are_written (p ∷ ps) h = All-cons (IsTypeBelow (length m.types)) p.annotation (annotated ps) h.1 (are_written ps h.3)

-- ---- the class of a function

class_kept : (c : Option ℕ) (s : Statement) → (function_of c s).class ≡ c
class_kept c (tree.def n x ps r b) = refl
class_kept c s = refl

pub class_of : (m : State) (f : Function) → (function_in m f).class ≡ f.class
class_of m f = class_kept f.class (shown_stmt m f.statement.index)

pub typed_alone : (g : FunctionOf) → g.class ≡ None → typed g ≡ g.parameters
typed_alone g e = rw e refl

pub typed_bound : (g : FunctionOf) (k : ℕ) → g.class ≡ Some k → typed g ≡ behind_self g.parameters
typed_bound g k e = rw e refl

-- ---- one of several

pub function_there : (m : State) (fs : List Function) (i : ℕ) (d : Function) → AreThere m fs → i < length fs → IsThere m (get_or fs i d)
function_there m [] i d h lt = absurd (omega arith)
function_there m (f ∷ fs) zero d h lt = h.0
function_there m (f ∷ fs) (suc i) d h lt = function_there m fs i d h.1 (omega arith)

pub class_there : (m : State) (cs : List Class) (i : ℕ) (d : Class) → sorted.AreThere m cs → i < length cs → sorted.IsThere m (get_or cs i d)
class_there m [] i d h lt = absurd (omega arith)
class_there m (c ∷ cs) zero d h lt = h.0
class_there m (c ∷ cs) (suc i) d h lt = class_there m cs i d h.1 (omega arith)
