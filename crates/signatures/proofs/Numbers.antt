-- The classes of the functions of a module are classes of it.
use Rattle.std.proofs.Common.{◌≡◌, ℕ, suc, ◌+◌, ◌<◌, List, [], ◌∷◌, length, map, Some, None, subst, sym, arith}
use Rattle.std.specs.List.{All}
use Rattle.std.proofs.lemmas.List.Elements.{All-append, All-tail}
use Rattle.spec_trees.specs.Module as tree
use Rattle.spec_trees.specs.Module.{Block, no_statement, statement}
use Rattle.spec_types.specs.Classes.{classes}
use Rattle.spec_uses.specs.Functions.{FunctionOf, all_functions, class_functions, functions_behind}
use Rattle.py_tree.specs.Arena.{State}
use Rattle.given_types.specs.Giving.{IsClassBelow}
use Rattle.module_functions.specs.declared.function.Function.{Function}
use Rattle.module_functions.specs.Listed.{function_in}
use Rattle.signatures.proofs.Parameters.{All-cons, class_of}

abbrev AreBelow : ℕ → List FunctionOf → Type 0
AreBelow n fs = All (λ (f : FunctionOf). IsClassBelow n f.class) fs

none_below : (n : ℕ) → AreBelow n []
none_below n = λ k d lt. absurd (omega arith)

one_below : (n : ℕ) (f : FunctionOf) (fs : List FunctionOf) → IsClassBelow n f.class → AreBelow n fs → AreBelow n (f ∷ fs)
one_below n f fs p h = All-cons (λ (g : FunctionOf). IsClassBelow n g.class) f fs p h

methods_below : (n k : ℕ) (b : Block) → k < n → AreBelow n (class_functions k b)
methods_below n k no_statement lt = none_below n
methods_below n k (statement (tree.def l x ps r b) c) lt = one_below n (record { line = l; name = x; parameters = ps; body = b; class = Some k }) (class_functions k c) lt (methods_below n k c lt)
methods_below n k (statement s c) lt = methods_below n k c lt

functions_below : (n k : ℕ) (b : Block) → n ≡ k + length (classes b) → AreBelow n (functions_behind k b)
functions_below n k no_statement e = none_below n
functions_below n k (statement (tree.def l x ps r b) c) e = one_below n (record { line = l; name = x; parameters = ps; body = b; class = None }) (functions_behind k c) tt (functions_below n k c e)
functions_below n k (statement (tree.class l x b) c) e = All-append (λ (f : FunctionOf). IsClassBelow n f.class) (class_functions k b) (functions_behind (suc k) c) (methods_below n k b (omega (arith, e))) (functions_below n (suc k) c (omega (arith, e)))
functions_below n k (statement s c) e = functions_below n k c e

-- the same of what tells the functions of a module
pub classes_below : (m : State) (b : Block) (fs : List Function) → map (function_in m) fs ≡ all_functions b → All (λ (f : Function). IsClassBelow (length (classes b)) f.class) fs
classes_below m b fs e = unmapped fs (subst (AreBelow (length (classes b))) (sym e) (functions_below (length (classes b)) 0 b (omega arith)))
  where
    unmapped : (fs : List Function) → AreBelow (length (classes b)) (map (function_in m) fs) → All (λ (f : Function). IsClassBelow (length (classes b)) f.class) fs
    unmapped [] h = λ k d lt. absurd (omega arith)
    unmapped (f ∷ fs) h = All-cons (λ (g : Function). IsClassBelow (length (classes b)) g.class) f fs
        (subst (IsClassBelow (length (classes b))) (class_of m f) (h 0 (function_in m f) (omega arith)))
        (unmapped fs (All-tail (λ (g : FunctionOf). IsClassBelow (length (classes b)) g.class) (function_in m f) (map (function_in m) fs) h))
