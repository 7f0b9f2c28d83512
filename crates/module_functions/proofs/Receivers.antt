-- Parameters that begin with `self`.
use Rattle.std.proofs.Common.{◌≡◌, ℕ, zero, ◌≤◌, List, [], ◌∷◌, codes, length, get_or, slice_get, Some, None, sym, ap, arith}
use Rattle.std.proofs.lemmas.Option.{get_or_from_slice_get}
use Rattle.std.specs.Str.{bytes_eq}
use Rattle.spec_names.specs.Headers.{is_self_first}
use Rattle.py_tree.specs.declared.stmts.ParameterNode.{ParameterNode}
use Rattle.py_tree.specs.Arena.{State}
use Rattle.py_tree.specs.Stmts.{parameters_tree}

-- the default of reads, which is never seen
abbrev pub no_parameter : ParameterNode
no_parameter = record { name = record { index = 0 }; annotation = None; default = None }

pub first_is : (m : State) (ps : List ParameterNode) (d : ParameterNode) (t : List ℕ) → 1 ≤ length ps → slice_get m.names (get_or ps zero d).name.index ≡ Some t → bytes_eq t (codes "self") ≡ is_self_first (parameters_tree m ps)
first_is m [] d t le e = absurd (omega arith)
first_is m (p ∷ ps) d t le e = ap (λ (v : List ℕ). bytes_eq v (codes "self")) (sym (get_or_from_slice_get m.names p.name.index t [] e))
