use Rattle.std.proofs.Common.{◌≡◌, map, take}
use Rattle.py_tree.specs.declared.stmts.ParameterNode.{ParameterNode}
use Rattle.signatures.proofs.writing.annotations.Given as goal

abbrev pub invariant-loop-parameter : goal.invariant-loop-parameter
invariant-loop-parameter l = l.annotations.items ≡ map (λ (p : ParameterNode). p.annotation) (take l.parameter-index l.parameters)
