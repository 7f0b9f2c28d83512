use Rattle.std.proofs.Common.{◌≡◌}
use Rattle.first_tree.specs.Arena.{Extends}
use Rattle.first_promises.specs.Scopes.{parameter_names}
use Rattle.first_promises.proofs.Gathered.{AreReadTo}
use Rattle.first_promises.proofs.promises.read_promises.Given as goal

abbrev pub invariant-loop-line : goal.invariant-loop-line
invariant-loop-line l = record {
  grown : Extends l.fn.into.nodes l.into.nodes;
  functions : l.into.functions ≡ l.fn.into.functions;
  read : AreReadTo l.module (parameter_names l.module l.parameters) l.lines l.into.nodes l.promises l.line-index;
}
