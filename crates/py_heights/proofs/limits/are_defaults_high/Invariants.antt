use Rattle.std.proofs.Common.{◌≡◌, drop}
use Rattle.std.specs.Prelude.{nat_lt}
use Rattle.spec_grammar.specs.Height.{MAX_HEIGHT, parameters_height}
use Rattle.py_tree.specs.Stmts.{parameters_tree, AreParametersThere}
use Rattle.py_heights.proofs.limits.are_defaults_high.Given as goal

-- What is left is there, and tells the answer.
abbrev pub invariant-loop-parameter : goal.invariant-loop-parameter
invariant-loop-parameter l = record {
  there : AreParametersThere l.module (drop l.parameter-index l.parameters);
  rest : nat_lt MAX_HEIGHT (parameters_height (parameters_tree l.module (drop l.parameter-index l.parameters)))
      ≡ nat_lt MAX_HEIGHT (parameters_height (parameters_tree l.module l.parameters));
}
