use Rattle.first_promises.specs.Scopes.{parameter_names}
use Rattle.first_promises.proofs.Gathered.{line_there, no_line, read_all, read_error, read_more}
use Rattle.first_promises.proofs.promises.read_promises.Goals as goal
use Rattle.first_tree.proofs.Arenas.{extends_then}
use Rattle.std.proofs.Common.{◌∙◌}

pub promise_of-requires-clause-line : goal.promise_of-requires-clause-line
promise_of-requires-clause-line c = line_there c.args.module.now c.args.lines.now c.loop-line.line-index no_line c.requires.lines c.loop-line-test.true

pub returns-in-Err-clause-promises : goal.returns-in-Err-clause-promises
returns-in-Err-clause-promises c = rw c.error_of.ensures
    (read_error c.args.module.now (parameter_names c.args.module.now c.args.parameters.now) c.args.lines.now c.loop-line.into.nodes c.loop-line.promises c.loop-line.line-index c.loop-line.invariant.read no_line c.loop-line-test.true c.promise_of.new.into.nodes c.in-Err.unformed c.in-Err.ensures.promise)

pub loop-line-preserved : goal.loop-line-preserved
loop-line-preserved c = record {
  grown = extends_then _ _ _ c.loop-line.invariant.grown c.promise_of.ensures.grown;
  functions = c.promise_of.ensures.functions ∙ c.loop-line.invariant.functions;
  read = read_more c.args.module.now (parameter_names c.args.module.now c.args.parameters.now) c.args.lines.now c.loop-line.into.nodes c.loop-line.promises c.loop-line.line-index c.loop-line.invariant.read no_line c.loop-line-test.true c.promise_of.new.into.nodes c.in-Ok.promise c.add_promise.new.promises c.in-Ok.ensures.grown c.in-Ok.ensures.promise c.in_ok-add_promise.ensures;
}

pub returns-clause-promises : goal.returns-clause-promises
returns-clause-promises c = read_all c.args.module.now (parameter_names c.args.module.now c.args.parameters.now) c.args.lines.now c.loop-line.into.nodes c.loop-line.promises c.loop-line.line-index c.loop-line.invariant.read c.loop-line-test.false
