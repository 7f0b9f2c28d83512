use Rattle.std.proofs.Common.{arith, get_or, refl}
use Rattle.local_names.proofs.Adding.{added_all, added_more, added_none, adds_one}
use Rattle.name_scopes.proofs.Entering.{names_by, names_in, no_parameter, parameter_below, parameters_step}
use Rattle.name_scopes.proofs.parameters.add_parameters.Goals as goal

pub loop-parameter-init : goal.loop-parameter-init
loop-parameter-init c = added_none (names_in c.args.module.now) (names_by c.args.module.now) c.args.module.now.names c.args.parameters.now c.args.names.now c.requires.size

pub insert-requires : goal.insert-requires
insert-requires c = rw c.loop-parameter.invariant.adds.size (parameter_below c.args.module.now c.args.parameters.now c.loop-parameter.parameter-index no_parameter c.requires.parameters c.loop-parameter-test.true)

pub loop-parameter-preserved : goal.loop-parameter-preserved
loop-parameter-preserved c =
    let m = c.args.module.now in
    let there = parameter_below m c.args.parameters.now c.loop-parameter.parameter-index no_parameter c.requires.parameters c.loop-parameter-test.true in
    added_more (names_in m) (names_by m) m.names c.args.parameters.now c.args.names.now c.loop-parameter.names c.loop-parameter.parameter-index c.loop-parameter.invariant
    (parameters_step m) c.insert.new.self no_parameter c.loop-parameter-test.true
    (rw c.insert.ensures (adds_one m.names c.loop-parameter.names (get_or c.args.parameters.now c.loop-parameter.parameter-index no_parameter).name c.names_count.ensures.«module».distinct there c.loop-parameter.invariant.adds.size))

pub returns : goal.returns
returns c =
    let m = c.args.module.now in
    added_all (names_in m) (names_by m) m.names c.args.parameters.now c.args.names.now c.loop-parameter.names c.loop-parameter.parameter-index c.loop-parameter.invariant refl (omega (arith, c.loop-parameter-test.false))
