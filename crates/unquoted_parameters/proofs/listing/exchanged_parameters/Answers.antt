use Rattle.std.proofs.Common.{◌∙◌, ap, arith, sym}
use Rattle.spec_programs.specs.Programs.{param_of}
use Rattle.unquoted_parameters.specs.Parameters.{IsParameterThere, as_param, parameter_tree}
use Rattle.unquoted_parameters.proofs.Kept.{param_kept, parameter_kept}
use Rattle.unquoted_parameters.proofs.Lists.{all_there, each_param, parameter_there}
use Rattle.read_annotations.proofs.Turns.{made_all, made_more}
use Rattle.unquoted_parameters.proofs.listing.exchanged_parameters.Goals as goal

pub exchanged_parameter-requires : goal.exchanged_parameter-requires
exchanged_parameter-requires c =
    let there = parameter_there c.args.module.now c.args.parameters.now c.loop-parameter.parameter-index _ c.requires c.loop-parameter-test.true in
    (parameter_kept c.args.module.now c.loop-parameter.module c.loop-parameter.invariant.grown c.types_count.ensures.«module» _ there).0

pub loop-parameter-preserved : goal.loop-parameter-preserved
loop-parameter-preserved c =
    let first = c.args.module.now in
    let now = c.loop-parameter.module in
    let here = c.loop-parameter.invariant in
    let there = parameter_there first c.args.parameters.now c.loop-parameter.parameter-index _ c.requires c.loop-parameter-test.true in
    let kept = parameter_kept first now here.grown c.types_count.ensures.«module» _ there in
    made_more (λ p. param_of (parameter_tree first p)) (λ m p. as_param (parameter_tree m p)) IsParameterThere param_kept c.args.parameters.now first now c.loop-parameter.made.items c.loop-parameter.parameter-index here
    c.exchanged_parameter.new.module c.in_ok-next.next c.push.new.self.items _ c.loop-parameter-test.true c.exchanged_parameter.ensures.grown c.in_ok-next.ensures.there (c.in_ok-next.ensures.exchanged ∙ ap param_of kept.1) c.in_ok-push.ensures.items

pub returns-clause-there : goal.returns-clause-there
returns-clause-there c = all_there c.loop-parameter.module c.loop-parameter.made.items c.loop-parameter.invariant.there

pub returns-clause-exchanged : goal.returns-clause-exchanged
returns-clause-exchanged c =
    let first = c.args.module.now in
    let now = c.loop-parameter.module in
    each_param now as_param c.loop-parameter.made.items
    ∙ made_all (λ p. param_of (parameter_tree first p)) (λ m p. as_param (parameter_tree m p)) IsParameterThere param_kept c.args.parameters.now first now c.loop-parameter.made.items c.loop-parameter.parameter-index c.loop-parameter.invariant (omega (arith, c.loop-parameter-test.false))
    ∙ sym (each_param first param_of c.args.parameters.now)
