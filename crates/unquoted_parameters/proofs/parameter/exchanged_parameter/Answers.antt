use Rattle.unquoted_parameters.proofs.Kept.{param_exchanged}
use Rattle.unquoted_parameters.proofs.parameter.exchanged_parameter.Goals as goal

pub returns-clause-exchanged : goal.returns-clause-exchanged
returns-clause-exchanged c =
    param_exchanged c.args.module.now c.exchanged_type.new.module c.exchanged_type.ensures.grown c.types_count.ensures.«module» c.args.parameter c.in_ok-annotation.annotation c.requires c.in_ok-annotation.ensures.exchanged
