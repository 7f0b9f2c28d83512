use Rattle.unquoted_parameters.proofs.Kept.{as_written}
use Rattle.unquoted_parameters.proofs.parameter.exchanged_type.Goals as goal

pub returns-in-None-2-clause-exchanged : goal.returns-in-None-2-clause-exchanged
returns-in-None-2-clause-exchanged c =
    as_written c.args.module.now c.unquoted.new.module c.unquoted.ensures.grown c.types_count.ensures.«module» c.args.annotation c.in-Some.t c.requires c.in-Some.is (rw c.in-None-2.is at c.in_ok-without-in-Some.ensures.unquoted)
