use Rattle.std.proofs.Common.{◌≡◌, sym, ap, ◌∙◌, to_z, of_z, rules}
use mir.Syntax.{w128}
use Rattle.spec_running.specs.declared.Value.TheVariants.{Int}
use Rattle.spec_running.specs.declared.Outcome.TheVariants.{Returned}
use Rattle.spec_running.specs.Running.{read}
use Rattle.first_verdicts.specs.Evaluates.{passed}
use Rattle.first_verdicts.proofs.Lookups.{argument_read, returned_read, unset_read}
use Rattle.first_verdicts.proofs.evaluator.read.Goals as goal

pub returns-in-Some : goal.returns-in-Some
returns-in-Some c =
    let same : to_z w128 (of_z w128 c.from.result) ≡ c.in-Some.argument = search rules in
    ap (λ z. Returned (Int z)) same ∙ sym (ap read (argument_read (passed c.args.locals.now.parameters.now c.args.locals.now.arguments.now) c.args.locals.now.returned _ _ (sym c.in-Some.ensures)))

pub returns-in-Some-returned : goal.returns-in-Some-returned
returns-in-Some-returned c =
    rw c.in-Some-returned.is (sym (ap read (returned_read (passed c.args.locals.now.parameters.now c.args.locals.now.arguments.now) _ _ (sym c.in_default.ensures) (sym c.eq.ensures ∙ c.if-eq.true))))

pub returns-in_default-returned : goal.returns-in_default-returned
returns-in_default-returned c =
    rw c.in-Some-returned.is (sym (ap read (unset_read (passed c.args.locals.now.parameters.now c.args.locals.now.arguments.now) _ _ (sym c.in_default.ensures) (sym c.eq.ensures ∙ c.if-eq.false))))
