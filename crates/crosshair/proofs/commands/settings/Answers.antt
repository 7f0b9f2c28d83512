use Rattle.std.proofs.Common.{ap, sym, ◌∙◌, arith}
use Rattle.std.proofs.lemmas.Result.{IfOk-weaker}
use Rattle.std.specs.Option.{option_copied}
use Rattle.crosshair.proofs.CommandWords.{settings_unlike, settings_two, settings_three, settings_other}
use Rattle.crosshair.proofs.commands.settings.Goals as goal

pub returns-then-not-begins_with_check : goal.returns-then-not-begins_with_check
returns-then-not-begins_with_check c = settings_unlike c.args.words.now (sym c.if-not-begins_with_check.true ∙ c.begins_with_check.ensures)

pub returns-in-2 : goal.returns-in-2
returns-in-2 c = IfOk-weaker c.check_of.result _ _ (λ o is. is ∙ settings_two c.args.words.now _ (sym c.if-not-begins_with_check.false ∙ c.begins_with_check.ensures) (sym c.len.ensures ∙ c.in-2.is)
    (sym c.get.ensures ∙ ap option_copied c.unwrap.ensures)) c.check_of.ensures

pub returns-in-3 : goal.returns-in-3
returns-in-3 c = IfOk-weaker c.check_of_two.result _ _ (λ o is. is ∙ settings_three c.args.words.now _ _ (sym c.if-not-begins_with_check.false ∙ c.begins_with_check.ensures) (sym c.len.ensures ∙ c.in-3.is)
    (sym c.get-in-3.ensures ∙ ap option_copied c.unwrap-in-3.ensures) (sym c.get-in-3-2.ensures ∙ ap option_copied c.unwrap-in-3-2.ensures)) c.check_of_two.ensures

pub returns-in_default : goal.returns-in_default
returns-in_default c = settings_other c.args.words.now (λ e. omega (arith, e)) (λ e. omega (arith, e))
