use Rattle.std.proofs.Common.{◌∙◌, Option, sym, ap}
use Rattle.spec_contracts.specs.declared.Refusal.{Refusal}
use Rattle.spec_contracts.proofs.Laws.{first_with_last, with_last}
use Rattle.contract_lines.proofs.refusals.told_if.Goals as goal

pub returns-then-is_refused : goal.returns-then-is_refused
returns-then-is_refused c = λ rs e. rw c.if-is_refused.true (c.sooner.ensures ∙ ap (λ (o : Option Refusal). with_last o (record { line = c.args.line; fault = c.args.fault })) e ∙ sym (first_with_last rs (record { line = c.args.line; fault = c.args.fault })))
