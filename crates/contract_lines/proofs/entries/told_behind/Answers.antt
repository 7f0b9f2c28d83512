use Rattle.std.proofs.Common.{◌++◌, Bool, not, subst}
use Rattle.spec_contracts.specs.declared.ContractFault.TheVariants.{BadExpression, UnknownName, Misplaced}
use Rattle.spec_contracts.specs.ContractLines.{refused_if}
use Rattle.contract_lines.specs.Given.{TellsMore}
use Rattle.contract_lines.proofs.Steps.{three_told}
use Rattle.contract_lines.proofs.entries.told_behind.Goals as goal

pub returns : goal.returns
returns c =
    let h = c.args.head in
    let line = c.args.entry.now.line in
    subst (λ (b : Bool). TellsMore c.args.told c.told_if.result (refused_if c.args.is_unread line BadExpression ++ refused_if (not b) h.line UnknownName ++ refused_if h.is_misplaced h.line Misplaced)) c.is_known-is_known.ensures
    (three_told c.args.told c.told_if-told.result c.told_if-told-2.result c.told_if.result (refused_if c.args.is_unread line BadExpression) (refused_if (not c.is_known-is_known.result) h.line UnknownName) (refused_if h.is_misplaced h.line Misplaced) c.told_if-told.ensures c.told_if-told-2.ensures c.told_if.ensures)
