use Rattle.std.proofs.Common.{◌||◌, ap, sym, ◌∙◌}
use Rattle.spec_verdicts.specs.Report.{is_error}
use Rattle.first_verdicts.specs.Meaning.{verdict_in}
use Rattle.crosshair.proofs.Texts.{written}
use Rattle.crosshair.proofs.lines.verdict_line.Goals as goal

pub returns-in-NotConfirmed : goal.returns-in-NotConfirmed
returns-in-NotConfirmed c =
    let all = written c.args.report_all (verdict_in c.args.verdict.now) (ap (λ v. is_error (verdict_in v)) c.in-NotConfirmed.is)
    (ap (λ b. c.args.report_all || b) (sym c.is_error.ensures) ∙ c.if-not-is_written.false) in
    rw (c.in-NotConfirmed.is, all) c.limit_line.ensures
