use Rattle.std.proofs.Common.{◌∙◌}
use Rattle.std.proofs.lemmas.Result.{IfOk-weaker}
use Rattle.first_tree.specs.BoundsOf.{bounds_of}
use Rattle.first_verdicts.specs.Meaning.{verdict_in}
use Rattle.first_verdicts.proofs.Joinings.{verdict_from}
use Rattle.first_verdicts.proofs.verdicts.verdict_of.Goals as goal

pub returns : goal.returns
returns c =
    IfOk-weaker c.search.result _ _
    (λ v is. verdict_from c.args.trees.now.nodes c.args.function.now c.args.condition (bounds_of c.args.bounds.now) c.deref.result.now c.len.result c.new-arguments.result.items (verdict_in v) (c.deref.ensures.value ∙ c.in_ok-domain.ensures) (c.len.ensures ∙ c.args.function.now.parameters.ok.0) c.new-arguments.ensures.items is)
    c.search.ensures.verdict
