use Rattle.std.proofs.Common.{◌∙◌, arith}
use Rattle.spec_types.specs.Needs.{named_by}
use Rattle.given_types.specs.Giving.{signature_in}
use Rattle.type_needs.proofs.Walking.{found_all}
use Rattle.type_needs.proofs.class_graph.seeds.Goals as goal

pub returns : goal.returns
returns c = c.loop-signature.invariant ∙ found_all named_by (signature_in c.args.module.now) c.args.signatures.now c.loop-signature.signature-index (omega (arith, c.loop-signature-test.false))
