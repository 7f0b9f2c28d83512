use Rattle.first_tree.specs.BoundsOf.{bounds_of}
use Rattle.crosshair.proofs.Texts.{fails_more, text_more}
use Rattle.crosshair.proofs.report.add_program.Goals as goal

pub loop-i-preserved : goal.loop-i-preserved
loop-i-preserved c = record {
  text = text_more c.args.settings.now.report_all c.args.name.now (bounds_of c.args.settings.now.bounds) c.args.trees.now.nodes c.args.trees.now.functions c.loop-i.i c.function.result.now c.args.text.now c.loop-i.text _ c.function.ensures.function c.loop-i.invariant.text c.in_ok-fails.ensures.text;
  fails = fails_more (bounds_of c.args.settings.now.bounds) c.args.trees.now.nodes c.args.trees.now.functions c.loop-i.i c.function.result.now c.loop-i.fails c.in_ok-fails.field-0 c.function.ensures.function c.loop-i.invariant.fails c.in_ok-fails.ensures.fails;
}
