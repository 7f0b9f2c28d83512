use Rattle.std.proofs.Common.{◌≡◌, ◌++◌, ap, arith, sym, ◌∙◌}
use Rattle.std.specs.List.{slice_get}
use Rattle.std.proofs.lemmas.List.{take_all}
use Rattle.std.proofs.lemmas.Option.{slice_get-get_or}
use Rattle.first_tree.specs.BoundsOf.{bounds_of}
use Rattle.crosshair.proofs.Texts.{fails_is, first_added, first_fails, function_is, post_added, post_fails, text_so_far, fails_so_far}
use Rattle.crosshair.proofs.report.add_function.Goals as goal

pub loop-post-init : goal.loop-post-init
loop-post-init c = record {
  text = first_added c.args.settings.now.report_all c.args.name.now (bounds_of c.args.settings.now.bounds) c.args.trees.now.nodes c.args.function.now c.args.text.now _ c.in_ok-fails.ensures.text;
  fails = first_fails (bounds_of c.args.settings.now.bounds) c.args.trees.now.nodes c.args.function.now _ c.in_ok-fails.ensures.fails;
}

pub loop-post-preserved : goal.loop-post-preserved
loop-post-preserved c = record {
  text = post_added c.args.settings.now.report_all c.args.name.now (bounds_of c.args.settings.now.bounds) c.args.trees.now.nodes c.args.function.now c.loop-post.post-index _ c.args.text.now _ _ (ap (λ ps. slice_get ps c.loop-post.post-index) (sym c.deref-post-items.ensures.value) ∙ slice_get-get_or c.deref-post-items.result.now c.loop-post.post-index (record { line = 0; expr = record { index = 0 } }) c.loop-post-test.true) c.loop-post.invariant.text c.in_ok-fails-2.ensures.text;
  fails = post_fails (bounds_of c.args.settings.now.bounds) c.args.trees.now.nodes c.args.function.now c.loop-post.post-index _ _ _ (ap (λ ps. slice_get ps c.loop-post.post-index) (sym c.deref-post-items.ensures.value) ∙ slice_get-get_or c.deref-post-items.result.now c.loop-post.post-index (record { line = 0; expr = record { index = 0 } }) c.loop-post-test.true) c.loop-post.invariant.fails c.in_ok-fails-2.ensures.fails;
}

pub returns-clause-text : goal.returns-clause-text
returns-clause-text c = c.loop-post.invariant.text
    ∙ ap (λ ps. c.args.text.now ++ text_so_far c.args.settings.now.report_all c.args.name.now (bounds_of c.args.settings.now.bounds) c.args.trees.now.nodes c.args.function.now ps) (take_all c.loop-post.post-index c.args.function.now.posts.items (omega (arith, c.loop-post-test.false, c.deref-post-items.ensures.len)))
    ∙ ap (λ x. c.args.text.now ++ x) (function_is c.args.settings.now.report_all c.args.name.now (bounds_of c.args.settings.now.bounds) c.args.trees.now.nodes c.args.function.now)

pub returns-clause-fails : goal.returns-clause-fails
returns-clause-fails c = c.loop-post.invariant.fails
    ∙ ap (λ ps. fails_so_far (bounds_of c.args.settings.now.bounds) c.args.trees.now.nodes c.args.function.now ps) (take_all c.loop-post.post-index c.args.function.now.posts.items (omega (arith, c.loop-post-test.false, c.deref-post-items.ensures.len)))
    ∙ fails_is (bounds_of c.args.settings.now.bounds) c.args.trees.now.nodes c.args.function.now
