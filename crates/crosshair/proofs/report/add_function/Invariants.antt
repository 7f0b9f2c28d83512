use Rattle.std.proofs.Common.{◌≡◌, ◌++◌, take}
use Rattle.first_tree.specs.BoundsOf.{bounds_of}
use Rattle.crosshair.proofs.Texts.{fails_so_far, text_so_far}
use Rattle.crosshair.proofs.report.add_function.Given as goal

abbrev pub invariant-loop-post : goal.invariant-loop-post
invariant-loop-post l = record {
  text : l.text ≡ l.fn.text ++ text_so_far l.settings.report_all l.name (bounds_of l.settings.bounds) l.trees.nodes l.function (take l.post-index l.function.posts.items);
  fails : l.fails ≡ fails_so_far (bounds_of l.settings.bounds) l.trees.nodes l.function (take l.post-index l.function.posts.items);
}
