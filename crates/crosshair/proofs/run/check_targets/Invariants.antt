use Rattle.std.proofs.Common.{◌≡◌, ◌≤◌, drop, IfSome}
use Rattle.spec_verdicts.specs.Report.{targets_total}
use Rattle.first_tree.specs.BoundsOf.{bounds_of}
use Rattle.crosshair.proofs.Laws.{Going}
use Rattle.crosshair.proofs.run.check_targets.Given as goal

abbrev pub invariant-loop-i : goal.invariant-loop-i
invariant-loop-i g l = record {
  going : IfSome (g.F.Files.contents l.initial.files) (λ contents.
      Going (targets_total l.settings.report_all (bounds_of l.settings.bounds) l.settings.targets contents (g.F.Files.left l.initial.files)) (targets_total l.settings.report_all (bounds_of l.settings.bounds) (drop l.i l.settings.targets) contents (g.F.Files.left l.files))
      (g.O.Sink.bytes l.initial.out) (g.O.Sink.bytes l.out) (g.E.Sink.bytes l.initial.err) (g.E.Sink.bytes l.err) l.worst);
  contents : g.F.Files.contents l.files ≡ g.F.Files.contents l.initial.files;
  small : l.worst ≤ 2;
  files_later : g.F.Files.faults l.initial.files ≤ g.F.Files.faults l.files;
  out_later : g.O.Sink.faults l.initial.out ≤ g.O.Sink.faults l.out;
  err_later : g.E.Sink.faults l.initial.err ≤ g.E.Sink.faults l.err;
}
