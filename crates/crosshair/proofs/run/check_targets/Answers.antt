use Rattle.std.proofs.Common.{◌≡◌, arith, ap, ◌∙◌, sym, Some}
use Rattle.std.specs.Prelude.{slice_get}
use Rattle.std.specs.Option.{option_copied}
use Rattle.first_tree.specs.BoundsOf.{bounds_of}
use Rattle.crosshair.proofs.Laws.{ends_passed, some_three, step_on, step_stop}
use Rattle.crosshair.proofs.run.check_targets.Goals as goal

pub returns-in_err-status-clause-ends : goal.returns-in_err-status-clause-ends
returns-in_err-status-clause-ends g c =
    let item : slice_get c.args.settings.now.targets c.loop-i.i ≡ Some c.unwrap-name.result.now = sym c.get.ensures ∙ ap option_copied c.unwrap-name.ensures in
    some_three _ _ _ _ _ _ c.loop-i.invariant.contents c.loop-i.invariant.going c.in_err-status.ensures.ends c.in_err-status.ensures.read (λ contents going ends told.
    ends_passed _ _ _ _ _ _ _ _ _ c.from_residual.ensures.1 (step_stop _ c.args.settings.now.report_all (bounds_of c.args.settings.now.bounds) contents (g.F.Files.left c.loop-i.files) c.args.settings.now.targets c.loop-i.i _ _ _ _ _ _ _ _ _ _ _ _ item going c.loop-i.invariant.small c.loop-i.invariant.err_later ends told))

pub loop-i-preserved : goal.loop-i-preserved
loop-i-preserved g c =
    let item : slice_get c.args.settings.now.targets c.loop-i.i ≡ Some c.unwrap-name.result.now = sym c.get.ensures ∙ ap option_copied c.unwrap-name.ensures in
    record {
      going = rw c.max-worst.ensures (some_three _ _ _ _ _ _ c.loop-i.invariant.contents c.loop-i.invariant.going c.in_ok-status.ensures.ends c.in_ok-status.ensures.read (λ contents going done told.
          step_on _ c.args.settings.now.report_all (bounds_of c.args.settings.now.bounds) contents (g.F.Files.left c.loop-i.files) _ c.args.settings.now.targets c.loop-i.i _ _ _ _ _ _ _ _ _ item going done told c.in_ok-status.ensures.left));
      contents = c.in_ok-status.ensures.contents ∙ c.loop-i.invariant.contents;
      small = omega (arith, c.in_ok-status.ensures.status);
      files_later = omega (arith, c.in_ok-status.ensures.cause.files_later);
      out_later = omega (arith, c.in_ok-status.ensures.cause.out_later);
      err_later = omega (arith, c.in_ok-status.ensures.cause.err_later);
    }
