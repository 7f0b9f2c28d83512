use Rattle.std.proofs.Common.{length, ◌≤◌, ◌<◌}
use Rattle.std.proofs.lemmas.Option.{slice_get-get_or}
use Rattle.spec_uses.specs.ModuleUses.{uses_in_line}
use Rattle.py_tree.specs.Arena.{module_tree}
use Rattle.contract_lines.specs.Given.{line_in}
use Rattle.told_refusals.proofs.Telling.{flat_map_map, told_all, told_more}
use Rattle.py_profile.proofs.Owned.{no_line}
use Rattle.py_profile.proofs.uses.told_of_lines.Goals as goal

pub loop-i-preserved : goal.loop-i-preserved
loop-i-preserved c =
    let m = c.args.module.now in
    let line = uses_in_line (module_tree m).body in
    let lt : c.loop-i.i < length c.args.contracts.now = rw (← c.lines-i-end.ensures) c.loop-i-test.true in (
      (c.in_ok-told.ensures {u = tt}).scope,
      (c.in_ok-told.ensures {u = tt}).entered,
      told_more (λ l. line (line_in m l)) c.args.contracts.now c.args.told c.loop-i.told c.loop-i.i c.loop-i.invariant.2 _ no_line lt ((c.in_ok-told.ensures {u = tt}).told _ (slice_get-get_or c.args.contracts.now c.loop-i.i no_line lt)),
    )

pub returns : goal.returns
returns c =
    let m = c.args.module.now in
    let line = uses_in_line (module_tree m).body in
    let le : length c.args.contracts.now ≤ c.loop-i.i = rw (← c.lines-i-end.ensures) c.loop-i-test.false in
    rw (← flat_map_map line (line_in m) c.args.contracts.now) (told_all (λ l. line (line_in m l)) c.args.contracts.now c.args.told c.loop-i.told c.loop-i.i c.loop-i.invariant.2 le)
