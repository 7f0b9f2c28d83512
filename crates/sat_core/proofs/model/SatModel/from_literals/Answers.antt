use Rattle.std.proofs.Common.{◌+◌, false, List, get_or, take, subst}
use Rattle.std.proofs.lemmas.List.{take_more, take_all}
use Rattle.refutation_check.specs.declared.lit.SatLit.{SatLit}
use Rattle.sat_core.proofs.TrueLiterals.{PicksTrue, picked_next, picked_not, picked_value}
use Rattle.sat_core.proofs.model.SatModel.from_literals.Goals as goal

pub loop-l-preserved-then-not-l : goal.loop-l-preserved-then-not-l
loop-l-preserved-then-not-l c = picked_not c.loop-l.vars.items (take c.loop-l.l-index c.args.lits.now) (take (c.loop-l.l-index + 1) c.args.lits.now) (get_or c.args.lits.now c.loop-l.l-index (record { var = 0; positive = false })) (take_more c.args.lits.now c.loop-l.l-index (record { var = 0; positive = false }) c.loop-l-test.true) c.if-not-l.true c.loop-l.invariant

pub loop-l-preserved : goal.loop-l-preserved
loop-l-preserved c = picked_next c.loop-l.vars.items c.push.new.self.items (take c.loop-l.l-index c.args.lits.now) (take (c.loop-l.l-index + 1) c.args.lits.now) (get_or c.args.lits.now c.loop-l.l-index (record { var = 0; positive = false })) c.in_ok-push.ensures.items (take_more c.args.lits.now c.loop-l.l-index (record { var = 0; positive = false }) c.loop-l-test.true) c.if-not-l.false c.loop-l.invariant

pub returns : goal.returns
returns c =
    let P : List SatLit → Type 0 = λ v. PicksTrue c.loop-l.vars.items v in
    picked_value c.new.result c.loop-l.vars.items c.args.lits.now c.new.ensures (subst P (take_all c.loop-l.l-index c.args.lits.now c.loop-l-test.false) c.loop-l.invariant)
