use Rattle.std.proofs.Common.{◌≡◌, true, List, length, subst, sym, ◌∙◌, arith, ◌<◌, ◌≤◌, get_or}
use Rattle.std.specs.List.{All}
use Rattle.std.proofs.lemmas.List.{take_all}
use Rattle.std.proofs.lemmas.List.Elements.{All-more, All-contains}
use Rattle.refutation_check.specs.declared.lit.SatLit.{SatLit}
use Rattle.refutation_check.specs.Truth.{clause_value, literal_value}
use Rattle.refutation_check.proofs.Lists.{all_told}
use Rattle.sat_core.specs.Models.{model_value}
use Rattle.sat_core.proofs.offered.meets.Goals as goal

pub loop-i-preserved : goal.loop-i-preserved
loop-i-preserved c =
    let P : List SatLit → Type 0 = λ d. clause_value (model_value c.args.model.now) d ≡ true in
    let lt : c.loop-i.i < length c.args.clauses.now = omega arith in
    let here : P (get_or c.args.clauses.now c.loop-i.i c.clause_at.result.now) = subst P c.clause_at.ensures (sym c.holds.ensures ∙ c.if-not-holds.false) in
    All-more P c.args.clauses.now c.loop-i.i c.clause_at.result.now lt c.loop-i.invariant here

pub returns : goal.returns
returns c = λ h.
    let P : List SatLit → Type 0 = λ d. clause_value (model_value c.args.model.now) d ≡ true in
    let le : length c.args.clauses.now ≤ c.loop-i.i = omega arith in
    let all : All P c.args.clauses.now = subst (All P) (take_all c.loop-i.i c.args.clauses.now le) c.loop-i.invariant in
    record {
      clauses_hold = λ d t. All-contains P c.args.clauses.now d all t;
      assumptions_hold = λ l t. all_told (literal_value (model_value c.args.model.now)) c.args.assumptions.now l (sym c.are_true.ensures ∙ h) t;
    }
