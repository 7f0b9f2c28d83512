use Rattle.std.proofs.Common.{ℕ, [], List, Option, IfOk, sym, subst, ◌∙◌, Result}
use Rattle.refutation_check.specs.declared.lit.SatLit.{SatLit}
use Rattle.xh_outside.specs.declared.errors.NoMemory.{NoMemory}
use Rattle.sat_core.specs.declared.model.Solved.{Solved}
use Rattle.sat_core.specs.Models.{IsModelOf, IsRefutationOf, IsAnswer}
use Rattle.sat_core.specs.Search.{IsCovered, IsSearched}
use Rattle.sat_core.proofs.Branches.{covered_first, closed_first}
use Rattle.sat_core.proofs.solver.Solver.solve.Goals.{in-Some, in-None}
use Rattle.sat_core.proofs.solver.Solver.solve.Goals as goal

pub search-requires-clause-covered : goal.search-requires-clause-covered
search-requires-clause-covered c =
    let P : List ℕ → Type 0 = λ v. IsCovered c.self.inside.clauses c.args.assumptions.now v [] in
    subst P (sym (c.deref.ensures.value ∙ c.in_ok-vars.ensures)) (covered_first c.self.inside.clauses c.args.assumptions.now)

pub returns-clause-answer : goal.returns-clause-answer
returns-clause-answer c =
    let P : Result Solved NoMemory → Type 0 = λ r. IfOk r (IsAnswer c.args.self.now c.args.assumptions.now) in
    let O : Option (List SatLit) → Type 0 = λ o. IsSearched c.self.inside.clauses c.args.assumptions.now [] c.learn.new.refutation c.search.new.refutation o in
    elim c.match-branch-5.branch [
      | in-Some w ↦ (let K : List (List SatLit) → Type 0 = λ k. IsModelOf k c.args.assumptions.now w.in-Some.model in subst P (sym w.result-is) (subst K c.self.view_is (subst O w.in-Some.is c.in_ok-model-2.ensures)))
      | in-None w ↦ (let K : List (List SatLit) → Type 0 = λ k. IsRefutationOf k c.args.assumptions.now c.search.new.refutation in subst P (sym w.result-is) (subst K c.self.view_is (closed_first c.self.inside.clauses c.args.assumptions.now c.learn.new.refutation c.search.new.refutation (subst O w.in-None.is c.in_ok-model-2.ensures))))
    ]
