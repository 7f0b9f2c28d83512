use Rattle.std.proofs.Common.{◌++◌, List, Option, Some, None, IfSome, Contains}
use Rattle.std.proofs.lemmas.List.Elements.{Contains-append_right}
use Rattle.refutation_check.specs.declared.lit.SatLit.{SatLit}
use Rattle.refutation_check.proofs.hints.clause_at.Goals as goal

-- what stands in the second list stands in both
behind : {X : Type 0} (read : X → List SatLit) (clauses more : List (List SatLit)) (o : Option X) → IfSome o (λ x. Contains more (read x)) → IfSome o (λ x. Contains (clauses ++ more) (read x))
behind read clauses more None h = h
behind read clauses more (Some x) h = Contains-append_right clauses more (read x) h

pub returns-in-Some : goal.returns-in-Some
returns-in-Some c = behind (λ x. x.now) c.args.clauses.now c.args.more.now c.item-in-Some.result c.item-in-Some.ensures
