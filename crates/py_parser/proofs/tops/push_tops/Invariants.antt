use Rattle.std.proofs.Common.{◌≡◌, ◌++◌, length, drop}
use Rattle.py_tree.specs.State.{State}
use Rattle.py_tree.specs.Stmts.{AreStmtsBelow}
use Rattle.py_parser.proofs.tops.push_tops.Given as goal

abbrev pub invariant-loop-statement : goal.invariant-loop-statement
invariant-loop-statement l = record {
  below : AreStmtsBelow (length l.into.stmts) (drop l.statement-index l.statements);
  pushed : (let s : State = record l.into { tops = l.into.tops ++ drop l.statement-index l.statements } in s) ≡ (let s : State = record l.initial.into { tops = l.initial.into.tops ++ l.statements } in s);
}
