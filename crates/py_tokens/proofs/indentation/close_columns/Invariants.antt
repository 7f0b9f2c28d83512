use Rattle.std.proofs.Common.{◌≡◌, ◌+◌, ◌≤◌, drop, length}
use Rattle.spec_tokens.specs.Lines.{dedents}
use Rattle.py_tokens.proofs.indentation.close_columns.Given as goal

abbrev pub invariant-loop-columns : goal.invariant-loop-columns
invariant-loop-columns l = record {
  count : dedents l.indent l.initial.columns + length l.columns ≡ l.before + dedents l.indent l.columns;
  left : drop (dedents l.indent l.columns) l.columns ≡ drop (dedents l.indent l.initial.columns) l.initial.columns;
  fewer : length l.columns ≤ l.before;
}

abbrev pub decreases-loop-columns : goal.decreases-loop-columns
decreases-loop-columns l = length l.columns
