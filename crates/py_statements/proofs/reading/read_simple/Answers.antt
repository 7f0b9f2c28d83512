use Rattle.std.proofs.Common.{refl, drop}
use Rattle.spec_trees.specs.Stmt.{pass, break, continue}
use Rattle.spec_grammar.specs.StatementReading.{marked_of}
use Rattle.py_statements.proofs.Turns.{simple_unmarked, simple_marked, simple_other}
use Rattle.py_statements.proofs.reading.read_simple.Goals as goal

pub returns-in_default-clause-read : goal.returns-in_default-clause-read
returns-in_default-clause-read c = rw (simple_unmarked (drop c.args.pos c.args.words.now) c.in_default.ensures) c.unmarked.ensures.read

pub returns-in-Return-clause-read : goal.returns-in-Return-clause-read
unfolding marked_of
returns-in-Return-clause-read c = rw (simple_marked _ c.line-line.result (drop c.args.pos c.args.words.now) _ c.in-Some.ensures c.line-line.ensures, c.in-Return.is) c.return_statement.ensures.read

pub returns-in-Pass-clause-read : goal.returns-in-Pass-clause-read
unfolding marked_of
returns-in-Pass-clause-read c = rw (simple_marked _ c.line-line.result (drop c.args.pos c.args.words.now) _ c.in-Some.ensures c.line-line.ensures, c.in-Pass.is) (c.alone.ensures.read (pass c.line-line.result) refl)

pub returns-in-Break-clause-read : goal.returns-in-Break-clause-read
unfolding marked_of
returns-in-Break-clause-read c = rw (simple_marked _ c.line-line.result (drop c.args.pos c.args.words.now) _ c.in-Some.ensures c.line-line.ensures, c.in-Break.is) (c.alone-in-Break.ensures.read (break c.line-line.result) refl)

pub returns-in-Continue-clause-read : goal.returns-in-Continue-clause-read
unfolding marked_of
returns-in-Continue-clause-read c = rw (simple_marked _ c.line-line.result (drop c.args.pos c.args.words.now) _ c.in-Some.ensures c.line-line.ensures, c.in-Continue.is) (c.alone-in-Continue.ensures.read (continue c.line-line.result) refl)

pub returns-in-Assert-clause-read : goal.returns-in-Assert-clause-read
unfolding marked_of
returns-in-Assert-clause-read c = rw (simple_marked _ c.line-line.result (drop c.args.pos c.args.words.now) _ c.in-Some.ensures c.line-line.ensures, c.in-Assert.is) c.assert_statement.ensures.read

pub returns-in-Raise-clause-read : goal.returns-in-Raise-clause-read
unfolding marked_of
returns-in-Raise-clause-read c = rw (simple_marked _ c.line-line.result (drop c.args.pos c.args.words.now) _ c.in-Some.ensures c.line-line.ensures, c.in-Raise.is) c.raise_statement.ensures.read

pub returns-in-Del-clause-read : goal.returns-in-Del-clause-read
unfolding marked_of
returns-in-Del-clause-read c = rw (simple_marked _ c.line-line.result (drop c.args.pos c.args.words.now) _ c.in-Some.ensures c.line-line.ensures, c.in-Del.is) c.delete_statement.ensures.read

pub returns-in-Import-clause-read : goal.returns-in-Import-clause-read
unfolding marked_of
returns-in-Import-clause-read c = rw (simple_marked _ c.line-line.result (drop c.args.pos c.args.words.now) _ c.in-Some.ensures c.line-line.ensures, c.in-Import.is) c.import_statement.ensures.read

pub returns-in-From-clause-read : goal.returns-in-From-clause-read
unfolding marked_of
returns-in-From-clause-read c = rw (simple_marked _ c.line-line.result (drop c.args.pos c.args.words.now) _ c.in-Some.ensures c.line-line.ensures, c.in-From.is) c.from_statement.ensures.read

pub returns-in_default-mark : goal.returns-in_default-mark
returns-in_default-mark c = record {
  grown = c.unmarked-in_default-mark.ensures.grown;
  read = rw (simple_other _ (drop c.args.pos c.args.words.now) _ c.in-Some.ensures c.in_default-mark.not-Return c.in_default-mark.not-Pass c.in_default-mark.not-Break c.in_default-mark.not-Continue c.in_default-mark.not-Assert c.in_default-mark.not-Raise c.in_default-mark.not-Del c.in_default-mark.not-Import c.in_default-mark.not-From) c.unmarked-in_default-mark.ensures.read;
}
