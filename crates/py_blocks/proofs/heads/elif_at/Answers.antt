use Rattle.std.proofs.Common.{drop, sym}
use Rattle.spec_grammar.specs.BlockReading.{elif_of}
use Rattle.py_blocks.proofs.Lines.{head_missed, elif_found, elif_other}
use Rattle.py_blocks.proofs.Turns.{admitted_missed}
use Rattle.py_blocks.proofs.heads.elif_at.Goals as goal

pub returns-in_err-header-clause-found : goal.returns-in_err-header-clause-found
returns-in_err-header-clause-found c m ps h = rw c.from_residual.ensures (admitted_missed elif_of c.args.depth (drop c.args.pos ps) (head_missed m _ ps _ _ h (sym c.in_err-header.ensures.head)))

pub returns-in-Elif-clause-found : goal.returns-in-Elif-clause-found
returns-in-Elif-clause-found c m ps h = elif_found m _ ps _ _ _ _ h (sym c.in_ok-header.ensures.head) c.in-Elif.line c.in-Elif.condition c.in-Elif.is

pub returns-in_default : goal.returns-in_default
returns-in_default c = record { found = λ m ps h. elif_other m _ ps _ _ _ _ h (sym c.in_ok-header.ensures.head) c.in_default.not-Elif; within = tt }
