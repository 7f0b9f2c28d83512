use Rattle.py_program.specs.Named.{AreNamesThere}
use Rattle.py_program.proofs.Listed.{AreMethodsTo}
use Rattle.py_program.proofs.listing.add_methods.Given as goal

abbrev pub invariant-loop-s : goal.invariant-loop-s
invariant-loop-s l = record {
  functions : AreMethodsTo l.module l.body l.fn.into.items l.into.items l.s-index;
  there : AreNamesThere l.module l.into.items;
}
