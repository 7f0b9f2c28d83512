use Rattle.py_parser.proofs.Steps.{load_admitted, load_refused}
use Rattle.py_parser.proofs.texts.admitted.Goals as goal

pub returns-in-Some : goal.returns-in-Some
returns-in-Some c = load_refused _ (record { depth = 0; words = c.args.words }) _ _ c.in_ok-first_overloaded.ensures c.from_ref.ensures.value _ c.in-Some.is

pub returns : goal.returns
returns c = load_admitted _ (record { depth = 0; words = c.args.words }) _ _ c.in_ok-first_overloaded.ensures c.from_ref.ensures.value c.in_default.is
