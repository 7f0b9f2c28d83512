use Rattle.std.proofs.lemmas.List.{take_rest}
use Rattle.py_tokens.proofs.Digits.{value_short, value_based}
use Rattle.py_tokens.proofs.values.integer_value.Goals as goal

pub returns-then-letters-lt2 : goal.returns-then-letters-lt2
returns-then-letters-lt2 c = rw (value_short _ c.if-letters-lt2.true) c.digits_value.ensures

pub returns : goal.returns
returns c = rw (value_based _ _ _ _ c.index-letters-1.is c.base_of-base.ensures.base c.if-base-eq10.false c.if-letters-lt2.false (take_rest c.args.letters.now 2)) c.digits_value-2.ensures
