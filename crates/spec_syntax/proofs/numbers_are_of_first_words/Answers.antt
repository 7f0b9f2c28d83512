use Rattle.spec_syntax.proofs.NumberLaws.{line_number}
use Rattle.spec_syntax.proofs.numbers_are_of_first_words.Goals as goal

pub returns : goal.returns
returns c = line_number
