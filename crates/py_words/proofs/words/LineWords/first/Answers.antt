use Rattle.std.proofs.Common.{subst, List}
use Rattle.spec_grammar.specs.Words.{Word}
use Rattle.std.specs.Option.{option_copied}
use Rattle.py_words.specs.Found.{IsFirst}
use Rattle.py_words.proofs.Places.{first_at}
use Rattle.py_words.proofs.words.LineWords.first.Goals as goal

pub returns-clause-word : goal.returns-clause-word
returns-clause-word c = subst (λ (s : List Word). IsFirst s c.args.pos (option_copied c.word_at.result)) c.self.view_is (first_at c.self.inside.words.items c.args.pos _ (rw c.deref.ensures.value at c.word_at.ensures.word))
