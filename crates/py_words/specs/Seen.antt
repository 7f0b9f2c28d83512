-- A word that is kept, as the grammar's word.
use Rattle.spec_grammar.specs.Words as grammar
use Rattle.py_tree.specs.Exprs.{part_tree}
use Rattle.py_words.specs.declared.words.Word.{Word}
use Rattle.py_words.specs.declared.words.Word.TheVariants as word

abbrev pub seen : Word → grammar.Word
seen (word.Name n x) = grammar.Name n x
seen (word.Integer n v) = grammar.Int n v
seen (word.Text p) = grammar.Str (part_tree p)
seen (word.Sign n m) = grammar.Sign n m
