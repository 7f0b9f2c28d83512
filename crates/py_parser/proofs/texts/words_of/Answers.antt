use Rattle.std.proofs.Common.{Some, None, chars, refl}
use Rattle.py_parser.proofs.Steps.{no_words, words_are}
use Rattle.py_parser.proofs.texts.words_of.Goals as goal

pub returns-in_default : goal.returns-in_default
returns-in_default c = no_words _ _ _ _ c.unindented.ensures.letters c.in_ok-tokens.ensures c.in_default.is

pub returns-in_default-one_line : goal.returns-in_default-one_line
returns-in_default-one_line c =
    let words = words_are c.args.line (chars c.args.text.now) _ _ _ _ None c.unindented.ensures.letters c.in_ok-tokens.ensures c.in-Some.is c.in_ok-lines.ensures c.in_default-one_line.ensures in
    rw words refl

pub returns : goal.returns
returns c =
    let words = words_are c.args.line (chars c.args.text.now) _ _ _ _ (Some c.in-Some-one_line.words) c.unindented.ensures.letters c.in_ok-tokens.ensures c.in-Some.is c.in_ok-lines.ensures c.in-Some-one_line.ensures in
    rw words c.admitted.ensures
