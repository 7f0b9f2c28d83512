use Rattle.std.proofs.Common.{sym, ap, ◌∙◌, refl, ◌+◌, ◌^◌, lit≤}
use Rattle.spec_tokens.specs.Values.{coded}
use Rattle.py_tokens.proofs.Digits.{hex_short, hex_other, hex_coded}
use Rattle.py_tokens.proofs.escapes.hex_escape.Goals as goal

pub returns-then-letters-count-clause-escape : goal.returns-then-letters-count-clause-escape
returns-then-letters-count-clause-escape c = rw (hex_short c.args.count 0 c.args.letters.now c.if-letters-count.true) refl

pub returns-then-not-are_hex_digits-clause-escape : goal.returns-then-not-are_hex_digits-clause-escape
returns-then-not-are_hex_digits-clause-escape c = rw (hex_other c.args.count 0 c.args.letters.now (sym c.are_hex_digits.ensures ∙ c.if-not-are_hex_digits.true)) refl

pub returns-clause-escape : goal.returns-clause-escape
returns-clause-escape c =
    let n = c.args.count + 1 in
    c.coded.ensures.coded ∙ ap (coded n) c.digits_value.ensures ∙ hex_coded n c.args.count (2 ^ 127) c.args.letters.now (lit≤ tt) c.if-letters-count.false (sym c.are_hex_digits.ensures ∙ c.if-not-are_hex_digits.false)
