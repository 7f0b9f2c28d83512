use Rattle.std.proofs.Common.{◌+ℤ◌, ap, sym, ◌∙◌}
use Rattle.bit_ints.specs.Integers.{integer, integer_of}
use Rattle.bit_ints.proofs.Digits.{below_later, grown_length, values_kept}
use Rattle.bit_ints.proofs.Rows.{head_is}
use Rattle.bit_ints.proofs.products.add_row.Goals as goal

pub add-requires-clause-left : goal.add-requires-clause-left
add-requires-clause-left c = below_later _ _ _ c.requires.rest (grown_length _ _ c.in_ok-row.ensures.grown)

pub returns-clause-value : goal.returns-clause-value
returns-clause-value c = λ bits.
    let whole = head_is c.in_ok-sum.sum c.in_ok-more.more c.lit.result c.lit.ensures c.in_ok-more.ensures in
    let rest = values_kept c.args.g.now.gates c.masked.new.g.gates bits c.args.rest.now c.in_ok-row.ensures.grown c.requires.rest in
    ap (integer_of c.add.new.g.gates bits) (sym whole) ∙ c.in_ok-sum.ensures.value bits ∙ ap (λ vs. integer vs +ℤ integer_of c.masked.new.g.gates bits c.in_ok-row.row) rest ∙ ap (λ z. integer_of c.args.g.now.gates bits c.args.rest.now +ℤ z) (c.in_ok-row.ensures.value bits)
