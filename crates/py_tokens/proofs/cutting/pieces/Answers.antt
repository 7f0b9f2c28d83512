use Rattle.std.proofs.Common.{arith, sym, ◌∙◌, refl}
use Rattle.py_tokens.proofs.Lengths.{some_left, none_left}
use Rattle.py_tokens.proofs.Turns.{pieces_turn, no_pieces}
use Rattle.py_tokens.proofs.cutting.pieces.Goals as goal

pub loop-rest-smaller : goal.loop-rest-smaller
loop-rest-smaller c =
    omega (arith, c.piece-kind.ensures.some, c.piece-kind.ensures.within)

pub loop-rest-preserved : goal.loop-rest-preserved
loop-rest-preserved c =
    let left = some_left c.loop-rest.rest.now (sym c.is_empty.ensures ∙ c.loop-rest-test.true) in
    record {
      pieces = pieces_turn _ _ _ _ _ _ _ _ _ _ _ left c.piece-kind.ensures.piece refl c.split_at.ensures.front c.split_at.ensures.back c.line_feeds-line.ensures.count c.in_ok-push.ensures.items ∙ c.loop-rest.invariant.pieces;
      place = omega (arith, c.loop-rest.invariant.place, c.piece-kind.ensures.within);
      line = omega (arith, c.loop-rest.invariant.line, c.line_feeds-line.ensures.within);
    }

pub returns : goal.returns
returns c =
    let none = none_left c.loop-rest.rest.now (sym c.is_empty.ensures ∙ c.loop-rest-test.false) in
    sym (no_pieces _ _ _ _ none) ∙ c.loop-rest.invariant.pieces
