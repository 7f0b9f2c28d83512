use Rattle.std.proofs.Common.{sym, ◌∙◌, ◌≡◌, ◌++◌, []}
use Rattle.spec_tokens.specs.Pieces.{spelling}
use Rattle.spec_tokens.specs.Tokens.{token_kind, kept}
use Rattle.py_tokens.proofs.Appending.{line_turn, line_last, line_end}
use Rattle.py_tokens.proofs.Lengths.{some_left, none_left}
use Rattle.py_tokens.proofs.building.push_line.Goals as goal

pub loop-piece-preserved-in_ok-push : goal.loop-piece-preserved-in_ok-push
loop-piece-preserved-in_ok-push c =
    let piece = c.in-Some.piece.now in
    let none = none_left c.in-Some.after.now (sym c.is_empty.ensures ∙ c.if-is_empty.true) in
    let keeps : c.keep.new.tokens.items ≡ c.loop-piece.tokens.items ++ kept (token_kind piece.kind (spelling c.args.letters.now piece)) piece [] = rw (← c.spelling.ensures, ← c.token_kind-kind.ensures) c.in_ok-keep.ensures in
    line_last _ _ _ _ _ _ _ c.in-Some.ensures.cases.0 none keeps (rw (← c.newline.ensures) c.in_ok-push.ensures.items) ∙ c.loop-piece.invariant

pub loop-piece-preserved : goal.loop-piece-preserved
loop-piece-preserved c =
    let piece = c.in-Some.piece.now in
    let some = some_left c.in-Some.after.now (sym c.is_empty.ensures ∙ c.if-is_empty.false) in
    let keeps : c.keep.new.tokens.items ≡ c.loop-piece.tokens.items ++ kept (token_kind piece.kind (spelling c.args.letters.now piece)) piece [] = rw (← c.spelling.ensures, ← c.token_kind-kind.ensures) c.in_ok-keep.ensures in
    line_turn _ _ _ _ _ _ c.in-Some.ensures.cases.0 some keeps ∙ c.loop-piece.invariant

pub returns : goal.returns
returns c = sym (line_end _ _ _ c.in_default.ensures.cases) ∙ c.loop-piece.invariant
