use Rattle.std.proofs.Common.{◌∙◌, ◌≡◌, ◌++◌, [], ◌∷◌, length}
use Rattle.spec_tokens.specs.declared.TokenKind.TheVariants.{Dedent, End}
use Rattle.spec_tokens.specs.Tokens.{times, at_end}
use Rattle.py_tokens.proofs.Appending.{tokens_turn, tokens_end}
use Rattle.py_tokens.proofs.Indented.{from_next, from_end}
use Rattle.py_tokens.proofs.building.tokens.Goals as goal

pub loop-line-preserved : goal.loop-line-preserved
loop-line-preserved c =
    let next = from_next c.args.lines.now c.loop-line.line-index c.loop-line-test.true in
    rw (c.in_ok-push_indentation.ensures.columns, c.leading-indent.ensures) (tokens_turn _ _ _ _ _ _ _ _ next (rw (← c.leading-indent.ensures) c.in_ok-push_indentation.ensures.tokens) c.in_ok-push_line.ensures) ∙ c.loop-line.invariant

pub returns : goal.returns
returns c =
    let none = from_end c.args.lines.now c.loop-line.line-index c.loop-line-test.false in
    let dedents : c.push_times.new.tokens.items ≡ c.loop-line.tokens.items ++ times (length c.loop-line.columns) (at_end Dedent c.args.letters.now) [] = rw (← c.len.ensures, ← c.at_end.ensures) c.in_ok-push_times.ensures in
    let all : c.push.new.self.items ≡ c.push_times.new.tokens.items ++ at_end End c.args.letters.now ∷ [] = rw (← c.at_end-2.ensures) c.in_ok-push.ensures.items in
    tokens_end _ _ _ _ _ _ none dedents all ∙ c.loop-line.invariant
