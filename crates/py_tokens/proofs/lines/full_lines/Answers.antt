use Rattle.std.proofs.Common.{arith, sym, ap, ◌∙◌, ◌≡◌, take, drop, [], ◌∷◌, map}
use Rattle.std.proofs.lemmas.List.{map-append}
use Rattle.py_tokens.specs.Steps.{line_size}
use Rattle.py_tokens.proofs.Lengths.{some_left, none_left}
use Rattle.py_tokens.proofs.Logical.{line_size-some, lines_keep, lines_skip, lines_end}
use Rattle.py_tokens.proofs.lines.full_lines.Goals as goal

pub loop-rest-smaller-in_ok-push : goal.loop-rest-smaller-in_ok-push
loop-rest-smaller-in_ok-push c =
    let left = some_left c.loop-rest.rest.now (sym c.is_empty.ensures ∙ c.loop-rest-test.true) in
    let size = line_size-some c.loop-rest.rest.now left in
    omega (arith, c.in_ok-line_size.ensures.size, c.split_at.ensures.back_len)

pub loop-rest-preserved-in_ok-push : goal.loop-rest-preserved-in_ok-push
loop-rest-preserved-in_ok-push c =
    let rest = c.loop-rest.rest.now in
    let left = some_left rest (sym c.is_empty.ensures ∙ c.loop-rest-test.true) in
    let line : c.split_at.result.0.now ≡ take (line_size [] rest) rest = rw (← c.in_ok-line_size.ensures.size) c.split_at.ensures.front in
    let after : c.split_at.result.1.now ≡ drop (line_size [] rest) rest = rw (← c.in_ok-line_size.ensures.size) c.split_at.ensures.back in
    lines_keep _ _ rest _ _ left line after (sym c.is_full.ensures ∙ c.if-is_full.true) (ap (map (λ l. l.now)) c.in_ok-push.ensures.items ∙ map-append (λ l. l.now) c.loop-rest.lines.items (c.split_at.result.0 ∷ [])) ∙ c.loop-rest.invariant

pub loop-rest-smaller : goal.loop-rest-smaller
loop-rest-smaller c =
    let left = some_left c.loop-rest.rest.now (sym c.is_empty.ensures ∙ c.loop-rest-test.true) in
    let size = line_size-some c.loop-rest.rest.now left in
    omega (arith, c.in_ok-line_size.ensures.size, c.split_at.ensures.back_len)

pub loop-rest-preserved : goal.loop-rest-preserved
loop-rest-preserved c =
    let rest = c.loop-rest.rest.now in
    let left = some_left rest (sym c.is_empty.ensures ∙ c.loop-rest-test.true) in
    let line : c.split_at.result.0.now ≡ take (line_size [] rest) rest = rw (← c.in_ok-line_size.ensures.size) c.split_at.ensures.front in
    let after : c.split_at.result.1.now ≡ drop (line_size [] rest) rest = rw (← c.in_ok-line_size.ensures.size) c.split_at.ensures.back in
    lines_skip _ rest _ _ left line after (sym c.is_full.ensures ∙ c.if-is_full.false) ∙ c.loop-rest.invariant

pub returns : goal.returns
returns c =
    let none = none_left c.loop-rest.rest.now (sym c.is_empty.ensures ∙ c.loop-rest-test.false) in
    sym (lines_end _ _ none) ∙ c.loop-rest.invariant
