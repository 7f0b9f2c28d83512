use Rattle.std.proofs.Common.{◌≡◌, ◌++◌, ap, ◌∙◌, rules, to_z, of_z}
use Rattle.std.specs.Prelude.{codes}
use Rattle.std.specs.Fmt.{signed_decimal}
use mir.Syntax.{w128}
use Rattle.crosshair.proofs.lines.add_returned.Goals as goal

pub returns-in-Bool-true : goal.returns-in-Bool-true
returns-in-Bool-true c = rw (c.in-Bool-true.is, c.in-Bool-true.field-0-test) c.extend.ensures.ok

pub returns-in-Bool-false : goal.returns-in-Bool-false
returns-in-Bool-false c = rw (c.in-Bool-false.is, c.in-Bool-false.field-0-test) c.extend-in-Bool-false.ensures.ok

pub returns-in_ok-extend-in-Int : goal.returns-in_ok-extend-in-Int
returns-in_ok-extend-in-Int c =
    let same : to_z w128 (of_z w128 c.in-Int.number) ≡ c.in-Int.number = search rules in
    rw c.in-Int.is (c.in_ok-extend-in-Int.ensures.ok ∙ ap (λ x. c.args.text.now ++ x) (c.as_bytes.ensures.value ∙ c.in_ok-format-in-Int.ensures.ok ∙ ap (λ z. codes " (which returns " ++ (signed_decimal z ++ codes ")")) same))
