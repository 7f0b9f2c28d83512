use Rattle.std.proofs.Common.{◌≡◌, ◌∙◌, List, ℕ, Some, None, subst, sym}
use Rattle.std.specs.Prelude.{chars}
use Rattle.spec_syntax.specs.Texts.{parsed_expression}
use Rattle.contract_lines.specs.Given.{IsSpelled}
use Rattle.contract_lines.proofs.Spelling.{text_is, read, unread}
use Rattle.contract_lines.proofs.entries.spelled.Goals as goal

pub returns-in-Ok-clause-expression : goal.returns-in-Ok-clause-expression
returns-in-Ok-clause-expression c =
    let text : chars c.as_str-2.result.now ≡ c.args.letters.now = text_is c.as_str-2.result.now c.args.letters.now c.as_str-2.utf8 (c.as_str-2.ensures.value ∙ c.in_ok-text.ensures {u = tt}) in
    subst (λ (s : List ℕ). IsSpelled c.expression.new.into (Some c.in-Ok.e) (parsed_expression c.args.line s)) text (read c.expression.new.into c.in-Ok.e (parsed_expression c.args.line (chars c.as_str-2.result.now)) (c.in-Ok.ensures {u = tt}).parsed)

pub returns-in-Err-clause-expression : goal.returns-in-Err-clause-expression
returns-in-Err-clause-expression c =
    let text : chars c.as_str-2.result.now ≡ c.args.letters.now = text_is c.as_str-2.result.now c.args.letters.now c.as_str-2.utf8 (c.as_str-2.ensures.value ∙ c.in_ok-text.ensures {u = tt}) in
    subst (λ (s : List ℕ). IsSpelled c.expression.new.into None (parsed_expression c.args.line s)) text (unread c.expression.new.into c.in-Err.error (parsed_expression c.args.line (chars c.as_str-2.result.now)) (c.in-Err.ensures {u = tt}).parsed (sym c.is_refusal.ensures ∙ c.if-is_refusal.true))
