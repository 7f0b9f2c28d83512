use Rattle.std.proofs.Common.{rules, ◌∙◌, sym, Some, ap, ℕ, Option, unwrap_or}
use Rattle.std.specs.Int.{w128}
use Rattle.std.proofs.lemmas.Int.{to_z-of_z}
use Rattle.spec_grammar.specs.Words.{Int, Str, Sign}
use Rattle.py_words.proofs.TokenKinds.{name_word, integer_word, string_word, sign_word, letters_or}
use Rattle.py_words.proofs.tokens.word_of.Goals as goal

pub returns-in-Some : goal.returns-in-Some
returns-in-Some c = name_word c.args.tokens.now.scan _ _ _ c.requires (sym c.in-Some.is ∙ c.in_ok-text.ensures)

pub returns-in-Some-int_value : goal.returns-in-Some-int_value
returns-in-Some-int_value c =
    integer_word c.args.tokens.now.scan _ _ _ c.requires c.in-Some-int_value.ensures
    ∙ ap (λ (v : ℕ). Some (Int c.args.token.line v)) (sym (simp (to_z-of_z w128 c.in-Some-int_value.value (search rules)) at c.unsigned_abs-value.ensures.value))

pub returns-in_ok-part-in-Str : goal.returns-in_ok-part-in-Str
returns-in_ok-part-in-Str c =
    string_word c.args.tokens.now.scan _ _ c.unwrap_or-indent.result c.unwrap_or-letters.result.now c.requires c.in-Str.is (letters_or _ _ _ _ c.unwrap_or-letters.ensures c.letters.ensures) (c.unwrap_or-indent.ensures ∙ ap (λ (o : Option ℕ). unwrap_or o 0) c.indent.ensures)
    ∙ ap (λ p. Some (Str p)) (sym c.in_ok-part-in-Str.ensures)

pub returns-in_default-kind : goal.returns-in_default-kind
returns-in_default-kind c =
    sign_word c.args.tokens.now.scan _ _ c.unwrap_or-letters.result.now c.requires (sym c.in_default.is ∙ c.in_ok-text.ensures) c.in_default-int_value.ensures c.in_default-kind.not-Str (letters_or _ _ _ _ c.unwrap_or-letters.ensures c.letters.ensures)
    ∙ ap (λ m. Some (Sign c.args.token.line m)) (sym c.mark_of-mark.ensures)
