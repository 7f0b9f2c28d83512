use Rattle.std.proofs.Common.{◌≤◌, length, ◌∙◌, refl, sym, arith}
use Rattle.std.proofs.lemmas.Option.{slice_get_past}
use Rattle.spec_tokens.specs.declared.TokenKind.TheVariants as kind
use Rattle.py_words.proofs.LogicalLines.{is_at, indent_read, dedent_read, newline_read, word_read, end_read, past_read, lines_push, no_lexeme}
use Rattle.py_words.proofs.lines.word_lines.Goals.{in-Indent, in-Dedent, in-Newline+in_ok-push-in-Newline, in_default-kind+in_ok-word_of-in_default-kind+in_ok-push-in_default-kind, else-loop-place-test, then-loop-place-test+in_default, then-loop-place-test+in-Some+in-End}
use Rattle.py_words.proofs.lines.word_lines.Goals as goal

pub loop-place-preserved : goal.loop-place-preserved
loop-place-preserved c =
    elim c.match-token.branch [
      | in-Indent w ↦ record {
        bounded = omega (arith, w.depth-is);
        read = rw (w.lines-is, w.words-is, w.depth-is) (indent_read _ _ _ _ _ (is_at c.args.tokens.now _ _ kind.Indent c.in-Some.ensures w.in-Indent.is) ∙ c.loop-place.invariant.read);
      }
      | in-Dedent w ↦ record {
        bounded = omega (arith, w.depth-is, w.saturating_sub-depth.ensures);
        read = rw (w.lines-is, w.words-is, w.depth-is, w.saturating_sub-depth.ensures) (dedent_read _ _ _ _ _ (is_at c.args.tokens.now _ _ kind.Dedent c.in-Some.ensures w.in-Dedent.is) ∙ c.loop-place.invariant.read);
      }
      | in-Newline+in_ok-push-in-Newline w ↦ record {
        bounded = omega (arith, w.depth-is);
        read =
            rw (w.lines-is, w.words-is, w.depth-is, w.new-words-in-Newline.ensures, lines_push _ _ _ w.in_ok-push-in-Newline.ensures.items)
            (newline_read _ _ _ _ _ (is_at c.args.tokens.now _ _ kind.Newline c.in-Some.ensures w.in-Newline.is) ∙ c.loop-place.invariant.read);
      }
      | in_default-kind+in_ok-word_of-in_default-kind+in_ok-push-in_default-kind w ↦ record {
        bounded = omega (arith, w.depth-is);
        read =
            let kind = w.in_default-kind in
            rw (w.lines-is, w.words-is, w.depth-is, w.in_ok-push-in_default-kind.ensures.ok)
            (word_read _ _ _ _ _ c.in-Some.token.kind _ (is_at c.args.tokens.now _ _ _ c.in-Some.ensures refl) kind.not-Indent kind.not-Dedent kind.not-Newline kind.not-End w.in_ok-word_of-in_default-kind.ensures ∙ c.loop-place.invariant.read);
      }
    ]

pub returns : goal.returns
returns c =
    elim c.loop-place-test.branch [
      | else-loop-place-test w ↦
          let past : length c.args.tokens.now.scan.tokens ≤ c.loop-place.place = omega (arith, w.loop-place-test.false, c.len-place-end.ensures) in
          sym (past_read _ _ _ _ _ (slice_get_past _ _ past)) ∙ c.loop-place.invariant.read
      | then-loop-place-test+in_default w ↦ sym (past_read _ _ _ _ _ (no_lexeme c.args.tokens.now _ w.in_default.ensures)) ∙ c.loop-place.invariant.read
      | then-loop-place-test+in-Some+in-End w ↦ sym (end_read _ _ _ _ _ (is_at c.args.tokens.now _ _ kind.End w.in-Some.ensures w.in-End.is)) ∙ c.loop-place.invariant.read
    ]
