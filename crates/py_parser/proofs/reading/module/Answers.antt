use Rattle.std.proofs.Common.{◌≡◌, List, map, sym, ap, subst, ◌∙◌}
use Rattle.spec_syntax.specs.Lines.{WordLine, word_lines}
use Rattle.spec_syntax.specs.Phases.{by_lines, read_lines, first_overloaded}
use Rattle.py_words.specs.declared.lines.WordLine as kept
use Rattle.py_words.specs.Lines.{line_seen}
use Rattle.py_parser.specs.Parsed.{GivesModule}
use Rattle.py_parser.proofs.Modules.{parsed_deep, parsed_lines}
use Rattle.py_parser.proofs.reading.module.Goals as goal

pub returns-in-Some-clause-parsed : goal.returns-in-Some-clause-parsed
returns-in-Some-clause-parsed c =
    let same : map line_seen c.deref.result.now ≡ word_lines c.args.tokens.now.scan = ap (λ (v : List kept.WordLine). map line_seen v) c.deref.ensures.value ∙ c.in_ok-lines.ensures in
    parsed_deep _ _ (sym (ap (λ (v : List WordLine). first_overloaded v) same) ∙ sym c.in_ok-line.ensures ∙ c.in-Some.is)

pub returns-clause-parsed : goal.returns-clause-parsed
returns-clause-parsed c =
    let same : map line_seen c.deref.result.now ≡ word_lines c.args.tokens.now.scan = ap (λ (v : List kept.WordLine). map line_seen v) c.deref.ensures.value ∙ c.in_ok-lines.ensures in
    let again : map line_seen c.deref-2.result.now ≡ word_lines c.args.tokens.now.scan = ap (λ (v : List kept.WordLine). map line_seen v) c.deref-2.ensures.value ∙ c.in_ok-lines.ensures in
    let none = sym (ap (λ (v : List WordLine). first_overloaded v) same) ∙ sym c.in_ok-line.ensures ∙ c.in_default.is in
    rw (parsed_lines _ none) (subst (λ (v : List WordLine). GivesModule c.read.result (by_lines (read_lines v))) again c.read.ensures.parsed)
