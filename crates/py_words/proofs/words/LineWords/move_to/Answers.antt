use Rattle.std.proofs.Common.{◌≡◌, ◌<◌, ◌∙◌, length, map, ap, arith, List}
use Rattle.std.proofs.lemmas.List.{with_items_is}
use Rattle.spec_grammar.specs.Words.{Word}
use Rattle.spec_syntax.specs.Texts.{moved}
use Rattle.py_words.specs.declared.words.Word as kept
use Rattle.py_words.specs.Seen.{seen}
use Rattle.py_words.proofs.Moving.{front_more, front_all}
use Rattle.py_words.proofs.words.LineWords.move_to.Goals as goal

pub loop-word-preserved : goal.loop-word-preserved
loop-word-preserved c =
    let within : c.loop-word.word-index < length c.loop-word.word-items = omega (arith, c.loop-word-test.true, c.loop-word.auto.word-items) in
    front_more _ _ _ _ _ _ c.loop-word.invariant within c.move_to.ensures

pub returns : goal.returns
returns c =
    let all : c.loop-word.word-index ≡ length c.deref_mut-word-items.result.now = omega (arith, c.loop-word-test.false, c.loop-word.auto.word-index-end) in
    let written = with_items_is c.self.inside.words c.loop-word.word-items (c.loop-word.auto.word-items ∙ c.deref_mut-word-items.ensures.len) in
    let same = rw c.deref_mut-word-items.ensures.value at (front_all _ _ _ _ c.loop-word.invariant all) in
    ap (λ (s : List kept.Word). map seen s) written ∙ (same ∙ ap (λ (s : List Word). map (moved c.args.line) s) c.self.view_is)
