use Rattle.std.proofs.Common.{◌≡◌, ◌+◌, ◌-◌, ◌≤◌, [], ◌∷◌, length, drop, sym, ap, arith, ◌∙◌}
use Rattle.std.proofs.Math.ListN.{drop_of_length-le}
use Rattle.std.proofs.lemmas.List.{length-drop}
use Rattle.py_words.specs.Seen.{seen}
use Rattle.py_placed.proofs.Turns.{last_end_from}
use Rattle.py_placed.proofs.reading.last_line.Goals as goal

pub returns-in-Some-first : goal.returns-in-Some-first
returns-in-Some-first c =
    let end : length c.args.words.now ≤ c.in-Some.pos + 1 = omega (arith, c.in-Some.ensures, c.len.ensures.count) in
    let none : drop (c.in-Some.pos + 1) c.args.words.now ≡ [] = drop_of_length-le c.args.words.now end in
    rw (last_end_from 0 c.args.words.now c.in-Some.pos (seen c.in-Some-first.word.now) [] (c.in-Some-first.ensures.word ∙ ap (λ s. seen c.in-Some-first.word.now ∷ s) none)) c.end_of.ensures

pub returns-in-None : goal.returns-in-None
returns-in-None c =
    let none : length c.args.words.now - c.in-Some.pos ≡ 0 = sym (length-drop c.in-Some.pos c.args.words.now) ∙ ap length c.in-None.ensures.word in
    absurd (omega (arith, c.in-Some.ensures, c.len.ensures.count))
