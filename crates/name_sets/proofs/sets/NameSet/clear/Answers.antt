use Rattle.std.proofs.Common.{◌≡◌, ◌+◌, ◌==◌, ◌∙◌, ℕ, List, Bool, false, rules, ap, sym, length, replicate}
use Rattle.std.proofs.lemmas.List.{length-map}
use Rattle.name_sets.proofs.Rounds.{none_first, none_yet, told}
use Rattle.name_sets.proofs.sets.NameSet.clear.Goals as goal

pub returns-in-Some-clause-cleared : goal.returns-in-Some-clause-cleared
returns-in-Some-clause-cleared c =
    let next : c.in-Some.round ≡ c.self.inside.round + 1 = search (rules, c.in-Some.ensures) in
    ap (λ (r : ℕ). told r c.self.inside.rounds.items) next ∙ none_yet c.self.inside.rounds.items c.self.inside.round c.self.invariant.1 ∙ ap (λ (v : List Bool). replicate (length v) false) c.self.view_is

pub returns-in_ok-self-inside-in-None-clause-cleared : goal.returns-in_ok-self-inside-in-None-clause-cleared
returns-in_ok-self-inside-in-None-clause-cleared c =
    let size : c.in_ok-self-inside-in-None.field-0.items ≡ replicate (length c.self.inside.rounds.items) 0 = search (rules, c.in_ok-self-inside-in-None.ensures.items_if_clones_equal) in
    ap (told 1) size ∙ none_first (length c.self.inside.rounds.items)
    ∙ ap (λ (n : ℕ). replicate n false) (sym (length-map c.self.inside.rounds.items (λ r. r == c.self.inside.round)))
    ∙ ap (λ (v : List Bool). replicate (length v) false) c.self.view_is
