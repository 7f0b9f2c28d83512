use Rattle.std.proofs.Common.{◌≡◌, ◌∙◌, rules, ap, replicate}
use Rattle.name_sets.proofs.Rounds.{none_first, told}
use Rattle.name_sets.proofs.sets.NameSet.new.Goals as goal

pub returns : goal.returns
returns c =
    let zeros : c.in_ok-vec.field-0.items ≡ replicate c.args.names 0 = search (rules, c.in_ok-vec.ensures.items_if_clones_equal) in
    ap (told 1) zeros ∙ none_first c.args.names
