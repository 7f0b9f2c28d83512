use Rattle.local_names.proofs.Adding.{adds_one}
use Rattle.name_scopes.proofs.Repeating.{keyword_there}
use Rattle.name_scopes.proofs.keywords.add_keyword.Goals as goal

pub returns-in-Some-clause-added : goal.returns-in-Some-clause-added
returns-in-Some-clause-added c =
    let there = rw c.in-Some.is at c.requires.name in
    rw (c.in-Some.is, c.insert.ensures) (adds_one c.args.module.now.names c.args.seen.now c.in-Some.name c.names_count.ensures.«module».distinct there c.requires.size)

pub returns-in-Some-clause-repeated : goal.returns-in-Some-clause-repeated
returns-in-Some-clause-repeated c =
    let there = rw c.in-Some.is at c.requires.name in
    rw c.in-Some.is (λ xs e. keyword_there c.args.module.now.names xs c.args.seen.now c.in-Some.name c.contains-was_there.result e there c.contains-was_there.ensures)
