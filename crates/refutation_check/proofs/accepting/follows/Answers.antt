use Rattle.std.proofs.Common.{◌++◌, refl}
use Rattle.refutation_check.proofs.Cuts.{follows_cut, forced_twice}
use Rattle.refutation_check.proofs.accepting.follows.Goals as goal

pub returns-then-shows_from-clause-exact : goal.returns-then-shows_from-clause-exact
returns-then-shows_from-clause-exact c = (λ _. follows_cut (c.args.clauses.now ++ c.args.more.now) c.args.assumptions.now c.args.known.now c.args.clause.now c.requires (c.shows_from.ensures.shown c.if-shows_from.true), λ _. refl)

pub returns-then-shows_from-clause-known : goal.returns-then-shows_from-clause-known
returns-then-shows_from-clause-known c = forced_twice (c.args.clauses.now ++ c.args.more.now) c.args.assumptions.now c.args.known.now c.shows_from.new.self c.requires c.shows_from.ensures.forced

pub returns-in_err-catch_up-clause-known : goal.returns-in_err-catch_up-clause-known
returns-in_err-catch_up-clause-known c = forced_twice (c.args.clauses.now ++ c.args.more.now) c.args.assumptions.now c.args.known.now c.shows_from.new.self c.requires c.shows_from.ensures.forced

pub returns-in_err-causes-clause-known : goal.returns-in_err-causes-clause-known
returns-in_err-causes-clause-known c = forced_twice (c.args.clauses.now ++ c.args.more.now) c.args.assumptions.now c.args.known.now c.shows_from.new.self c.requires c.shows_from.ensures.forced

pub returns-in_err-hints-clause-known : goal.returns-in_err-hints-clause-known
returns-in_err-hints-clause-known c = forced_twice (c.args.clauses.now ++ c.args.more.now) c.args.assumptions.now c.args.known.now c.shows_from.new.self c.requires c.shows_from.ensures.forced

pub returns-then-shows_from-2-clause-exact : goal.returns-then-shows_from-2-clause-exact
returns-then-shows_from-2-clause-exact c =
    let forced = forced_twice (c.args.clauses.now ++ c.args.more.now) c.args.assumptions.now c.args.known.now c.shows_from.new.self c.requires c.shows_from.ensures.forced in
    (λ _. follows_cut (c.args.clauses.now ++ c.args.more.now) c.args.assumptions.now c.shows_from.new.self c.args.clause.now forced (c.shows_from-2.ensures.shown c.if-shows_from-2.true), λ _. refl)

pub returns-then-shows_from-2-clause-known : goal.returns-then-shows_from-2-clause-known
returns-then-shows_from-2-clause-known c =
    let forced = forced_twice (c.args.clauses.now ++ c.args.more.now) c.args.assumptions.now c.args.known.now c.shows_from.new.self c.requires c.shows_from.ensures.forced in
    forced_twice (c.args.clauses.now ++ c.args.more.now) c.args.assumptions.now c.shows_from.new.self c.shows_from-2.new.self forced c.shows_from-2.ensures.forced

pub returns-clause-known : goal.returns-clause-known
returns-clause-known c =
    let forced = forced_twice (c.args.clauses.now ++ c.args.more.now) c.args.assumptions.now c.args.known.now c.shows_from.new.self c.requires c.shows_from.ensures.forced in
    forced_twice (c.args.clauses.now ++ c.args.more.now) c.args.assumptions.now c.shows_from.new.self c.shows_from-2.new.self forced c.shows_from-2.ensures.forced
