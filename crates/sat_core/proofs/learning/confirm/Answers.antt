use Rattle.sat_core.proofs.learning.confirm.Goals as goal

pub returns-clause-confirmed : goal.returns-clause-confirmed
returns-clause-confirmed c = record { follows = c.shows.ensures.shown c.if-not-shows.false; ends = c.in_ok-push_with_reason.ensures.ok }
