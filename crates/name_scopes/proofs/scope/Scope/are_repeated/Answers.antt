use Rattle.std.proofs.Common.{[], ◌≡◌, ap, ◌∙◌}
use Rattle.name_sets.specs.Marks.{marks_of}
use Rattle.name_sets.proofs.Marks.{marks_none}
use Rattle.name_scopes.specs.Showing.{Held}
use Rattle.name_scopes.proofs.scope.Scope.are_repeated.Goals as goal

pub leave_keywords-requires-clause-seen : goal.leave_keywords-requires-clause-seen
leave_keywords-requires-clause-seen c =
    let empty : c.self.inside.seen ≡ marks_of [] c.args.module.now.names = ap (λ (h : Held). h.seen) c.self.view_is ∙ c.requires.sized.seen ∙ marks_none c.args.module.now.names in
    c.add_keywords-is_repeated.ensures.added.set [] empty

pub returns-clause-repeated : goal.returns-clause-repeated
returns-clause-repeated c =
    let empty : c.self.inside.seen ≡ marks_of [] c.args.module.now.names = ap (λ (h : Held). h.seen) c.self.view_is ∙ c.requires.sized.seen ∙ marks_none c.args.module.now.names in
    c.add_keywords-is_repeated.ensures.repeated [] empty
