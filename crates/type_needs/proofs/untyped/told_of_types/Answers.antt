use Rattle.std.proofs.Common.{List, arith, refl, subst}
use Rattle.spec_names.specs.declared.Refusal.{Refusal}
use Rattle.spec_types.specs.Needs.{type_refusals}
use Rattle.told_refusals.specs.Telling.{Tells}
use Rattle.told_refusals.proofs.Telling.{flat_map_map, told_all}
use Rattle.given_types.specs.declared.GivenType.{GivenType}
use Rattle.given_types.specs.Giving.{IsGiven, given_in}
use Rattle.type_needs.proofs.Walking.{told_turn}
use Rattle.type_needs.proofs.untyped.told_of_types.Goals as goal

pub loop-given-preserved : goal.loop-given-preserved
loop-given-preserved c = λ m h. told_turn (IsGiven m) (λ (g : GivenType). type_refusals c.args.line (given_in m g)) c.args.types.now c.args.told c.loop-given.told c.loop-given.given-index h (c.loop-given.invariant m h) _ _ c.loop-given-test.true refl c.told_of_type-told.result (c.told_of_type-told.ensures m)

pub returns : goal.returns
returns c = λ m h. subst (λ (rs : List Refusal). Tells c.args.told c.loop-given.told rs) (flat_map_map (type_refusals c.args.line) (given_in m) c.args.types.now)
    (told_all (λ (g : GivenType). type_refusals c.args.line (given_in m g)) c.args.types.now c.args.told c.loop-given.told c.loop-given.given-index (c.loop-given.invariant m h) (omega (arith, c.loop-given-test.false)))
