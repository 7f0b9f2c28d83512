use Rattle.std.proofs.lemmas.Bool.{false_from_ne_true}
use Rattle.sat_core.specs.Models.{model_value}
use Rattle.sat_core.proofs.offered.offered_model.Goals as goal

pub returns-then-meets : goal.returns-then-meets
returns-then-meets c = record {
  holds = c.meets.ensures c.if-meets.true;
  unnamed = λ x out. false_from_ne_true (model_value c.new-model.result x) (λ t. out (c.in_ok-vars.ensures x ((c.new-model.ensures x).0 t)));
}
