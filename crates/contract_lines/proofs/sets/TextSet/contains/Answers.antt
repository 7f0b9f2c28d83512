use Rattle.std.proofs.Common.{◌∙◌, List, ℕ, sym, ap}
use Rattle.spec_contracts.specs.ContractLines.{is_among}
use Rattle.contract_lines.proofs.Among.{among_keys}
use Rattle.contract_lines.proofs.sets.TextSet.contains.Goals as goal

pub returns : goal.returns
returns c = c.contains.ensures ∙ sym (among_keys c.self.inside.texts.keys c.args.text.now) ∙ ap (λ (v : List (List ℕ)). is_among v c.args.text.now) c.self.view_is
