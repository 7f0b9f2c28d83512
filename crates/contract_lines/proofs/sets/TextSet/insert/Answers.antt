use Rattle.std.proofs.Common.{◌∙◌, ◌||◌, List, ℕ, map, refl, ap}
use Rattle.std.specs.Global.{Global}
use Rattle.std.specs.Prelude.{String, string_bytes}
use Rattle.std.specs.List.{list_any}
use Rattle.std.specs.Str.{bytes_eq}
use Rattle.spec_contracts.specs.ContractLines.{is_among}
use Rattle.contract_lines.proofs.Among.{among_insert}
use Rattle.contract_lines.proofs.sets.TextSet.insert.Goals as goal

pub returns : goal.returns
returns c = λ x.
    ap (λ (ks : List (String Global)). is_among (map string_bytes ks) x) (c.in_ok-insert.ensures {u = tt}).keys
    ∙ among_insert c.self.inside.texts.keys c.in_ok-from_str.field-0 (list_any (λ k. bytes_eq (string_bytes c.in_ok-from_str.field-0) (string_bytes k)) c.self.inside.texts.keys) x refl
    ∙ ap (λ (l : List (List ℕ)). is_among l x || bytes_eq x (string_bytes c.in_ok-from_str.field-0)) c.self.view_is
    ∙ ap (λ (t : List ℕ). is_among c.args.self.now x || bytes_eq x t) (c.in_ok-from_str.ensures {u = tt}).ok
