use Rattle.std.proofs.Common.{◌≡◌, drop}
use Rattle.std.specs.List.{list_any}
use Rattle.std.specs.Str.{bytes_eq}
use Rattle.module_members.proofs.given.is_text.Given as goal

abbrev pub invariant-loop-text : goal.invariant-loop-text
invariant-loop-text l = list_any (λ t. bytes_eq t.now l.name) (drop l.text-index l.texts) ≡ list_any (λ t. bytes_eq t.now l.name) l.texts
