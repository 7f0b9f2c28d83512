use Rattle.std.proofs.Common.{◌≡◌, ◌∙◌, List, refl, sym, ap, subst, Some}
use Rattle.std.specs.Prelude.{chars}
use Rattle.std.specs.Option.{option_map}
use Rattle.spec_contracts.specs.Entries.{Entry}
use Rattle.spec_contracts.specs.ContractLines.{lines_among, refusals_among}
use Rattle.py_tree.specs.Exprs.{part_tree}
use Rattle.contract_entries.specs.Given.{all_entries}
use Rattle.contract_owners.specs.Members.{owned_in}
use Rattle.contract_lines.specs.Given.{Reads}
use Rattle.contract_lines.proofs.Modules.{entries_are}
use Rattle.contract_lines.proofs.Steps.{on_ok}
use Rattle.contract_lines.proofs.reading.read_owned.Goals as goal

pub returns-clause-read : goal.returns-clause-read
returns-clause-read c =
    let o = owned_in c.args.into.now c.args.owned in
    let docstring : o.docstring ≡ Some (part_tree c.in-Some.part.now) = sym c.docstring.ensures ∙ ap (option_map (λ p. part_tree p.now)) c.in-Some.is in
    let letters = c.deref.ensures.value ∙ c.in_ok-letters.ensures {u = tt} ∙ ap chars c.as_str.ensures in
    let entries = entries_are o.docstring c.in-Some.part.now c.deref.result.now (all_entries c.in_ok-promises.promises.items) docstring letters (c.in_ok-promises.ensures {u = tt}) in
    on_ok c.read_promises.result _ _ (λ read. subst (λ (es : List Entry). Reads c.args.into.now c.read_promises.new.into c.args.reading.now c.read_promises.new.reading (lines_among o es) (refusals_among o es)) (ap all_entries c.deref-2.ensures.value ∙ entries) (read o refl (c.in_ok-parameters.ensures {u = tt}))) c.read_promises.ensures.read
