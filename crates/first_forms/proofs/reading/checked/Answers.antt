use Rattle.std.proofs.Common.{[], map, sym, ◌∙◌}
use Rattle.std.proofs.lemmas.Option.{get_or_from_slice_get}
use Rattle.contract_lines.specs.Given.{line_in}
use Rattle.first_forms.proofs.Checked.{checked_formed}
use Rattle.first_forms.proofs.reading.checked.Goals as goal

pub returns-clause-formed : goal.returns-clause-formed
returns-clause-formed c =
    let text = get_or_from_slice_get c.args.module.now.names c.args.definition.name.index c.name_text.result.now [] c.name_text.ensures.text in
    checked_formed c.args.module.now c.args.definition (map (line_in c.args.module.now) c.args.lines.now) c.read_promises.new.into.nodes c.values.new.into.nodes _ _ _ _ c.in_ok-values.ensures.grown (rw c.in-Some.is at (c.in_ok-parameters.ensures {u = tt})) c.in_ok-promises.ensures.promises c.in_ok-values.ensures.values ((c.in_ok-copy_name.ensures {u = tt}) ∙ sym text)
