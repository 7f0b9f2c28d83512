use Rattle.std.proofs.Common.{◌∙◌}
use Rattle.module_functions.proofs.Receivers.{first_is, no_parameter}
use Rattle.module_functions.proofs.function.is_self_first.Goals as goal

pub returns-in-len1-up : goal.returns-in-len1-up
returns-in-len1-up c = c.eq.ensures ∙ first_is c.args.module.now c.args.parameters.now no_parameter _ c.in-len1-up.len_at_least c.name_text.ensures.text
