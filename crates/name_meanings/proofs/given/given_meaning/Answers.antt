use Rattle.std.proofs.Common.{sym, ◌∙◌}
use Rattle.name_meanings.proofs.Tables.{function_is, unknown_is}
use Rattle.name_meanings.proofs.given.given_meaning.Goals as goal

pub returns-in-Some : goal.returns-in-Some
returns-in-Some c = function_is c.args.name.now c.in-Some.builtin c.in-Some.ensures

pub returns-in-None-2 : goal.returns-in-None-2
returns-in-None-2 c = unknown_is c.args.name.now c.in-None.ensures (sym c.is_exception.ensures ∙ c.if-is_exception.false)
