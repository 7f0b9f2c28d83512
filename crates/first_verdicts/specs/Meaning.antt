-- What the types of this crate mean to the definitions.
use Rattle.std.specs.Prelude.{ℕ, ◌<◌, ⊤, List, map}
use Rattle.spec_first_trees.specs.Program as program
use Rattle.spec_calls.specs.Calls.{Call, Number}
use Rattle.spec_verdicts.specs.Breaking as breaking
use Rattle.spec_verdicts.specs.Verdicts as verdicts
use Rattle.first_tree.specs.declared.nodes.ExprNode.{ExprNode}
use Rattle.first_tree.specs.declared.nodes.FnNode.{FnNode}
use Rattle.first_tree.specs.Functions.{post_in}
use Rattle.first_verdicts.specs.declared.calls.Call as declared
use Rattle.first_verdicts.specs.declared.verdicts.Fault.{Fault}
use Rattle.first_verdicts.specs.declared.verdicts.Fault.TheVariants.{WasFalse, RaisedInBody, RaisedInPost}
use Rattle.first_verdicts.specs.declared.verdicts.Verdict.{Verdict}
use Rattle.first_verdicts.specs.declared.verdicts.Verdict.TheVariants.{Error, NotConfirmed, Unmet, Confirmed}
use Rattle.first_verdicts.specs.declared.verdicts.Condition.{Condition}
use Rattle.first_verdicts.specs.declared.verdicts.Condition.TheVariants.{Raises, Post}

abbrev pub call_in : declared.Call → Call
call_in c = map Number c.arguments.items

abbrev pub condition_in : List ExprNode → FnNode → Condition → program.Condition
condition_in nodes f Raises = program.Raises f.line f.permitted.items
condition_in nodes f (Post p) = post_in nodes p

abbrev pub IsConditionBelow : ℕ → Condition → Type 0
IsConditionBelow n Raises = ⊤
IsConditionBelow n (Post p) = p.expr.index < n

abbrev pub fault_in : Fault → breaking.Fault
fault_in (WasFalse v) = breaking.WasFalse v
fault_in (RaisedInBody c) = breaking.RaisedInBody c
fault_in (RaisedInPost c) = breaking.RaisedInPost c

abbrev pub verdict_in : Verdict → verdicts.Verdict
verdict_in (Error c fault) = verdicts.Error (call_in c) (fault_in fault)
verdict_in (NotConfirmed c k) = verdicts.NotConfirmed (call_in c) k
verdict_in Unmet = verdicts.Unmet
verdict_in Confirmed = verdicts.Confirmed
