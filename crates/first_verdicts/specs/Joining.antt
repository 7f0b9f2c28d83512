-- Verdicts over calls that stand one after the other, and the order in which they are tried.
use Rattle.std.specs.Prelude.{ℕ, zero, suc, ℤ, List, [], ◌∷◌, ◌++◌}
use Rattle.std.specs.List.{flat_map}
use Rattle.spec_first_trees.specs.declared.LimitKind.{LimitKind}
use Rattle.spec_calls.specs.Calls.{Call}
use Rattle.spec_verdicts.specs.Verdicts.{Verdict, Error, NotConfirmed, Unmet, Confirmed, verdict_over}
use Rattle.first_tree.specs.BoundsOf.{bounds_of}
use Rattle.first_tree.specs.Functions.{function_in}
use Rattle.first_verdicts.specs.declared.judging.Question.{Question}
use Rattle.first_verdicts.specs.declared.judging.Judgement.{Judgement}
use Rattle.first_verdicts.specs.declared.judging.Judgement.TheVariants as judgement
use Rattle.first_verdicts.specs.Meaning.{condition_in, fault_in}
use Rattle.first_verdicts.specs.Judges.{call_of}

-- the verdict where a call before is limited
abbrev pub behind_limited : Call → LimitKind → Verdict → Verdict
behind_limited c k (Error d fault) = Error d fault
behind_limited c k (NotConfirmed d j) = NotConfirmed c k
behind_limited c k Unmet = NotConfirmed c k
behind_limited c k Confirmed = NotConfirmed c k

-- the verdict where the calls before confirm the condition
abbrev pub behind_confirmed : Verdict → Verdict
behind_confirmed (Error d fault) = Error d fault
behind_confirmed (NotConfirmed d j) = NotConfirmed d j
behind_confirmed Unmet = Confirmed
behind_confirmed Confirmed = Confirmed

-- the verdict over some calls and then others, by the verdicts over both
abbrev pub joined : Verdict → Verdict → Verdict
joined (Error c fault) v = Error c fault
joined (NotConfirmed c k) v = behind_limited c k v
joined Unmet v = v
joined Confirmed v = behind_confirmed v

-- the verdict over one call, by its judgement
abbrev pub verdict_at : Call → Judgement → Verdict
verdict_at c judgement.Unmet = Unmet
verdict_at c judgement.Held = Confirmed
verdict_at c (judgement.Broken fault) = Error c (fault_in fault)
verdict_at c (judgement.Limited k) = NotConfirmed c k

-- the verdict over some calls
abbrev pub asked : Question → List Call → Verdict
asked q cs = verdict_over (function_in q.trees.now.nodes q.function.now) (condition_in q.trees.now.nodes q.function.now q.condition) (bounds_of q.bounds.now) cs

-- the calls that begin with these arguments and have n more, each one of zs; the first argument counts most
abbrev pub beginning : List ℤ → ℕ → List ℤ → List Call
beginning zs zero front = call_of front ∷ []
beginning zs (suc n) front = flat_map (λ z. beginning zs n (front ++ z ∷ [])) zs
