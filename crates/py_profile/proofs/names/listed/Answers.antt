use Rattle.std.proofs.Common.{arith}
use Rattle.std.proofs.lemmas.Option.{get_or_from_slice_get}
use Rattle.py_profile.proofs.Below.{names_more}
use Rattle.py_profile.proofs.Listed.{no_name}
use Rattle.py_profile.proofs.names.listed.Goals as goal

pub loop-i-preserved : goal.loop-i-preserved
loop-i-preserved c = rw (c.in_ok-push.ensures {u = tt}).items (names_more _ c.loop-i.names.items _ c.loop-i.i c.names_get.result no_name c.loop-i.invariant.0 c.names_get.ensures.below c.loop-i.invariant.1 (omega (arith, c.names_len-i-end.ensures)) (get_or_from_slice_get _ c.loop-i.i c.names_get.result no_name c.names_get.ensures.name))
