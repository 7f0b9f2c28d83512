use Rattle.py_types.proofs.Later.{types_later}
use Rattle.py_types.proofs.nodes.add_named.Goals as goal

pub add-requires : goal.add-requires
add-requires c = record { parts = (c.in_ok-name.ensures.there, (types_later _ _ c.in_ok-name.ensures.grown c.requires.module _ c.requires.arguments).0) }
