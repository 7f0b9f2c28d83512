-- The bounds, as definitions speak of them.
use Rattle.spec_first_trees.specs.Bounds as spec
use Rattle.first_tree.specs.declared.bounds.Bounds.{Bounds}

abbrev pub bounds_of : Bounds → spec.Bounds
bounds_of b = record { int_bits = b.int_bits; max_len = b.max_len; char_bits = b.char_bits; max_nest = b.max_nest; max_steps = b.max_steps; max_depth = b.max_depth }
