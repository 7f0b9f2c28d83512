-- What the operations on two digits mean.
use Rattle.std.specs.Prelude.{Bool, ◌&&◌, ◌||◌}
use Rattle.bit_ints.specs.declared.lists.Operation.{Operation}
use Rattle.bit_ints.specs.declared.lists.Operation.TheVariants as operation
use Rattle.bit_ints.specs.Integers.{xor}

-- the truth value of an operation on two digits
abbrev pub meaning : Operation → Bool → Bool → Bool
meaning operation.And a b = a && b
meaning operation.Or a b = a || b
meaning operation.Xor a b = xor a b
