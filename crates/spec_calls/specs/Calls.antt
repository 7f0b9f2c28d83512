-- The calls of a function within the bounds, in their order.
use Rattle.std.specs.Prelude.{ℕ, zero, suc, ◌-◌, ◌^◌, ℤ, pos, negsuc, List, [], ◌∷◌, ◌++◌, map}
use Rattle.std.specs.List.{flat_map}
use Rattle.spec_first_trees.specs.Bounds.{Bounds}
use Rattle.spec_first_trees.specs.Program.{ParameterType, Integer, Parameter, Function}
use Rattle.spec_running.specs.declared.Value.{Value}
use Rattle.spec_running.specs.declared.Value.TheVariants.{Int}

-- an argument, as it is written in a call
pub data Argument : Type 0 where
  Number : ℤ → Argument

-- a call has one argument for each parameter
abbrev pub Call : Type 0
Call = List Argument

-- the numbers below n, in rising order
abbrev pub below : ℕ → List ℕ
below zero = []
below (suc n) = below n ++ n ∷ []

-- the integers of n bits in the order 0, -1, 1, -2, 2 and so on
abbrev pub integers : ℕ → List ℤ
integers bits = flat_map (λ m. pos m ∷ negsuc m ∷ []) (below (2 ^ (bits - 1)))

-- the arguments of a type, in their order
abbrev pub arguments : ParameterType → Bounds → List Argument
arguments Integer bounds = map (λ z. Number z) (integers bounds.int_bits)

-- All calls, the first argument counting most. Every place holds a scalar, so no call has a shape of its own.
abbrev pub choices : List Parameter → Bounds → List Call
choices [] bounds = [] ∷ []
choices (p ∷ ps) bounds = flat_map (λ a. map (λ rest. a ∷ rest) (choices ps bounds)) (arguments p.type bounds)

unfoldable pub calls : Function → Bounds → List Call
calls f bounds = choices f.parameters bounds

-- the value that is made for an argument, which takes no step
abbrev pub made : Argument → Value
made (Number z) = Int z
