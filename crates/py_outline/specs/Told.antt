-- Of several faults the one with the smallest line is told.
use Rattle.std.specs.Prelude.{ℕ, nat_lt, ◌||◌, List, [], ◌∷◌, ◌++◌, Option, Some, None}
use Rattle.spec_syntax.specs.Placement.{fault_if, smaller}
use Rattle.py_outline.specs.declared.outline.Outline.{Outline}
use Rattle.py_outline.specs.Orders.{header_of, goes_on, order_faults}
use Rattle.py_outline.specs.Surroundings.{place_faults}

-- the smaller one of two lines, where there are two
abbrev pub least : Option ℕ → Option ℕ → Option ℕ
least None b = b
least (Some n) b = smaller n b

-- a first line stands in no block, and goes on with nothing
abbrev pub first_faults : List Outline → List ℕ
first_faults [] = []
first_faults (o ∷ os) = fault_if (nat_lt 0 o.depth || goes_on (header_of o.form)) o.line

-- all faults that outlines show
abbrev pub outline_faults : List Outline → List ℕ
outline_faults os = first_faults os ++ (place_faults [] os ++ order_faults os)
