-- What annotations that are read give parameters.
use Rattle.std.specs.Prelude.{List, map, Option, Some, None}
use Rattle.std.specs.Option.{option_and_then}
use Rattle.spec_trees.specs.Stmt.{Parameter}
use Rattle.spec_trees.specs.Module.{Block}
use Rattle.spec_types.specs.Names.{type_name}
use Rattle.spec_types.specs.Types.{type_in}
use Rattle.spec_types.specs.Signatures.{Given, missing, given_as}
use Rattle.read_annotations.specs.Reading.{Read, read}

-- the annotations of parameters, as they are read
abbrev pub annotations : List Parameter → List (Option Read)
annotations ps = map (λ (p : Parameter). read p.annotation) ps

abbrev pub given_from : Block → Option Read → Given
given_from b None = missing
given_from b (Some r) = given_as r.line (option_and_then (type_in (type_name b)) r.unquoted)
