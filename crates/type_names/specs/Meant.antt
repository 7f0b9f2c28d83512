-- What a name stands for in annotations, from its meaning and from the number of its class.
use Rattle.std.specs.Prelude.{ℕ, List, codes, Option, if◌then◌else◌}
use Rattle.std.specs.Str.{bytes_eq}
use Rattle.spec_uses.specs.declared.Meaning.{Meaning}
use Rattle.spec_types.specs.declared.TypeName.{TypeName}
use Rattle.spec_types.specs.declared.TypeName.TheVariants as name
use Rattle.spec_types.specs.Names.{meant_type}

abbrev pub type_meant : Meaning → Option ℕ → List ℕ → TypeName
type_meant m number x =
    if bytes_eq x (codes "int") then name.Int
    else if bytes_eq x (codes "bool") then name.Bool
    else if bytes_eq x (codes "str") then name.Str
    else if bytes_eq x (codes "list") then name.List
    else if bytes_eq x (codes "dict") then name.Dict
    else meant_type (λ _. number) m x
