-- What names stand for in annotations.
use Rattle.std.specs.Prelude.{ℕ, List, codes, Option, Some, None, if◌then◌else◌}
use Rattle.std.specs.Str.{bytes_eq}
use Rattle.spec_trees.specs.Module.{Block}
use Rattle.spec_uses.specs.declared.Meaning.{Meaning}
use Rattle.spec_uses.specs.declared.Meaning.TheVariants as meaning
use Rattle.spec_uses.specs.Meanings.{meaning_in}
use Rattle.spec_types.specs.declared.TypeName.{TypeName}
use Rattle.spec_types.specs.declared.TypeName.TheVariants as name
use Rattle.spec_types.specs.Classes.{class_number}

-- the names of `typing` that make types
abbrev pub imported_type : List ℕ → TypeName
imported_type x =
    if bytes_eq x (codes "List") then name.List
    else if bytes_eq x (codes "Dict") then name.Dict
    else if bytes_eq x (codes "Optional") then name.Optional
    else name.Unknown

abbrev pub class_name : Option ℕ → TypeName
class_name None = name.Unknown
class_name (Some k) = name.Class k

-- a name with this meaning in the module, which defines classes of these numbers
abbrev pub meant_type : (List ℕ → Option ℕ) → Meaning → List ℕ → TypeName
meant_type number meaning.Imported x = imported_type x
meant_type number meaning.Class x = class_name (number x)
meant_type number m x = name.Unknown

-- Built-in types come first.
abbrev pub type_name : Block → List ℕ → TypeName
type_name b x =
    if bytes_eq x (codes "int") then name.Int
    else if bytes_eq x (codes "bool") then name.Bool
    else if bytes_eq x (codes "str") then name.Str
    else if bytes_eq x (codes "list") then name.List
    else if bytes_eq x (codes "dict") then name.Dict
    else meant_type (class_number b) (meaning_in b x) x
