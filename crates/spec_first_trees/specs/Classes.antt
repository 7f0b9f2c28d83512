-- Exception classes: their names, and which stands below which (Python 3.12 library reference, "Exception hierarchy").
use Rattle.std.specs.Prelude.{ℕ, Bool, true, false, List, [], ◌∷◌, Option, Some, None, if◌then◌else◌}
use Rattle.std.specs.List.{list_any}
use Rattle.std.specs.Str.{bytes_eq}
use Rattle.spec_first_trees.specs.declared.ExcClass.{ExcClass}
use Rattle.spec_first_trees.specs.declared.ExcClass.TheVariants.{Exception, ArithmeticError, ZeroDivisionError, LookupError, IndexError, KeyError, ValueError, TypeError, AttributeError, NameError, UnboundLocalError, AssertionError, RuntimeError, NotImplementedError}
use Rattle.spec_first_trees.specs.declared.TheConstants.{CLASS_NAMES}

-- the value of the first of these that has the name
abbrev pub first_named : {X Y : Type 0} → (X → List ℕ) → (X → Y) → List X → List ℕ → Option Y
first_named name_of value_of [] x = None
first_named name_of value_of (k ∷ ks) x = if bytes_eq (name_of k) x then Some (value_of k) else first_named name_of value_of ks x

-- the class of a name
abbrev pub class_named : List ℕ → Option ExcClass
class_named x = first_named (λ k. k.0.now) (λ k. k.1) CLASS_NAMES x

-- whether a class is the first one, or stands below it
abbrev pub within : ExcClass → ExcClass → Bool
within Exception c = true
within ArithmeticError ArithmeticError = true
within ArithmeticError ZeroDivisionError = true
within ZeroDivisionError ZeroDivisionError = true
within LookupError LookupError = true
within LookupError IndexError = true
within LookupError KeyError = true
within IndexError IndexError = true
within KeyError KeyError = true
within ValueError ValueError = true
within TypeError TypeError = true
within AttributeError AttributeError = true
within NameError NameError = true
within NameError UnboundLocalError = true
within UnboundLocalError UnboundLocalError = true
within AssertionError AssertionError = true
within RuntimeError RuntimeError = true
within RuntimeError NotImplementedError = true
within NotImplementedError NotImplementedError = true
within k c = false

-- whether one of these classes permits a class
abbrev pub is_permitted : List ExcClass → ExcClass → Bool
is_permitted ks c = list_any (λ k. within k c) ks
