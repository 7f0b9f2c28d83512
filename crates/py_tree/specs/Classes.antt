-- Which exception classes stand below others.
use Rattle.std.specs.Prelude.{◌≡◌, ◌⊎◌}
use Rattle.py_tree.specs.declared.classes.ExcClass.{ExcClass}
use Rattle.py_tree.specs.declared.classes.ExcClass.TheVariants as class

-- c is the class or stands below it; Exception is above all
abbrev pub IsWithin : ExcClass → ExcClass → Type 0
IsWithin c class.Exception = Unit {0}
IsWithin c class.ArithmeticError = (c ≡ class.ArithmeticError) ⊎ (c ≡ class.ZeroDivisionError)
IsWithin c class.LookupError = (c ≡ class.LookupError) ⊎ (c ≡ class.IndexError) ⊎ (c ≡ class.KeyError)
IsWithin c class.NameError = (c ≡ class.NameError) ⊎ (c ≡ class.UnboundLocalError)
IsWithin c class.RuntimeError = (c ≡ class.RuntimeError) ⊎ (c ≡ class.NotImplementedError)
IsWithin c class.ZeroDivisionError = c ≡ class.ZeroDivisionError
IsWithin c class.IndexError = c ≡ class.IndexError
IsWithin c class.KeyError = c ≡ class.KeyError
IsWithin c class.ValueError = c ≡ class.ValueError
IsWithin c class.TypeError = c ≡ class.TypeError
IsWithin c class.AttributeError = c ≡ class.AttributeError
IsWithin c class.UnboundLocalError = c ≡ class.UnboundLocalError
IsWithin c class.AssertionError = c ≡ class.AssertionError
IsWithin c class.NotImplementedError = c ≡ class.NotImplementedError
