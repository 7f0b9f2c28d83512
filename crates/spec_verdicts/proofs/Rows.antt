-- Rows of words and lines, computed.
use Rattle.std.proofs.Common.{◌≡◌, ℕ, List, true, false, [], ◌∷◌, Some, None, refl, pos, negsuc}
use Rattle.std.specs.Prelude.{codes}
use Rattle.std.specs.Fmt.{digits}
use Rattle.spec_first_trees.specs.declared.LimitKind.TheVariants.{Steps, Depth, Int, Profile}
use Rattle.spec_first_trees.specs.declared.ExcClass.TheVariants.{ArithmeticError, ZeroDivisionError, LookupError}
use Rattle.spec_first_trees.specs.declared.CompareOp.TheVariants.{Greater}
use Rattle.spec_first_trees.specs.Expr.{Expr, name, integer, compare}
use Rattle.spec_first_trees.specs.Bounds.{Bounds, standard}
use Rattle.spec_first_trees.specs.Program.{Integer, Parameter, Function, Raises, Post, Return}
use Rattle.spec_running.specs.declared.Value.TheVariants as value
use Rattle.spec_running.specs.Running.{eval, exec, call}
use Rattle.spec_calls.specs.Calls.{Number, calls}
use Rattle.spec_calls.specs.Printing.{printed}
use Rattle.spec_verdicts.specs.Judging.{judged}
use Rattle.spec_verdicts.specs.Breaking.{WasFalse, RaisedInBody, raise_fault, broken, limited, is_unmet}
use Rattle.spec_verdicts.specs.Verdicts.{Error, NotConfirmed, Unmet, Confirmed, verdict, verdict_over}
use Rattle.spec_verdicts.specs.Lines.{info_line, verdict_line}
use Rattle.spec_verdicts.specs.Settings.{settings}

-- ---- the words

no_option : settings (codes "check" ∷ codes "m.py" ∷ []) ≡ Some (record { bounds = standard; report_all = false; targets = codes "m.py" ∷ [] })
unfolding settings
no_option = refl

option_before : settings (codes "check" ∷ codes "--report_all" ∷ codes "m.py" ∷ []) ≡ Some (record { bounds = standard; report_all = true; targets = codes "m.py" ∷ [] })
unfolding settings
option_before = refl

option_after : settings (codes "check" ∷ codes "m.py" ∷ codes "--report_all" ∷ []) ≡ Some (record { bounds = standard; report_all = true; targets = codes "m.py" ∷ [] })
unfolding settings
option_after = refl

option_alone : settings (codes "check" ∷ codes "--report_all" ∷ []) ≡ None
unfolding settings
option_alone = refl

option_twice : settings (codes "check" ∷ codes "--report_all" ∷ codes "--report_all" ∷ []) ≡ None
unfolding settings
option_twice = refl

option_around : settings (codes "check" ∷ codes "--report_all" ∷ codes "m.py" ∷ codes "--report_all" ∷ []) ≡ None
unfolding settings
option_around = refl

option_with_value : settings (codes "check" ∷ codes "--report_all=1" ∷ codes "m.py" ∷ []) ≡ None
unfolding settings
option_with_value = refl

-- ---- the lines

abbrev inc : Function
inc = record { name = codes "inc"; parameters = record { name = codes "x"; type = Integer } ∷ []; preconditions = []; conditions = []; body = [] }

confirmed_row : verdict_line true (codes "m.py") 2 inc Confirmed ≡ codes "m.py:2: info: Confirmed over all paths.\n"
unfolding info_line digits
confirmed_row = refl

unmet_row : verdict_line true (codes "m.py") 2 inc Unmet ≡ codes "m.py:2: info: Unable to meet precondition.\n"
unfolding info_line digits
unmet_row = refl

steps_row : verdict_line true (codes "m.py") 2 inc (NotConfirmed (Number (pos 0) ∷ []) Steps) ≡ codes "m.py:2: info: Not confirmed. (steps limit when calling inc(x = 0))\n"
unfolding info_line printed digits
steps_row = refl

depth_row : verdict_line true (codes "m.py") 12 inc (NotConfirmed (Number (negsuc 0) ∷ []) Depth) ≡ codes "m.py:12: info: Not confirmed. (depth limit when calling inc(x = -1))\n"
unfolding info_line printed digits
depth_row = refl

int_row : verdict_line true (codes "m.py") 2 inc (NotConfirmed (Number (pos 7) ∷ []) Int) ≡ codes "m.py:2: info: Not confirmed. (int limit when calling inc(x = 7))\n"
unfolding info_line printed digits
int_row = refl

profile_row : verdict_line true (codes "m.py") 2 inc (NotConfirmed (Number (pos 0) ∷ []) Profile) ≡ codes "m.py:2: info: Not confirmed. (profile limit when calling inc(x = 0))\n"
unfolding info_line printed digits
profile_row = refl

errors_alone_row : verdict_line false (codes "m.py") 2 inc Confirmed ≡ []
errors_alone_row = refl

errors_alone_limit_row : verdict_line false (codes "m.py") 2 inc (NotConfirmed (Number (pos 0) ∷ []) Steps) ≡ []
errors_alone_limit_row = refl

-- ---- calls

abbrev integer_named : List ℕ → Parameter
integer_named x = record { name = x; type = Integer }

abbrev three : Function
three = record inc { name = codes "add"; parameters = integer_named (codes "x") ∷ integer_named (codes "y") ∷ integer_named (codes "z") ∷ [] }

three_arguments : printed three (Number (pos 0) ∷ Number (negsuc 0) ∷ Number (pos 1) ∷ []) ≡ codes "add(x = 0, y = -1, z = 1)"
unfolding printed digits
three_arguments = refl

-- ---- what is permitted

classes_below_are_permitted : raise_fault (ArithmeticError ∷ []) ZeroDivisionError ≡ None
classes_below_are_permitted = refl

others_are_not : raise_fault (LookupError ∷ []) ZeroDivisionError ≡ Some (RaisedInBody ZeroDivisionError)
others_are_not = refl

nothing_is_permitted_by_itself : raise_fault [] ZeroDivisionError ≡ Some (RaisedInBody ZeroDivisionError)
nothing_is_permitted_by_itself = refl

-- ---- verdicts over the integers of one bit, which are 0 and -1

abbrev one_bit : Bounds
one_bit = record standard { int_bits = 1 }

abbrev x : Expr
x = name (codes "x")

-- its precondition is met by no call
abbrev large : Function
large = record inc { preconditions = compare Greater x (integer 200) ∷ []; body = record { number = 0; statement = Return x } ∷ [] }

unmet_everywhere : verdict large (Raises 1 []) one_bit ≡ Unmet
unfolding verdict verdict_over calls broken limited is_unmet judged eval exec call
unmet_everywhere = refl

-- without it the post line is false in the first call
abbrev identity : Function
identity = record large { preconditions = [] }

false_at_once : verdict identity (Post 2 (compare Greater x (integer 0))) one_bit ≡ Error (Number (pos 0) ∷ []) (WasFalse (value.Int (pos 0)))
unfolding verdict verdict_over calls broken limited is_unmet judged eval exec call
false_at_once = refl

nothing_is_raised : verdict identity (Raises 1 []) one_bit ≡ Confirmed
unfolding verdict verdict_over calls broken limited is_unmet judged eval exec call
nothing_is_raised = refl
