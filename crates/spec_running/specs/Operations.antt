-- Operations on values (Python 3.12 language reference, "Binary arithmetic operations" and "Value comparisons").
use Rattle.std.specs.Prelude.{◌^◌, ℤ, pos, negsuc, ◌+ℤ◌, ◌-ℤ◌, ◌*ℤ◌, Bool, true, false, not, Option, Some, None, nat_lt, if◌then◌else◌, int_lt, int_le}
use Rattle.std.specs.Ordering.{int_eq}
use Rattle.spec_first_trees.specs.declared.BinaryOp.{BinaryOp}
use Rattle.spec_first_trees.specs.declared.BinaryOp.TheVariants.{Add, Subtract, Multiply}
use Rattle.spec_first_trees.specs.declared.CompareOp.{CompareOp}
use Rattle.spec_first_trees.specs.declared.CompareOp.TheVariants.{Equal, NotEqual, Less, LessEqual, Greater, GreaterEqual}
use Rattle.spec_first_trees.specs.declared.ExcClass.TheVariants.{TypeError}
use Rattle.spec_first_trees.specs.declared.LimitKind.TheVariants as limit
use Rattle.spec_running.specs.declared.Value.{Value}
use Rattle.spec_running.specs.declared.Value.TheVariants.{Nil, Bool as Truth, Int}
use Rattle.spec_running.specs.declared.Outcome.{Outcome}
use Rattle.spec_running.specs.declared.Outcome.TheVariants.{Returned, Raised, Limit}

-- the integer of an integer or a truth value; True is 1
abbrev pub number : Value → Option ℤ
number Nil = None
number (Truth b) = Some (if b then pos 1 else pos 0)
number (Int z) = Some z

-- None, False and 0 are false, and all else is true
abbrev pub truth : Value → Bool
truth Nil = false
truth (Truth b) = b
truth (Int z) = not (int_eq z (pos 0))

-- an integer has 128 bits
abbrev pub fits : ℤ → Bool
fits (pos n) = nat_lt n (2 ^ 127)
fits (negsuc n) = nat_lt n (2 ^ 127)

abbrev pub arithmetic : BinaryOp → ℤ → ℤ → ℤ
arithmetic Add a b = a +ℤ b
arithmetic Subtract a b = a -ℤ b
arithmetic Multiply a b = a *ℤ b

-- a computed integer that does not fit is a limit
abbrev pub computed : ℤ → Outcome
computed z = if fits z then Returned (Int z) else Limit limit.Int

-- f of both integers; other kinds raise TypeError
abbrev pub on_numbers : (ℤ → ℤ → Outcome) → Option ℤ → Option ℤ → Outcome
on_numbers f (Some a) (Some b) = f a b
on_numbers f (Some a) None = Raised TypeError
on_numbers f None b = Raised TypeError

abbrev pub calculated : BinaryOp → Value → Value → Outcome
calculated op v w = on_numbers (λ a b. computed (arithmetic op a b)) (number v) (number w)

abbrev pub equal_numbers : Option ℤ → Option ℤ → Bool
equal_numbers None None = true
equal_numbers None (Some b) = false
equal_numbers (Some a) None = false
equal_numbers (Some a) (Some b) = int_eq a b

-- `==` never raises: integers and truth values are compared as integers, and None is equal to itself alone
abbrev pub equal : Value → Value → Bool
equal v w = equal_numbers (number v) (number w)

abbrev pub answered : Bool → Outcome
answered b = Returned (Truth b)

abbrev pub compared : CompareOp → Value → Value → Outcome
compared Equal v w = answered (equal v w)
compared NotEqual v w = answered (not (equal v w))
compared Less v w = on_numbers (λ a b. answered (int_lt a b)) (number v) (number w)
compared LessEqual v w = on_numbers (λ a b. answered (int_le a b)) (number v) (number w)
compared Greater v w = on_numbers (λ a b. answered (int_lt b a)) (number v) (number w)
compared GreaterEqual v w = on_numbers (λ a b. answered (int_le b a)) (number v) (number w)
