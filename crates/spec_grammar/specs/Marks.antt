-- What single words mean to the grammar. The tables are here, and nowhere else.
use Rattle.std.specs.Prelude.{◌≡◌, ℕ, ◌≤◌, Bool, true, false, List, [], ◌∷◌, Option, Some, None, ◌==◌, nat_lt, if◌then◌else◌}
use Rattle.spec_trees.specs.declared.Operator.{Operator}
use Rattle.spec_trees.specs.declared.Operator.TheVariants as operator
use Rattle.spec_trees.specs.declared.Prefix.{Prefix}
use Rattle.spec_trees.specs.declared.Prefix.TheVariants as prefix
use Rattle.spec_grammar.specs.declared.Mark.{Mark}
use Rattle.spec_grammar.specs.declared.Mark.TheVariants as mark
use Rattle.spec_grammar.specs.Words.{Word, Name, Int, Str, Sign}

-- the number of a mark, by which marks are told apart
abbrev pub code_of : Mark → ℕ
code_of mark.Plus = 0
code_of mark.Minus = 1
code_of mark.Star = 2
code_of mark.DoubleSlash = 3
code_of mark.Percent = 4
code_of mark.Ampersand = 5
code_of mark.Bar = 6
code_of mark.Caret = 7
code_of mark.Tilde = 8
code_of mark.ShiftLeft = 9
code_of mark.ShiftRight = 10
code_of mark.Less = 11
code_of mark.Greater = 12
code_of mark.LessEqual = 13
code_of mark.GreaterEqual = 14
code_of mark.Equal = 15
code_of mark.NotEqual = 16
code_of mark.OpenParen = 17
code_of mark.CloseParen = 18
code_of mark.OpenBracket = 19
code_of mark.CloseBracket = 20
code_of mark.OpenBrace = 21
code_of mark.CloseBrace = 22
code_of mark.Comma = 23
code_of mark.Colon = 24
code_of mark.Dot = 25
code_of mark.Assign = 26
code_of mark.Arrow = 27
code_of mark.PlusAssign = 28
code_of mark.MinusAssign = 29
code_of mark.StarAssign = 30
code_of mark.DoubleSlashAssign = 31
code_of mark.PercentAssign = 32
code_of mark.AmpersandAssign = 33
code_of mark.BarAssign = 34
code_of mark.CaretAssign = 35
code_of mark.ShiftLeftAssign = 36
code_of mark.ShiftRightAssign = 37
code_of mark.True = 38
code_of mark.False = 39
code_of mark.None = 40
code_of mark.And = 41
code_of mark.Assert = 42
code_of mark.Break = 43
code_of mark.Class = 44
code_of mark.Continue = 45
code_of mark.Def = 46
code_of mark.Del = 47
code_of mark.Elif = 48
code_of mark.Else = 49
code_of mark.Except = 50
code_of mark.For = 51
code_of mark.From = 52
code_of mark.If = 53
code_of mark.Import = 54
code_of mark.In = 55
code_of mark.Is = 56
code_of mark.Not = 57
code_of mark.Or = 58
code_of mark.Pass = 59
code_of mark.Raise = 60
code_of mark.Return = 61
code_of mark.Try = 62
code_of mark.While = 63
code_of mark.Reserved = 64

-- what follows the mark, where words begin with it
abbrev pub sign_at : Mark → List Word → Option (List Word)
sign_at m [] = None
sign_at m (Name n x ∷ s) = None
sign_at m (Int n v ∷ s) = None
sign_at m (Str p ∷ s) = None
sign_at m (Sign n k ∷ s) = if code_of m == code_of k then Some s else None

-- ---- operators between operands

-- The levels of forms, from the tightest: 0 unary, 1 `*` and its kin, 2 sums, 3 shifts, 4 `&`, 5 `^`, 6 `|`, 7 comparisons,
-- 8 `not`, 9 `and`, 10 `or`. An operator of level l joins forms of level l to a form of level l + 1.
abbrev pub level_of : Operator → ℕ
level_of operator.Multiply = 0
level_of operator.FloorDivide = 0
level_of operator.Modulo = 0
level_of operator.Add = 1
level_of operator.Subtract = 1
level_of operator.ShiftLeft = 2
level_of operator.ShiftRight = 2
level_of operator.BitAnd = 3
level_of operator.BitXor = 4
level_of operator.BitOr = 5
level_of operator.Equal = 6
level_of operator.NotEqual = 6
level_of operator.Less = 6
level_of operator.LessEqual = 6
level_of operator.Greater = 6
level_of operator.GreaterEqual = 6
level_of operator.In = 6
level_of operator.NotIn = 6
level_of operator.Is = 6
level_of operator.IsNot = 6
level_of operator.And = 8
level_of operator.Or = 9

-- the operators of these levels group from the left, and those of the others make one node of a chain
abbrev pub groups_left : ℕ → Bool
groups_left l = nat_lt l 6

-- an operator of two words: the text behind its second word, where that is there
abbrev pub two_words : Operator → Option (List Word) → Option (Operator × List Word) → Option (Operator × List Word)
two_words o (Some t) other = Some (o, t)
two_words o None other = other

-- the operator that a mark begins, and what follows it, where s follows the mark
abbrev pub operator_of : Mark → List Word → Option (Operator × List Word)
operator_of mark.Star s = Some (operator.Multiply, s)
operator_of mark.DoubleSlash s = Some (operator.FloorDivide, s)
operator_of mark.Percent s = Some (operator.Modulo, s)
operator_of mark.Plus s = Some (operator.Add, s)
operator_of mark.Minus s = Some (operator.Subtract, s)
operator_of mark.ShiftLeft s = Some (operator.ShiftLeft, s)
operator_of mark.ShiftRight s = Some (operator.ShiftRight, s)
operator_of mark.Ampersand s = Some (operator.BitAnd, s)
operator_of mark.Caret s = Some (operator.BitXor, s)
operator_of mark.Bar s = Some (operator.BitOr, s)
operator_of mark.Equal s = Some (operator.Equal, s)
operator_of mark.NotEqual s = Some (operator.NotEqual, s)
operator_of mark.Less s = Some (operator.Less, s)
operator_of mark.LessEqual s = Some (operator.LessEqual, s)
operator_of mark.Greater s = Some (operator.Greater, s)
operator_of mark.GreaterEqual s = Some (operator.GreaterEqual, s)
operator_of mark.In s = Some (operator.In, s)
operator_of mark.Not s = two_words operator.NotIn (sign_at mark.In s) None
operator_of mark.Is s = two_words operator.IsNot (sign_at mark.Not s) (Some (operator.Is, s))
operator_of mark.And s = Some (operator.And, s)
operator_of mark.Or s = Some (operator.Or, s)
operator_of _ s = None

abbrev pub first_operator : List Word → Option (Operator × List Word)
first_operator [] = None
first_operator (Name n x ∷ s) = None
first_operator (Int n v ∷ s) = None
first_operator (Str p ∷ s) = None
first_operator (Sign n m ∷ s) = operator_of m s

abbrev pub of_level : ℕ → Option (Operator × List Word) → Option (Operator × List Word)
of_level l None = None
of_level l (Some x) = if level_of x.0 == l then Some x else None

-- the operator of the level that words begin with, and what follows it
abbrev pub operator_at : ℕ → List Word → Option (Operator × List Word)
operator_at l s = of_level l (first_operator s)

-- ---- operators before an operand

abbrev pub prefix_level : Prefix → ℕ
prefix_level prefix.Plus = 0
prefix_level prefix.Minus = 0
prefix_level prefix.Invert = 0
prefix_level prefix.Not = 8

abbrev pub prefix_of : Mark → Option Prefix
prefix_of mark.Plus = Some prefix.Plus
prefix_of mark.Minus = Some prefix.Minus
prefix_of mark.Tilde = Some prefix.Invert
prefix_of mark.Not = Some prefix.Not
prefix_of _ = None

abbrev pub prefix_if : ℕ → Option Prefix → List Word → Option (Prefix × List Word)
prefix_if l None s = None
prefix_if l (Some o) s = if prefix_level o == l then Some (o, s) else None

-- the prefix of the level that words begin with, and what follows it
abbrev pub prefix_at : ℕ → List Word → Option (Prefix × List Word)
prefix_at l [] = None
prefix_at l (Name n x ∷ s) = None
prefix_at l (Int n v ∷ s) = None
prefix_at l (Str p ∷ s) = None
prefix_at l (Sign n m ∷ s) = prefix_if l (prefix_of m) s

-- ---- augmented assignments

abbrev pub augmented_of : Mark → Option Operator
augmented_of mark.PlusAssign = Some operator.Add
augmented_of mark.MinusAssign = Some operator.Subtract
augmented_of mark.StarAssign = Some operator.Multiply
augmented_of mark.DoubleSlashAssign = Some operator.FloorDivide
augmented_of mark.PercentAssign = Some operator.Modulo
augmented_of mark.AmpersandAssign = Some operator.BitAnd
augmented_of mark.BarAssign = Some operator.BitOr
augmented_of mark.CaretAssign = Some operator.BitXor
augmented_of mark.ShiftLeftAssign = Some operator.ShiftLeft
augmented_of mark.ShiftRightAssign = Some operator.ShiftRight
augmented_of _ = None

abbrev pub before : Option Operator → List Word → Option (Operator × List Word)
before None s = None
before (Some o) s = Some (o, s)

-- the operator of the augmented assignment that words begin with, and what follows its sign
abbrev pub augmented_at : List Word → Option (Operator × List Word)
augmented_at [] = None
augmented_at (Name n x ∷ s) = None
augmented_at (Int n v ∷ s) = None
augmented_at (Str p ∷ s) = None
augmented_at (Sign n m ∷ s) = before (augmented_of m) s

-- ---- names

-- the name that words begin with, and what follows it
abbrev pub name_at : List Word → Option (List ℕ × List Word)
name_at [] = None
name_at (Name n x ∷ s) = Some (x, s)
name_at (Int n v ∷ s) = None
name_at (Str p ∷ s) = None
name_at (Sign n m ∷ s) = None

abbrev pub named_at : List ℕ → Option (List Word) → Option (List ℕ × List Word)
named_at x None = None
named_at x (Some s) = Some (x, s)

-- the name before `=` that words begin with, and what follows the `=`
abbrev pub keyword_at : List Word → Option (List ℕ × List Word)
keyword_at [] = None
keyword_at (Name n x ∷ s) = named_at x (sign_at mark.Assign s)
keyword_at (Int n v ∷ s) = None
keyword_at (Str p ∷ s) = None
keyword_at (Sign n m ∷ s) = None

-- ---- where forms end and begin

-- signs that go on with a prim
abbrev pub goes_on : Mark → Bool
goes_on mark.OpenParen = true
goes_on mark.OpenBracket = true
goes_on mark.Dot = true
goes_on _ = false

-- A string goes on with the string before it.
abbrev pub is_suffix : List Word → Bool
is_suffix [] = false
is_suffix (Name n x ∷ s) = false
is_suffix (Int n v ∷ s) = false
is_suffix (Str p ∷ s) = true
is_suffix (Sign n m ∷ s) = goes_on m

abbrev pub StopsAt : ℕ → Option (Operator × List Word) → Bool → Type 0
StopsAt l (Some x) b = l ≤ level_of x.0
StopsAt l None b = b ≡ false

-- nothing at the front of the words goes on with a form of the level
abbrev pub Stops : ℕ → List Word → Type 0
Stops l s = StopsAt l (first_operator s) (is_suffix s)

-- signs that may begin an expression
abbrev pub may_begin : Mark → Bool
may_begin mark.Plus = true
may_begin mark.Minus = true
may_begin mark.Tilde = true
may_begin mark.Not = true
may_begin mark.OpenParen = true
may_begin mark.OpenBracket = true
may_begin mark.OpenBrace = true
may_begin mark.True = true
may_begin mark.False = true
may_begin mark.None = true
may_begin _ = false
