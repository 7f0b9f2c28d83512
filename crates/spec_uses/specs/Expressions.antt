-- The uses of names in expressions that are not admitted.
use Rattle.std.specs.Prelude.{ℕ, suc, Bool, true, false, not, ◌&&◌, ◌||◌, ◌==◌, List, [], ◌∷◌, ◌++◌, length, nat_le, Option, Some, None, if◌then◌else◌}
use Rattle.std.specs.List.{list_any}
use Rattle.spec_trees.specs.Expr as tree
use Rattle.spec_trees.specs.Expr.{Expr, Generator, Arguments, ArgumentList, Bound, Links, Exprs, Pairs}
use Rattle.spec_contracts.specs.ContractLines.{is_among}
use Rattle.spec_names.specs.declared.builtins.Builtin.{Builtin}
use Rattle.spec_names.specs.declared.builtins.Builtin.TheVariants as builtin
use Rattle.spec_names.specs.declared.ProfileFault.{ProfileFault}
use Rattle.spec_names.specs.declared.ProfileFault.TheVariants.{UnknownName, Duplicate, Form}
use Rattle.spec_names.specs.declared.Refusal.{Refusal}
use Rattle.spec_names.specs.Refusals.{refused_if}
use Rattle.spec_names.specs.Names.{is_private}
use Rattle.spec_names.specs.Members.{bare}
use Rattle.spec_names.specs.Defined.{are_repeated}
use Rattle.spec_uses.specs.declared.Meaning.{Meaning}
use Rattle.spec_uses.specs.declared.Meaning.TheVariants as meaning
use Rattle.spec_uses.specs.declared.Place.{Place}
use Rattle.spec_uses.specs.declared.Place.TheVariants.{Called, Read, Walked}
use Rattle.spec_uses.specs.Meanings.{Scope, with_locals}

abbrev pub refused : ℕ → ProfileFault → List Refusal
refused n f = refused_if true n f

-- ---- names

-- A name that is read on the line n. Functions, classes, built-in functions, exception classes and imported names are not
-- read, nor is `__old__` alone.
abbrev pub read_as : Meaning → ℕ → List ℕ → List Refusal
read_as meaning.Local n x = refused_if (is_private x) n Form
read_as meaning.Constant n x = refused_if (is_private x) n Form
read_as meaning.Result n x = []
read_as meaning.Unknown n x = refused n UnknownName
read_as m n x = refused n Form

-- A name on the line m that is called on the line n.
abbrev pub called_as : Meaning → ℕ → ℕ → List ℕ → List Refusal
called_as meaning.Function n m x = refused_if (is_private x) m Form
called_as meaning.Class n m x = refused_if (is_private x) m Form
called_as (meaning.BuiltIn b) n m x = []
called_as meaning.Unknown n m x = refused m UnknownName
called_as meaning.Local n m x = refused n Form
called_as meaning.Result n m x = refused n Form
called_as meaning.Constant n m x = refused n Form
called_as meaning.Old n m x = refused m Form
called_as meaning.Imported n m x = refused m Form
called_as meaning.Exception n m x = refused m Form

-- a class name that a statement on the line n raises or catches
abbrev pub raised_as : Meaning → ℕ → List Refusal
raised_as meaning.Exception n = []
raised_as meaning.Unknown n = refused n UnknownName
raised_as m n = refused n Form

-- ---- what an expression stands for, where it is a name, perhaps in brackets

abbrev pub stands_for : Scope → Expr → Option Meaning
stands_for s e = by_name (bare e)
  where
    by_name : Expr → Option Meaning
    by_name (tree.name n x) = Some (s.meaning x)
    by_name e = None

abbrev pub is_old : Option Meaning → Bool
is_old (Some meaning.Old) = true
is_old o = false

-- the built-in function that is called
abbrev pub builtin_in : Option Meaning → Option Builtin
builtin_in (Some (meaning.BuiltIn b)) = Some b
builtin_in o = None

abbrev pub is_range : Option Builtin → Bool
is_range (Some builtin.Range) = true
is_range o = false

abbrev pub is_isinstance : Option Builtin → Bool
is_isinstance (Some builtin.IsInstance) = true
is_isinstance o = false

-- the functions that walk over their sole argument
abbrev pub is_walk : Option Builtin → Bool
is_walk (Some builtin.List) = true
is_walk (Some builtin.Sum) = true
is_walk (Some builtin.Min) = true
is_walk (Some builtin.Max) = true
is_walk (Some builtin.Any) = true
is_walk (Some builtin.All) = true
is_walk o = false

-- what may stand as the class in `isinstance`
abbrev pub is_class : Option Meaning → Bool
is_class (Some meaning.Class) = true
is_class (Some (meaning.BuiltIn builtin.Int)) = true
is_class (Some (meaning.BuiltIn builtin.Bool)) = true
is_class (Some (meaning.BuiltIn builtin.Str)) = true
is_class (Some (meaning.BuiltIn builtin.List)) = true
is_class (Some (meaning.BuiltIn builtin.Dict)) = true
is_class o = false

-- ---- arguments

-- the names of keyword arguments
abbrev pub keywords : ArgumentList → List (List ℕ)
keywords tree.no_arguments = []
keywords (tree.argument None e xs) = keywords xs
keywords (tree.argument (Some x) e xs) = x ∷ keywords xs

abbrev pub count : ArgumentList → ℕ
count tree.no_arguments = 0
count (tree.argument k e xs) = suc (count xs)

-- whether a built-in function takes so many arguments
abbrev pub takes : Builtin → ℕ → Bool
takes builtin.Abs n = n == 1
takes builtin.All n = n == 1
takes builtin.Any n = n == 1
takes builtin.Bool n = nat_le n 1
takes builtin.Chr n = n == 1
takes builtin.Dict n = nat_le n 1
takes builtin.Int n = nat_le n 1
takes builtin.IsInstance n = n == 2
takes builtin.Len n = n == 1
takes builtin.List n = nat_le n 1
takes builtin.Max n = nat_le 1 n
takes builtin.Min n = nat_le 1 n
takes builtin.Ord n = n == 1
takes builtin.Range n = nat_le 1 n && nat_le n 3
takes builtin.Str n = nat_le n 1
takes builtin.Sum n = n == 1

-- a built-in function with keywords, or with a number of arguments that it does not take
abbrev pub is_misused : Option Builtin → ArgumentList → Bool
is_misused None xs = false
is_misused (Some b) xs = not (length (keywords xs) == 0) || not (takes b (count xs))

-- ---- expressions

abbrev pub is_walked : Place → Bool
is_walked Walked = true
is_walked p = false

abbrev pub is_called : Place → Bool
is_called (Called n) = true
is_called p = false

-- what is called is a name, or a method of what stands before its name
abbrev pub unless_called : Place → List Refusal
unless_called (Called n) = refused n Form
unless_called p = []

abbrev pub name_in : Place → Meaning → ℕ → List ℕ → List Refusal
name_in (Called n) k m x = called_as k n m x
name_in p k m x = read_as k m x

abbrev mutual
  -- an expression in its place
  pub uses : Place → Scope → Expr → List Refusal
  uses p s (tree.name n x) = name_in p (s.meaning x) n x
  uses p s (tree.integer n v) = unless_called p
  uses p s (tree.text n t ts) = unless_called p
  uses p s (tree.truth n b) = unless_called p
  uses p s (tree.none n) = unless_called p
  uses p s (tree.group n e) = uses p s e
  uses p s (tree.list n es) = unless_called p ++ uses_in s es
  uses p s (tree.dict n ps) = unless_called p ++ uses_in_pairs s ps
  uses p s (tree.comprehension n g) = unless_called p ++ uses_in_generator s n g
  uses p s (tree.attribute n e x) =
      if is_old (stands_for s e) && not (is_called p) then refused_if (not (is_among s.olds x)) n UnknownName else (refused_if (is_private x) n Form ++ uses Read s e)
  uses p s (tree.call n f xs) =
      unless_called p ++ refused_if (is_range (builtin_in (stands_for s f)) && not (is_walked p)) n Form ++ uses (Called n) s f ++ uses_in_call s n (builtin_in (stands_for s f)) xs
  uses p s (tree.index n e i) = unless_called p ++ uses Read s e ++ uses Read s i
  uses p s (tree.slice n e a b) = unless_called p ++ uses Read s e ++ uses_in_bound s a ++ uses_in_bound s b
  uses p s (tree.prefixed n o e) = unless_called p ++ uses Read s e
  uses p s (tree.binary n o a b) = unless_called p ++ uses Read s a ++ uses Read s b
  uses p s (tree.chain n e ls) = unless_called p ++ uses Read s e ++ uses_in_links s ls
  uses p s (tree.choice n a c b) = unless_called p ++ uses Read s a ++ uses Read s c ++ uses Read s b

  -- the arguments of a call on the line n, perhaps of a built-in function
  pub uses_in_call : Scope → ℕ → Option Builtin → Arguments → List Refusal
  uses_in_call s n b (tree.generated g) = refused_if (not (is_walk b)) n Form ++ uses_in_generator s n g
  uses_in_call s n b (tree.listed xs) =
      refused_if (are_repeated [] (keywords xs)) n Duplicate
      ++ refused_if (list_any is_private (keywords xs)) n Form
      ++ refused_if (is_misused b xs) n Form
      ++ uses_in_arguments s n b xs

  -- The class of `isinstance` is a name of its own, and the sole argument of some functions is walked over.
  pub uses_in_arguments : Scope → ℕ → Option Builtin → ArgumentList → List Refusal
  uses_in_arguments s n b tree.no_arguments = []
  uses_in_arguments s n b (tree.argument k e tree.no_arguments) = uses (if is_walk b then Walked else Read) s e
  uses_in_arguments s n b (tree.argument k e (tree.argument l c xs)) =
      uses Read s e
      ++ (if is_isinstance b && is_class (stands_for s c) then [] else (refused_if (is_isinstance b) n Form ++ uses Read s c))
      ++ uses_in_rest s xs

  pub uses_in_rest : Scope → ArgumentList → List Refusal
  uses_in_rest s tree.no_arguments = []
  uses_in_rest s (tree.argument k e xs) = uses Read s e ++ uses_in_rest s xs

  -- A generator whose expression begins on the line n. Its variable is its own, and what it walks over stands outside.
  pub uses_in_generator : Scope → ℕ → Generator → List Refusal
  uses_in_generator s n (tree.generator e x i cs) =
      refused_if (is_private x) n Form ++ uses Walked s i ++ uses Read (with_locals (x ∷ []) s) e ++ uses_in (with_locals (x ∷ []) s) cs

  pub uses_in : Scope → Exprs → List Refusal
  uses_in s tree.no_exprs = []
  uses_in s (tree.item e es) = uses Read s e ++ uses_in s es

  pub uses_in_pairs : Scope → Pairs → List Refusal
  uses_in_pairs s tree.no_pairs = []
  uses_in_pairs s (tree.pair k v ps) = uses Read s k ++ uses Read s v ++ uses_in_pairs s ps

  pub uses_in_links : Scope → Links → List Refusal
  uses_in_links s tree.no_links = []
  uses_in_links s (tree.link o e ls) = uses Read s e ++ uses_in_links s ls

  pub uses_in_bound : Scope → Bound → List Refusal
  uses_in_bound s tree.absent = []
  uses_in_bound s (tree.present e) = uses Read s e
