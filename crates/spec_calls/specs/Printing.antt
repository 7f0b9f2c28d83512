-- How calls and values are printed.
use Rattle.std.specs.Prelude.{ℕ, List, [], ◌∷◌, ◌++◌, codes, if◌then◌else◌}
use Rattle.std.specs.Fmt.{signed_decimal}
use Rattle.spec_first_trees.specs.Program.{Parameter, Function}
use Rattle.spec_running.specs.declared.Value.{Value}
use Rattle.spec_running.specs.declared.Value.TheVariants.{Nil, Bool as Truth, Int}
use Rattle.spec_calls.specs.Calls.{Argument, Number, Call}

-- a value as it is shown
abbrev pub shown : Value → List ℕ
shown Nil = codes "None"
shown (Truth b) = if b then codes "True" else codes "False"
shown (Int z) = signed_decimal z

abbrev pub argument_text : Argument → List ℕ
argument_text (Number z) = signed_decimal z

abbrev pub named : List ℕ → Argument → List ℕ
named name a = name ++ codes " = " ++ argument_text a

-- `, P2 = A2, P3 = A3`
abbrev pub more_text : List Parameter → Call → List ℕ
more_text [] c = []
more_text (p ∷ ps) [] = []
more_text (p ∷ ps) (a ∷ c) = codes ", " ++ named p.name a ++ more_text ps c

-- `P1 = A1, P2 = A2, P3 = A3`
abbrev pub arguments_text : List Parameter → Call → List ℕ
arguments_text [] c = []
arguments_text (p ∷ ps) [] = []
arguments_text (p ∷ ps) (a ∷ c) = named p.name a ++ more_text ps c

-- a call is printed as `NAME(P1 = A1, P2 = A2)`
unfoldable pub printed : Function → Call → List ℕ
printed f c = f.name ++ codes "(" ++ arguments_text f.parameters c ++ codes ")"
