-- Faults of lines in the blocks round them, as their outlines show them.
use Rattle.std.specs.Prelude.{ℕ, ◌-◌, Bool, true, false, not, ◌||◌, ◌&&◌, List, [], ◌∷◌, ◌++◌, length, drop}
use Rattle.spec_syntax.specs.Placement.{fault_if}
use Rattle.py_outline.specs.declared.outline.HeaderKind.{HeaderKind}
use Rattle.py_outline.specs.declared.outline.HeaderKind.TheVariants as head
use Rattle.py_outline.specs.declared.outline.SimpleKind.{SimpleKind}
use Rattle.py_outline.specs.declared.outline.SimpleKind.TheVariants as simple
use Rattle.py_outline.specs.declared.outline.Form.{Form}
use Rattle.py_outline.specs.declared.outline.Form.TheVariants as form
use Rattle.py_outline.specs.declared.outline.Outline.{Outline}
use Rattle.py_outline.specs.declared.surroundings.Place.{Place}
use Rattle.py_outline.specs.declared.surroundings.Place.TheVariants as place
use Rattle.py_outline.specs.declared.surroundings.Surroundings.{Surroundings}

-- the surroundings of lines in no block
abbrev pub of_module : Surroundings
of_module = record { in_function = false; in_loop = false; in_handler = false; place = place.Module }

abbrev pub is_def : HeaderKind → Bool
is_def head.Def = true
is_def _ = false

abbrev pub is_loop : HeaderKind → Bool
is_loop head.While = true
is_loop head.For = true
is_loop _ = false

abbrev pub is_handler : HeaderKind → Bool
is_handler head.Except = true
is_handler head.ExceptAll = true
is_handler _ = false

-- where a block stands, by its header and the place of the header
abbrev pub place_inside : HeaderKind → Place → Place
place_inside head.Class place.Module = place.Class
place_inside _ _ = place.Inner

-- the surroundings of lines in the block of a header; loops and handlers count within one function
abbrev pub inside : HeaderKind → Surroundings → Surroundings
inside h r = record {
  in_function = is_def h || r.in_function;
  in_loop = not (is_def h) && (is_loop h || r.in_loop);
  in_handler = not (is_def h) && (is_handler h || r.in_handler);
  place = place_inside h r.place;
}

abbrev pub is_module : Place → Bool
is_module place.Module = true
is_module _ = false

abbrev pub is_inner : Place → Bool
is_inner place.Inner = true
is_inner _ = false

-- whether a simple statement may stand there: `return` in a function, `break` and `continue` in a loop, `raise` alone in a handler, and imports in no block
abbrev pub allows_simple : Surroundings → SimpleKind → Bool
allows_simple r simple.Return = r.in_function
allows_simple r simple.Break = r.in_loop
allows_simple r simple.Continue = r.in_loop
allows_simple r simple.Reraise = r.in_handler
allows_simple r simple.Import = is_module r.place
allows_simple r simple.Other = true

-- whether a header may stand there: `class` in no block, and `def` in none or directly in a class that stands in none
abbrev pub allows_header : Surroundings → HeaderKind → Bool
allows_header r head.Class = is_module r.place
allows_header r head.Def = not (is_inner r.place)
allows_header r _ = true

-- whether a line may stand there
abbrev pub allows : Surroundings → Form → Bool
allows r (form.Simple x) = allows_simple r x
allows r (form.Header h) = allows_header r h
allows r (form.HeaderSimple h x) = allows_header r h && allows_simple (inside h r) x

-- the surroundings in the innermost open block
abbrev pub innermost : List Surroundings → Surroundings
innermost [] = of_module
innermost (r ∷ rs) = r

-- the surroundings in d blocks, of those that are open
abbrev pub outer : ℕ → List Surroundings → List Surroundings
outer d rs = drop (length rs - d) rs

-- the surroundings that are open behind a line
abbrev pub round_behind : List Surroundings → Form → List Surroundings
round_behind rs (form.Header h) = inside h (innermost rs) ∷ rs
round_behind rs _ = rs

-- all faults of lines in the blocks round them, where these are the surroundings in the open blocks, the innermost first
abbrev pub place_faults : List Surroundings → List Outline → List ℕ
place_faults rs [] = []
place_faults rs (o ∷ os) = fault_if (not (allows (innermost (outer o.depth rs)) o.form)) o.line ++ place_faults (round_behind (outer o.depth rs) o.form) os
