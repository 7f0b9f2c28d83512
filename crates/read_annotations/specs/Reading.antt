-- Annotations as they are written, and as they are read.
use Rattle.std.specs.Prelude.{ℕ, List, length, map, Option, Some, None}
use Rattle.std.specs.Global.{Vec}
use Rattle.std.specs.List.{All}
use Rattle.std.specs.Option.{option_map}
use Rattle.spec_trees.specs.Stmt.{TypeExpr}
use Rattle.spec_types.specs.Quotes.{unquoted}
use Rattle.spec_types.specs.Types.{line_of_type}
use Rattle.py_tree.specs.declared.ids.TypeId.{TypeId}
use Rattle.py_tree.specs.Arena.{State, shown_type}
use Rattle.py_tree.specs.Types.{IsTypeBelow, optional_type}
use Rattle.read_annotations.specs.declared.annotation.Annotation.{Annotation}

-- an annotation that is read: its line, and the type without strings, where each of its strings holds a type
pub record Read : Type 0 where
  pub line : ℕ
  pub unquoted : Option TypeExpr

abbrev pub read_type : TypeExpr → Read
read_type t = record { line = line_of_type t; unquoted = unquoted t }

abbrev pub read : Option TypeExpr → Option Read
read o = option_map read_type o

module _ (m : State) where
  -- ---- as they are written

  abbrev pub written : List (Option TypeId) → List (Option Read)
  written xs = map (λ (x : Option TypeId). read (optional_type (shown_type m) x)) xs

  abbrev pub AreWritten : List (Option TypeId) → Type 0
  AreWritten xs = All (IsTypeBelow (length m.types)) xs

  abbrev pub all_written : List (Vec (Option TypeId)) → List (List (Option Read))
  all_written xs = map (λ (x : Vec (Option TypeId)). written x.items) xs

  abbrev pub AreAllWritten : List (Vec (Option TypeId)) → Type 0
  AreAllWritten xs = All (λ (x : Vec (Option TypeId)). AreWritten x.items) xs

  -- ---- as they are read

  abbrev pub shown_annotation : Annotation → Read
  shown_annotation a = record { line = a.line; unquoted = option_map (λ t. shown_type m t.index) a.unquoted }

  abbrev pub shown_in : Option Annotation → Option Read
  shown_in o = option_map shown_annotation o

  abbrev pub IsThere : Option Annotation → Type 0
  IsThere None = Unit {0}
  IsThere (Some a) = IsTypeBelow (length m.types) a.unquoted

  abbrev pub shown_all : List (Option Annotation) → List (Option Read)
  shown_all xs = map shown_in xs

  abbrev pub AreThere : List (Option Annotation) → Type 0
  AreThere xs = All IsThere xs

  abbrev pub shown_lists : List (Vec (Option Annotation)) → List (List (Option Read))
  shown_lists xs = map (λ (x : Vec (Option Annotation)). shown_all x.items) xs

  abbrev pub AreListsThere : List (Vec (Option Annotation)) → Type 0
  AreListsThere xs = All (λ (x : Vec (Option Annotation)). AreThere x.items) xs
