-- The uses in statements that have no block.
use Rattle.std.specs.Prelude.{List, []}
use Rattle.spec_trees.specs.Module.{Statement, simple}
use Rattle.spec_names.specs.declared.Refusal.{Refusal}
use Rattle.spec_uses.specs.Meanings.{Scope}
use Rattle.spec_uses.specs.Statements.{uses_in_simple}

-- what is used where a statement is simple, and nothing where it is not
abbrev pub uses_in_line : Scope → Statement → List Refusal
uses_in_line s (simple x) = uses_in_simple s x
uses_in_line s x = []
