-- The contract lines of single entries.
use Rattle.std.proofs.Common.{◌≡◌, ℕ, true, List, Option, Some, None, is_some, Result, Ok, Err, is_err, refl}
use Rattle.spec_trees.specs.Expr.{Expr}
use Rattle.spec_syntax.specs.Phases.{Misfit}
use Rattle.spec_syntax.specs.Texts.{parsed_expression}
use Rattle.spec_contracts.specs.Entries.{Entry, Promise, spelled, classes}
use Rattle.spec_contracts.specs.ContractLines as lines
use Rattle.py_tree.specs.declared.ids.ExprId.{ExprId}
use Rattle.py_tree.specs.declared.ids.NamesId.{NamesId}
use Rattle.py_tree.specs.Arena.{State, Extends, IsModule}
use Rattle.py_tree.specs.Stmts.{texts_of}
use Rattle.contract_owners.specs.Members.{owner_in}
use Rattle.contract_lines.specs.declared.contracts.ContractLine.{ContractLine}
use Rattle.contract_lines.specs.declared.entries.Head.{Head}
use Rattle.contract_lines.specs.Given.{GivesLine, IsListThere, IsSpelled, line_in, promise_of}
use Rattle.contract_lines.proofs.Later.{names_kept}

-- an entry with letters that are an expression
abbrev spelled_entry : ℕ → Promise → List ℕ → Entry
spelled_entry n p s = record { line = n; promise = p; content = spelled s }

abbrev listed_entry : ℕ → Promise → List (List ℕ) → Entry
listed_entry n p xs = record { line = n; promise = p; content = classes xs }

abbrev the_line : Head → ℕ → Option ExprId → Option NamesId → ContractLine
the_line h n e l = record { owner = h.owner; kind = h.kind; line = n; expr = e; names = l }

module _ (m n : State) (g : Extends m n) (d : IsModule m) (h : Head) (t : IsListThere m h.names) (k : ℕ) (s : List ℕ) where
  pub no_line : IsSpelled n None (parsed_expression k s) → lines.line_of (owner_in h.owner) (spelled_entry k (promise_of m h) s) ≡ None
  no_line e = by_result (parsed_expression k s) refl e
    where
      by_result : (r : Result Expr Misfit) → parsed_expression k s ≡ r → is_err r ≡ true → lines.line_of (owner_in h.owner) (spelled_entry k (promise_of m h) s) ≡ None
      by_result (Ok x) q e = absurd cc
      by_result (Err f) q e = rw q refl

  pub one_line : (x : ExprId) → IsSpelled n (Some x) (parsed_expression k s) → GivesLine n (Some (the_line h k (Some x) h.names)) (lines.line_of (owner_in h.owner) (spelled_entry k (promise_of m h) s))
  one_line x e = let o = names_kept m n g d h.names t in ((e.0, o.0), rw (e.1, o.1) refl)

pub listed_line : (m n : State) (h : Head) (k : ℕ) (xs : List (List ℕ)) (l : NamesId) → texts_of n l ≡ xs → lines.line_of (owner_in h.owner) (listed_entry k (promise_of m h) xs) ≡ Some (line_in n (the_line h k None (Some l)))
listed_line m n h k xs l e = rw e refl

-- an expression that is there gives a line
pub line_there : (m n : State) (g : Extends m n) (d : IsModule m) (h : Head) (t : IsListThere m h.names) (k : ℕ) (s : List ℕ) (o : Option ExprId) → is_some o ≡ true → IsSpelled n o (parsed_expression k s)
    → GivesLine n (Some (the_line h k o h.names)) (lines.line_of (owner_in h.owner) (spelled_entry k (promise_of m h) s))
line_there m n g d h t k s None e x = absurd cc
line_there m n g d h t k s (Some y) e x = one_line m n g d h t k s y x
