-- The truth of literals and clauses under an assignment.
use Rattle.std.specs.Prelude.{ℕ, ◌==◌, ◌&&◌, Bool, not, List, if◌then◌else◌, Contains, IsTrue}
use Rattle.std.specs.Bool.{beq}
use Rattle.std.specs.List.{list_any}
use Rattle.refutation_check.specs.declared.lit.SatLit.{SatLit}

-- equal literals
abbrev pub same_lit : SatLit → SatLit → Bool
same_lit a b = a.var == b.var && beq a.positive b.positive

-- whether a list has a literal
abbrev pub has : List SatLit → SatLit → Bool
has lits l = list_any (λ k. same_lit k l) lits

-- the negation of a literal
abbrev pub negated : SatLit → SatLit
negated l = record l { positive = not l.positive }

-- a literal is its variable or the negation of it
abbrev pub literal_value : (ℕ → Bool) → SatLit → Bool
literal_value v l = if l.positive then v l.var else not (v l.var)

-- a clause is true where some literal of it is; the empty clause is false
abbrev pub clause_value : (ℕ → Bool) → List SatLit → Bool
clause_value v clause = list_any (literal_value v) clause

-- an assignment meets clauses and assumptions where each of them is true
pub record IsModel (v : ℕ → Bool) (clauses : List (List SatLit)) (assumptions : List SatLit) : Type 0 where
  pub clauses_hold : (c : List SatLit) → Contains clauses c → IsTrue (clause_value v c)
  pub assumptions_hold : (l : SatLit) → Contains assumptions l → IsTrue (literal_value v l)

-- no assignment meets them
abbrev pub HaveNoModel : List (List SatLit) → List SatLit → Type 0
HaveNoModel clauses assumptions = (v : ℕ → Bool) → IsModel v clauses assumptions → ⊥
