-- The variables that clauses and assumptions name, each once.
use Rattle.std.specs.Prelude.{◌≡◌, ℕ, true, List, [], ◌∷◌, ◌++◌, map, Contains, if◌then◌else◌, nat_eq}
use Rattle.std.specs.List.{list_any}
use Rattle.refutation_check.specs.declared.lit.SatLit.{SatLit}

-- a variable is named where a literal of a clause, or an assumption, is it or its negation
pub data IsNamed (clauses : List (List SatLit)) (assumptions : List SatLit) (x : ℕ) : Type 0 where
  in_clause : (c : List SatLit) (l : SatLit) → Contains clauses c → Contains c l → l.var ≡ x → IsNamed clauses assumptions x
  in_assumption : (l : SatLit) → Contains assumptions l → l.var ≡ x → IsNamed clauses assumptions x

-- one more variable, where it is not there yet
abbrev pub with_variable : List ℕ → ℕ → List ℕ
with_variable vars x = if list_any (λ y. nat_eq y x) vars then vars else vars ++ x ∷ []

-- the variables of literals, behind others
abbrev pub with_variables : List ℕ → List SatLit → List ℕ
with_variables vars [] = vars
with_variables vars (l ∷ lits) = with_variables (with_variable vars l.var) lits

-- the variables of clauses, behind others
abbrev pub with_clauses : List ℕ → List (List SatLit) → List ℕ
with_clauses vars [] = vars
with_clauses vars (c ∷ clauses) = with_clauses (with_variables vars c) clauses

-- the variables of assumptions and of clauses
abbrev pub variables_of : List (List SatLit) → List SatLit → List ℕ
variables_of clauses assumptions = with_clauses (with_variables [] assumptions) clauses

-- one of some literals is a variable or its negation
pub record HasVariable (lits : List SatLit) (x : ℕ) : Type 0 where
  pub lit : SatLit
  pub there : Contains lits lit
  pub variable : lit.var ≡ x

-- variables, as literals
abbrev pub true_literals : List ℕ → List SatLit
true_literals vars = map (λ x. record { var = x; positive = true }) vars
