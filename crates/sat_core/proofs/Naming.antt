-- The variables of clauses and assumptions are those that they name.
use Rattle.std.proofs.Common.{◌≡◌, ℕ, Bool, true, false, cond, List, [], ◌∷◌, ◌++◌, refl, sym, subst, ◌⊎◌, inl, inr, Contains, nat_eq}
use Rattle.std.specs.List.{list_any}
use Rattle.std.proofs.lemmas.Bool.{eqb-true}
use Rattle.std.proofs.lemmas.List.Elements.{Contains-append_left, Contains-push, Contains-push_cases}
use Rattle.refutation_check.specs.declared.lit.SatLit.{SatLit}
use Rattle.refutation_check.proofs.Lists.{any_told, contains_head, contains_tail, contains_cases, contains_none}
use Rattle.sat_core.specs.Variables.{IsNamed, in_clause, in_assumption, with_variable, with_variables, with_clauses, variables_of}

-- one more variable leaves those that are there
variable_kept : (vars : List ℕ) (y x : ℕ) → Contains vars x → Contains (with_variable vars y) x
variable_kept vars y x c = by (list_any (λ z. nat_eq z y) vars)
  where
    by : (b : Bool) → Contains (cond b vars (vars ++ y ∷ [])) x
    by true = c
    by false = Contains-append_left vars (y ∷ []) x c

-- and is there itself
variable_there : (vars : List ℕ) (x : ℕ) → Contains (with_variable vars x) x
variable_there vars x = by (list_any (λ z. nat_eq z x) vars) refl
  where
    by : (b : Bool) → list_any (λ z. nat_eq z x) vars ≡ b → Contains (cond b vars (vars ++ x ∷ [])) x
    by true e = let a = any_told (λ (z : ℕ). nat_eq z x) vars e in let P : ℕ → Type 0 = λ z. Contains vars z in subst P (eqb-true a.0 x a.2) a.1
    by false e = Contains-push vars x

-- and no other comes in
variable_only : (vars : List ℕ) (y x : ℕ) → Contains (with_variable vars y) x → Contains vars x ⊎ (y ≡ x)
variable_only vars y x = by (list_any (λ z. nat_eq z y) vars)
  where
    by : (b : Bool) → Contains (cond b vars (vars ++ y ∷ [])) x → Contains vars x ⊎ (y ≡ x)
    by true c = inl c
    by false c = Contains-push_cases vars y x c

-- the same of the variables of literals
lits_kept : (vars : List ℕ) (lits : List SatLit) (x : ℕ) → Contains vars x → Contains (with_variables vars lits) x
lits_kept vars [] x c = c
lits_kept vars (l ∷ lits) x c = lits_kept (with_variable vars l.var) lits x (variable_kept vars l.var x c)

lits_there : (vars : List ℕ) (lits : List SatLit) (l : SatLit) → Contains lits l → Contains (with_variables vars lits) l.var
lits_there vars [] l c = absurd (contains_none l c)
lits_there vars (k ∷ lits) l c = elim (contains_cases k lits l c) [
  | inl e ↦ lits_kept (with_variable vars k.var) lits l.var (let P : SatLit → Type 0 = λ z. Contains (with_variable vars k.var) z.var in subst P e (variable_there vars k.var))
  | inr r ↦ lits_there (with_variable vars k.var) lits l r
]

-- a variable comes from the list or from a literal
pub data ComesFrom (vars : List ℕ) (lits : List SatLit) (x : ℕ) : Type 0 where
  old : Contains vars x → ComesFrom vars lits x
  of_literal : (l : SatLit) → Contains lits l → l.var ≡ x → ComesFrom vars lits x

lits_only : (vars : List ℕ) (lits : List SatLit) (x : ℕ) → Contains (with_variables vars lits) x → ComesFrom vars lits x
lits_only vars [] x c = old c
lits_only vars (l ∷ lits) x c = elim (lits_only (with_variable vars l.var) lits x c) [
  | old o ↦ elim (variable_only vars l.var x o) [ inl p ↦ old p | inr e ↦ of_literal l (contains_head l lits) e ]
  | of_literal k t e ↦ of_literal k (contains_tail l lits k t) e
]

-- the same of the variables of clauses
clauses_kept : (vars : List ℕ) (clauses : List (List SatLit)) (x : ℕ) → Contains vars x → Contains (with_clauses vars clauses) x
clauses_kept vars [] x c = c
clauses_kept vars (d ∷ clauses) x c = clauses_kept (with_variables vars d) clauses x (lits_kept vars d x c)

clauses_there : (vars : List ℕ) (clauses : List (List SatLit)) (c : List SatLit) (l : SatLit) → Contains clauses c → Contains c l → Contains (with_clauses vars clauses) l.var
clauses_there vars [] c l t u = absurd (contains_none c t)
clauses_there vars (d ∷ clauses) c l t u = elim (contains_cases d clauses c t) [
  | inl e ↦ clauses_kept (with_variables vars d) clauses l.var (lits_there vars d l (let P : List SatLit → Type 0 = λ z. Contains z l in subst P (sym e) u))
  | inr r ↦ clauses_there (with_variables vars d) clauses c l r u
]

-- a variable comes from the list or from a clause
pub data ComesIn (vars : List ℕ) (clauses : List (List SatLit)) (x : ℕ) : Type 0 where
  before : Contains vars x → ComesIn vars clauses x
  of_clause : (c : List SatLit) (l : SatLit) → Contains clauses c → Contains c l → l.var ≡ x → ComesIn vars clauses x

clauses_only : (vars : List ℕ) (clauses : List (List SatLit)) (x : ℕ) → Contains (with_clauses vars clauses) x → ComesIn vars clauses x
clauses_only vars [] x c = before c
clauses_only vars (d ∷ clauses) x c = elim (clauses_only (with_variables vars d) clauses x c) [
  | before o ↦ elim (lits_only vars d x o) [ old p ↦ before p | of_literal l t e ↦ of_clause d l (contains_head d clauses) t e ]
  | of_clause f l t u e ↦ of_clause f l (contains_tail d clauses f t) u e
]

-- each variable that is named is there
pub named_there : (clauses : List (List SatLit)) (assumptions : List SatLit) (x : ℕ) → IsNamed clauses assumptions x → Contains (variables_of clauses assumptions) x
named_there clauses assumptions x (in_clause c l t u e) = let P : ℕ → Type 0 = λ z. Contains (variables_of clauses assumptions) z in subst P e (clauses_there (with_variables [] assumptions) clauses c l t u)
named_there clauses assumptions x (in_assumption l t e) = let P : ℕ → Type 0 = λ z. Contains (variables_of clauses assumptions) z in subst P e (clauses_kept (with_variables [] assumptions) clauses l.var (lits_there [] assumptions l t))

-- and no other
pub there_named : (clauses : List (List SatLit)) (assumptions : List SatLit) (x : ℕ) → Contains (variables_of clauses assumptions) x → IsNamed clauses assumptions x
there_named clauses assumptions x c = elim (clauses_only (with_variables [] assumptions) clauses x c) [
  | before o ↦ elim (lits_only [] assumptions x o) [ old p ↦ absurd (contains_none x p) | of_literal l t e ↦ in_assumption l t e ]
  | of_clause d l t u e ↦ in_clause d l t u e
]
