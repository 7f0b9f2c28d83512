-- What one look at clauses gives, where the literals of a trail are known to be true.
use Rattle.std.specs.Prelude.{Bool, not, ◌&&◌, ◌||◌, List, [], ◌∷◌, Option, Some, None, find, if◌then◌else◌}
use Rattle.std.specs.List.{list_all}
use Rattle.refutation_check.specs.declared.lit.SatLit.{SatLit}
use Rattle.refutation_check.specs.declared.propagation.Due.{Due}
use Rattle.refutation_check.specs.declared.propagation.Due.TheVariants as due
use Rattle.refutation_check.specs.Truth.{negated, same_lit, has}

-- whether no literal stands beside its negation
abbrev pub is_consistent : List SatLit → Bool
is_consistent lits = list_all (λ l. not (has lits (negated l))) lits

-- the literal of a clause that is not false, where there is no other and it is not true
abbrev pub due_from : List SatLit → List SatLit → Option SatLit → Due
due_from trail c None = due.Conflict
due_from trail c (Some l) = if not (has trail l) && list_all (λ k. same_lit k l || has trail (negated k)) c then due.Forced l else due.Nothing

-- what one clause gives
unfoldable pub due_of : List SatLit → List SatLit → Due
due_of trail c = due_from trail c (find (λ k. not (has trail (negated k))) c)

-- the first of two that gives something
abbrev pub first_due : Due → Due → Due
first_due due.Nothing later = later
first_due (due.Forced l) later = due.Forced l
first_due due.Conflict later = due.Conflict

-- what the first clause gives that gives something
abbrev pub due_in : List SatLit → List (List SatLit) → Due
due_in trail [] = due.Nothing
due_in trail (c ∷ clauses) = first_due (due_of trail c) (due_in trail clauses)
