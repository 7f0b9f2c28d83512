-- Unit propagation, as what it forces at all and not as the order in which it does.
use Rattle.std.specs.Prelude.{◌≢◌, List, Contains}
use Rattle.refutation_check.specs.declared.lit.SatLit.{SatLit}
use Rattle.refutation_check.specs.Truth.{negated}

-- A literal is forced where it is given, or where a clause has it and each other literal of that clause is false: its
-- negation is forced. A clause may hold a literal twice.
pub data IsForced (clauses : List (List SatLit)) (given : List SatLit) : SatLit → Type 0 where
  is_given : (l : SatLit) → Contains given l → IsForced clauses given l
  is_unit : (l : SatLit) (c : List SatLit) → Contains clauses c → Contains c l → ((k : SatLit) → Contains c k → k ≢ l → IsForced clauses given (negated k)) → IsForced clauses given l

-- Propagation meets a conflict where each literal of a clause is false, or a literal is forced and its negation too.
pub data IsConflict (clauses : List (List SatLit)) (given : List SatLit) : Type 0 where
  clause_fails : (c : List SatLit) → Contains clauses c → ((k : SatLit) → Contains c k → IsForced clauses given (negated k)) → IsConflict clauses given
  literal_fails : (l : SatLit) → IsForced clauses given l → IsForced clauses given (negated l) → IsConflict clauses given

-- all of some literals are forced
abbrev pub AreForced : List (List SatLit) → List SatLit → List SatLit → Type 0
AreForced clauses given lits = (l : SatLit) → Contains lits l → IsForced clauses given l
