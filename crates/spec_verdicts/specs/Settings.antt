-- What the words of the command line ask for.
use Rattle.std.specs.Prelude.{ℕ, Bool, true, false, not, length, ◌&&◌, ◌==◌, List, [], ◌∷◌, Option, Some, None, codes, if◌then◌else◌}
use Rattle.std.specs.List.{list_any}
use Rattle.std.specs.Str.{bytes_eq}
use Rattle.spec_first_trees.specs.Bounds.{Bounds, standard}

-- a check of these files under these bounds
pub record Settings : Type 0 where
  pub bounds : Bounds
  -- results that are no errors are printed too
  pub report_all : Bool
  pub targets : List (List ℕ)

abbrev pub begins_with_dash : List ℕ → Bool
begins_with_dash [] = false
begins_with_dash (c ∷ w) = c == 45

-- a file's word is not empty, does not begin with `-`, and holds no `:`
abbrev pub is_target : List ℕ → Bool
is_target w = not (length w == 0) && not (begins_with_dash w) && not (list_any (λ c. c == 58) w)

abbrev pub is_report_all : List ℕ → Bool
is_report_all w = bytes_eq w (codes "--report_all")

-- a check of one file
abbrev pub check_of : Bool → List ℕ → Option Settings
check_of all target = if is_target target then Some (record { bounds = standard; report_all = all; targets = target ∷ [] }) else None

-- `FILE`, or the option directly before or directly after it
abbrev pub checked : List (List ℕ) → Option Settings
checked [] = None
checked (t ∷ []) = check_of false t
checked (a ∷ b ∷ []) = if is_report_all a then check_of true b else if is_report_all b then check_of true a else None
checked (a ∷ b ∷ c ∷ ws) = None

-- `check`, and the words of a check; all other words are refused
unfoldable pub settings : List (List ℕ) → Option Settings
settings [] = None
settings (c ∷ ws) = if bytes_eq c (codes "check") then checked ws else None
