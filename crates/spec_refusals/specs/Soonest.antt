-- Which of several refusals is told. Each has a line and a number.
use Rattle.std.specs.Prelude.{◌≡◌, ℕ, Bool, true, false, ◌&&◌, ◌==◌, nat_lt, List, [], ◌∷◌, Option, Some, None, if◌then◌else◌}

module _ {R : Type 0} (line number : R → ℕ) where
  -- whether a refusal comes before another one: by its line, and at one line by its number
  abbrev pub is_sooner : R → R → Bool
  is_sooner r s = if nat_lt (line r) (line s) then true else (line r == line s && nat_lt (number r) (number s))

  abbrev pub sooner : R → Option R → Option R
  sooner r None = Some r
  sooner r (Some s) = if is_sooner s r then Some s else Some r

  -- the one that is told
  abbrev pub soonest : List R → Option R
  soonest [] = None
  soonest (r ∷ rs) = sooner r (soonest rs)

  -- what is told where one refusal more comes behind the others
  abbrev pub with_last : Option R → R → Option R
  with_last None r = Some r
  with_last (Some s) r = if is_sooner r s then Some r else Some s

  -- none of these comes before a refusal
  abbrev pub AreLater : R → List R → Type 0
  AreLater r [] = Unit {0}
  AreLater r (s ∷ ss) = (is_sooner s r ≡ false) × AreLater r ss
