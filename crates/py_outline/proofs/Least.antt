-- The smallest of several lines, however they are grouped.
use Rattle.std.proofs.Common.{◌≡◌, ℕ, List, [], ◌∷◌, ◌++◌, Option, Some, None, min, refl, sym, ap, arith, ◌∙◌}
use Rattle.spec_syntax.specs.Placement.{smaller, smallest}
use Rattle.py_outline.specs.Told.{least}

min_assoc : (a b c : ℕ) → min (min a b) c ≡ min a (min b c)
min_assoc a b c = omega arith

min_comm : (a b : ℕ) → min a b ≡ min b a
min_comm a b = omega arith

pub least_comm : (a b : Option ℕ) → least a b ≡ least b a
least_comm None None = refl
least_comm None (Some m) = refl
least_comm (Some n) None = refl
least_comm (Some n) (Some m) = ap Some (min_comm n m)

pub least_assoc : (a b c : Option ℕ) → least (least a b) c ≡ least a (least b c)
least_assoc None b c = refl
least_assoc (Some n) None c = refl
least_assoc (Some n) (Some m) None = refl
least_assoc (Some n) (Some m) (Some k) = ap Some (min_assoc n m k)

pub smallest-append : (a b : List ℕ) → smallest (a ++ b) ≡ least (smallest a) (smallest b)
smallest-append [] b = refl
smallest-append (n ∷ a) b = ap (smaller n) (smallest-append a b) ∙ sym (least_assoc (Some n) (smallest a) (smallest b))

-- a list in the middle of three moves to the end
pub moved : (a b c : Option ℕ) → least a (least b c) ≡ least b (least a c)
moved a b c = sym (least_assoc a b c) ∙ ap (λ x. least x c) (least_comm a b) ∙ least_assoc b a c
