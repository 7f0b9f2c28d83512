-- Words that string literals spell, one literal behind the other.
use Rattle.std.proofs.Common.{◌≡◌, ℕ, ◌+◌, ◌==◌, Bool, true, false, ◌&&◌, List, [], ◌∷◌, ◌++◌, length, take, drop, drop-cons, map, slice_get, Some, refl, ap, arith, ◌∙◌}
use Rattle.std.proofs.lemmas.Grind.{common_steps}
use Rattle.std.proofs.lemmas.Option.{gets}
use Rattle.std.specs.List.{flat_map}
use Rattle.std.specs.Str.{bytes_eq}
use Rattle.spec_trees.specs.Expr.{StringPart}
use Rattle.py_tree.specs.declared.exprs.StrPart.{StrPart}
use Rattle.py_tree.specs.Exprs.{part_tree}

-- the code points of literals
abbrev pub spelled_by : List StrPart → List ℕ
spelled_by ps = flat_map (λ (q : StringPart). q.value) (map part_tree ps)

-- ---- a word that begins with a text, and one that does not

pub behind_front : (p rest tail : List ℕ) → bytes_eq (take (length p) rest) p ≡ true → bytes_eq rest (p ++ tail) ≡ bytes_eq (drop (length p) rest) tail
behind_front [] rest tail h = refl
behind_front (x ∷ p) [] tail h = absurd cc
behind_front (x ∷ p) (y ∷ rest) tail h = by_test (y == x) h (behind_front p rest tail)
  where
    by_test : (b : Bool) → (b && bytes_eq (take (length p) rest) p) ≡ true → (bytes_eq (take (length p) rest) p ≡ true → bytes_eq rest (p ++ tail) ≡ bytes_eq (drop (length p) rest) tail)
        → (b && bytes_eq rest (p ++ tail)) ≡ bytes_eq (drop (length p) rest) tail
    by_test true e more = more e
    by_test false e more = absurd cc

pub other_front : (p rest tail : List ℕ) → bytes_eq (take (length p) rest) p ≡ false → bytes_eq rest (p ++ tail) ≡ false
other_front [] rest tail h = absurd cc
other_front (x ∷ p) [] tail h = refl
other_front (x ∷ p) (y ∷ rest) tail h = by_test (y == x) h (other_front p rest tail)
  where
    by_test : (b : Bool) → (b && bytes_eq (take (length p) rest) p) ≡ false → (bytes_eq (take (length p) rest) p ≡ false → bytes_eq rest (p ++ tail) ≡ false) → (b && bytes_eq rest (p ++ tail)) ≡ false
    by_test true e more = more e
    by_test false e more = refl

-- ---- the literals one after the other

parts_from : (ps : List StrPart) (i : ℕ) (p : StrPart) → slice_get ps i ≡ Some p → drop i ps ≡ p ∷ drop (i + 1) ps
parts_from ps i p e = grind (arith, common_steps, gets, drop-cons)

pub next_part : (ps : List StrPart) (i : ℕ) (p : StrPart) (rest : List ℕ) → slice_get ps i ≡ Some p → bytes_eq (take (length p.value) rest) p.value ≡ true → bytes_eq rest (spelled_by (drop i ps)) ≡ bytes_eq (drop (length p.value) rest) (spelled_by (drop (i + 1) ps))
next_part ps i p rest at h = ap (λ (v : List StrPart). bytes_eq rest (spelled_by v)) (parts_from ps i p at) ∙ behind_front p.value rest (spelled_by (drop (i + 1) ps)) h

pub other_part : (ps : List StrPart) (i : ℕ) (p : StrPart) (rest : List ℕ) → slice_get ps i ≡ Some p → bytes_eq (take (length p.value) rest) p.value ≡ false → bytes_eq rest (spelled_by (drop i ps)) ≡ false
other_part ps i p rest at h = ap (λ (v : List StrPart). bytes_eq rest (spelled_by v)) (parts_from ps i p at) ∙ other_front p.value rest (spelled_by (drop (i + 1) ps)) h
