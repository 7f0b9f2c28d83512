-- Contract lines by the numbers of their functions.
use Rattle.std.proofs.Common.{◌≡◌, ℕ, zero, suc, ◌+◌, ◌<◌, Bool, true, false, List, [], ◌∷◌, ◌++◌, cond, length, length-append, map, take, get_or, slice_get, Some, None, refl, ap, arith, ◌∙◌}
use Rattle.std.specs.Global.{Vec}
use Rattle.std.proofs.lemmas.List.Elements.{All-push}
use Rattle.std.proofs.lemmas.Grind.{common_steps}
use Rattle.std.proofs.lemmas.Option.{gets}
use Rattle.spec_contracts.specs.ContractLines as lines
use Rattle.spec_forms.specs.Forms.{lines_at}
use Rattle.spec_types.specs.Signatures.{is_function}
use Rattle.py_tree.specs.Arena.{State}
use Rattle.contract_owners.specs.Members.{owner_in}
use Rattle.contract_lines.specs.declared.contracts.ContractLine.{ContractLine}
use Rattle.contract_lines.specs.Given.{AreLinesThere, IsLineThere, line_in}
use Rattle.first_forms.specs.Groups.{AreGrouped, lines_of}

-- one function more
pub groups_more : (n : ℕ) (groups more : List (Vec ContractLine)) (v : Vec ContractLine) → AreGrouped n [] groups → v.items ≡ [] → more ≡ groups ++ v ∷ [] → AreGrouped (n + 1) [] more
groups_more n groups more v h e is =
    let size : length (groups ++ v ∷ []) ≡ n + 1 = omega (arith, length-append groups (v ∷ []), h.size) in
    rw is (record {
      size = size;
      lines = λ k d lt. All-push (λ (u : Vec ContractLine). u.items ≡ []) groups v (λ j c l. h.lines j c (omega (arith, h.size, l))) e k d (omega (arith, size, lt));
    })

-- the first lines, and one more
pub lines_more : (ls : List ContractLine) (i : ℕ) (l : ContractLine) → slice_get ls i ≡ Some l → take (i + 1) ls ≡ take i ls ++ l ∷ []
lines_more ls i l e = grind (arith, common_steps, gets)

-- some element stands at each place of a list
pub none_there : {X : Type 0} (xs : List X) (i : ℕ) → i < length xs → slice_get xs i ≡ None → ⊥
none_there [] i lt e = omega arith
none_there (x ∷ xs) zero lt e = cc
none_there (x ∷ xs) (suc i) lt e = none_there xs i (omega arith) e

module _ (m : State) (k : ℕ) where
  lines_shown : (ls : List ContractLine) → map (line_in m) (lines_of k ls) ≡ lines_at k (map (line_in m) ls)
  lines_shown [] = refl
  lines_shown (l ∷ ls) = by_test (is_function k (owner_in l.owner)) l _ _ (lines_shown ls)
    where
      by_test : (b : Bool) (x : ContractLine) (xs : List ContractLine) (ys : List lines.ContractLine) → map (line_in m) xs ≡ ys → map (line_in m) (cond b (x ∷ xs) xs) ≡ cond b (line_in m x ∷ ys) ys
      by_test true x xs ys e = ap (λ (zs : List lines.ContractLine). line_in m x ∷ zs) e
      by_test false x xs ys e = e

  lines_there : (ls : List ContractLine) → AreLinesThere m ls → AreLinesThere m (lines_of k ls)
  lines_there [] h = tt
  lines_there (l ∷ ls) h = by_test (is_function k (owner_in l.owner)) (lines_of k ls) h.0 (lines_there ls h.1)
    where
      by_test : (b : Bool) (xs : List ContractLine) → IsLineThere m l → AreLinesThere m xs → AreLinesThere m (cond b (l ∷ xs) xs)
      by_test true xs here there = (here, there)
      by_test false xs here there = there

  -- those of the function k, where it is one of n functions
  module _ (n : ℕ) (ls : List ContractLine) (groups : List (Vec ContractLine)) (v : Vec ContractLine) (xs : List ContractLine) (h : AreGrouped n ls groups) (lt : k < n) (at : v ≡ get_or groups k v) (is : xs ≡ v.items) where
    group_is : xs ≡ lines_of k ls
    group_is = is ∙ ap (λ (u : Vec ContractLine). u.items) at ∙ h.lines k v lt

    pub group_shown : map (line_in m) xs ≡ lines_at k (map (line_in m) ls)
    group_shown = rw group_is (lines_shown ls)

    pub group_there : AreLinesThere m ls → AreLinesThere m xs
    group_there there = rw group_is (lines_there ls there)
