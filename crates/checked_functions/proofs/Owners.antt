-- Marks of owners, and the functions that are checked by them.
use Rattle.std.proofs.Common.{◌≡◌, ℕ, zero, suc, ◌+◌, ◌<◌, ◌≤◌, ◌||◌, Bool, true, false, List, [], ◌∷◌, ◌++◌, length, map, take, get_or, slice_get, Option, Some, None, refl, sym, ap, arith, ◌∙◌}
use Rattle.std.specs.List.{list_any}
use Rattle.std.proofs.lemmas.Grind.{common_steps}
use Rattle.std.proofs.lemmas.List.{map_more, take_all}
use Rattle.std.proofs.lemmas.Option.{get_or_from_slice_get, gets}
use Rattle.std.proofs.lemmas.List.Folds.{list_any-append}
use Rattle.spec_trees.specs.Module as tree
use Rattle.spec_trees.specs.Module.{Statement}
use Rattle.spec_contracts.specs.ContractLines as lines
use Rattle.spec_contracts.specs.Owners.{Owner}
use Rattle.spec_types.specs.Signatures.{is_checked, is_class, is_function}
use Rattle.spec_uses.specs.Functions.{FunctionOf}
use Rattle.py_tree.specs.Arena.{State, shown_stmt}
use Rattle.contract_owners.specs.Members.{owner_in}
use Rattle.contract_lines.specs.declared.contracts.ContractLine.{ContractLine}
use Rattle.contract_lines.specs.Given.{line_in}
use Rattle.given_types.specs.Checked.{checks}
use Rattle.module_functions.specs.declared.function.Function.{Function}
use Rattle.module_functions.specs.Listed.{function_in, function_of}
use Rattle.checked_functions.specs.Owning.{AreMarked, owners_of}

or_none : (b : Bool) → (b || false) ≡ b
or_none true = refl
or_none false = refl

any_more : (p : Owner → Bool) (os : List Owner) (o : Owner) → list_any p (os ++ o ∷ []) ≡ (list_any p os || p o)
any_more p os o = list_any-append p os (o ∷ []) ∙ ap (λ (b : Bool). list_any p os || b) (or_none (p o))

-- ---- one owner more

module _ (test : ℕ → Owner → Bool) (os : List Owner) (o : Owner) where
  pub marked_none : (n : ℕ) (marks : List Bool) → ((k : ℕ) → k < length marks → get_or marks k false ≡ false) → AreMarked test [] marks
  marked_none n marks h = h

  pub marked_more : (old new : List Bool) → length new ≡ length old → ((k : ℕ) → k < length old → get_or new k false ≡ (get_or old k false || test k o)) → AreMarked test os old → AreMarked test (os ++ o ∷ []) new
  marked_more old new size more h = λ k lt. more k (omega (arith, lt, size)) ∙ ap (λ (b : Bool). b || test k o) (h k (omega (arith, lt, size))) ∙ sym (any_more (test k) os o)

  pub marked_same : (marks : List Bool) → ((k : ℕ) → test k o ≡ false) → AreMarked test os marks → AreMarked test (os ++ o ∷ []) marks
  marked_same marks never h = λ k lt. h k lt ∙ sym (or_none (list_any (test k) os)) ∙ ap (λ (b : Bool). list_any (test k) os || b) (sym (never k)) ∙ sym (any_more (test k) os o)

-- some element stands at each place of a list
pub some_there : {X : Type 0} (xs : List X) (i : ℕ) → i < length xs → ((x : X) → slice_get xs i ≡ Some x → ⊥) → ⊥
some_there [] i lt h = absurd (omega arith)
some_there (x ∷ xs) zero lt h = h x refl
some_there (x ∷ xs) (suc i) lt h = some_there xs i (omega arith) h

module _ (ls : List ContractLine) (i : ℕ) where
  pub owners_more : (l : ContractLine) → slice_get ls i ≡ Some l → owners_of (take (i + 1) ls) ≡ owners_of (take i ls) ++ owner_in l.owner ∷ []
  owners_more l e =
      let lt : i < length ls = grind (arith, gets) in
      map_more (λ (k : ContractLine). owner_in k.owner) ls i l lt ∙ ap (λ (k : ContractLine). owners_of (take i ls) ++ owner_in k.owner ∷ []) (get_or_from_slice_get ls i l l e)

-- ---- functions that are checked

pub no_class : (os : List Owner) → list_any (is_class None) os ≡ false
no_class [] = refl
no_class (o ∷ os) = no_class os

class_kept : (c : Option ℕ) (s : Statement) → (function_of c s).class ≡ c
class_kept c (tree.def n x ps r b) = refl
class_kept c s = refl

-- tests of one thing after those of another
apart : (a b c d r : Bool) → r ≡ (c || d) → ((a || b) || r) ≡ ((a || c) || (b || d))
apart true b c d r e = refl
apart false true c d r e = or_true c
  where
    or_true : (c : Bool) → true ≡ (c || true)
    or_true true = refl
    or_true false = refl
apart false false c d r e = e

module _ (m : State) (i : ℕ) (f : Function) where
  checked_in : (c : Option ℕ) (ls : List ContractLine) → list_any (λ (l : lines.ContractLine). is_function i l.owner || is_class c l.owner) (map (line_in m) ls) ≡ (list_any (is_function i) (owners_of ls) || list_any (is_class c) (owners_of ls))
  checked_in c [] = refl
  checked_in c (l ∷ ls) = apart (is_function i (owner_in l.owner)) (is_class c (owner_in l.owner)) (list_any (is_function i) (owners_of ls)) (list_any (is_class c) (owners_of ls)) _ (checked_in c ls)

  -- a function is checked by its own lines, or by those of its class
  pub checked_by : (ls : List ContractLine) → is_checked (map (line_in m) ls) i (function_in m f) ≡ (list_any (is_function i) (owners_of ls) || list_any (is_class f.class) (owners_of ls))
  checked_by ls = checked_in (function_in m f).class ls ∙ ap (λ (c : Option ℕ). list_any (is_function i) (owners_of ls) || list_any (is_class c) (owners_of ls)) (class_kept f.class (shown_stmt m f.statement.index))

checks_push : (ls : List lines.ContractLine) (i : ℕ) (fs : List FunctionOf) (f : FunctionOf) → checks ls i (fs ++ f ∷ []) ≡ checks ls i fs ++ is_checked ls (i + length fs) f ∷ []
checks_push ls i [] f = ap (λ (n : ℕ). is_checked ls n f ∷ []) (omega arith)
checks_push ls i (g ∷ fs) f = ap (λ (v : List Bool). is_checked ls i g ∷ v) (checks_push ls (suc i) fs f ∙ ap (λ (n : ℕ). checks ls (suc i) fs ++ is_checked ls n f ∷ []) (omega arith))

module _ (ls : List ContractLine) (fs : List Function) where
  -- of the functions before the place i it is known whether they are checked
  abbrev pub AreCheckedTo : List Bool → ℕ → Type 0
  AreCheckedTo bs i = (m : State) → bs ≡ checks (map (line_in m) ls) 0 (map (function_in m) (take i fs))

  pub checked_more : (bs more : List Bool) (i : ℕ) (d : Function) (b : Bool) → AreCheckedTo bs i → i < length fs
      → b ≡ (list_any (is_function i) (owners_of ls) || list_any (is_class (get_or fs i d).class) (owners_of ls)) → more ≡ bs ++ b ∷ [] → AreCheckedTo more (i + 1)
  checked_more bs more i d b h lt is e = λ m.
      let cs = map (line_in m) ls in
      let f = get_or fs i d in
      let before = map (function_in m) (take i fs) in
      let place : i ≡ 0 + length before = omega (arith, length_taken m) in
      e
      ∙ ap (λ (v : List Bool). v ++ b ∷ []) (h m)
      ∙ ap (λ (c : Bool). checks cs 0 before ++ c ∷ []) (is ∙ sym (checked_by m i f ls) ∙ ap (λ (n : ℕ). is_checked cs n (function_in m f)) place)
      ∙ sym (checks_push cs 0 before (function_in m f))
      ∙ ap (checks cs 0) (sym (map_more (function_in m) fs i d lt))
    where
      length_taken : (m : State) → length (map (function_in m) (take i fs)) ≡ i
      length_taken m = grind (arith, common_steps)

  pub checked_all : (bs : List Bool) (i : ℕ) → AreCheckedTo bs i → length fs ≤ i → (m : State) → bs ≡ checks (map (line_in m) ls) 0 (map (function_in m) fs)
  checked_all bs i h le = λ m. h m ∙ ap (λ (v : List Function). checks (map (line_in m) ls) 0 (map (function_in m) v)) (take_all i fs le)
