-- What the names of a module stand for, read by their places, and the classes among them.
use Rattle.std.proofs.Common.{◌≡◌, ℕ, suc, ◌+◌, ◌<◌, Bool, true, false, List, [], ◌∷◌, length, map, get_or, codes, Option, Some, None, ap, arith, ◌∙◌, if◌then◌else◌}
use Rattle.std.proofs.lemmas.List.{get_or-map}
use Rattle.std.proofs.lemmas.Option.{same_Some}
use Rattle.std.specs.Str.{bytes_eq}
use Rattle.spec_trees.specs.Module.{Block}
use Rattle.spec_uses.specs.declared.Meaning.{Meaning}
use Rattle.spec_uses.specs.declared.Meaning.TheVariants as meaning
use Rattle.spec_uses.specs.Meanings.{meaning_in}
use Rattle.spec_types.specs.Classes.{ClassOf, classes, class_number, number_from}
use Rattle.spec_types.specs.Names.{class_name, imported_type, meant_type, type_name}
use Rattle.spec_types.specs.declared.TypeName.{TypeName}
use Rattle.spec_types.specs.declared.TypeName.TheVariants as name
use Rattle.py_tree.specs.declared.ids.NameId.{NameId}
use Rattle.py_tree.specs.Names.{text_of}

pub name_is : (f : List ℕ → TypeName) (texts : List (List ℕ)) (names : List TypeName) (n : NameId) → names ≡ map f texts → n.index < length texts → get_or names n.index name.Unknown ≡ f (text_of texts n)
name_is f texts names n e lt = ap (λ (xs : List TypeName). get_or xs n.index name.Unknown) e ∙ get_or-map f texts n.index [] name.Unknown lt

-- ---- classes

number_below : (k : ℕ) (cs : List ClassOf) (x : List ℕ) (j : ℕ) → number_from k cs x ≡ Some j → j < k + length cs
number_below k [] x j e = absurd cc
number_below k (c ∷ cs) x j e = by_test (bytes_eq c.name x) (number_below (suc k) cs x j) e
  where
    by_test : (t : Bool) → (number_from (suc k) cs x ≡ Some j → j < suc k + length cs) → (if t then Some k else number_from (suc k) cs x) ≡ Some j → j < k + suc (length cs)
    by_test true h f = let same = same_Some k j f in omega arith
    by_test false h f = let rest = h f in omega (arith, rest)

-- what is no class where a test holds
otherwise : (t : Bool) (a b : TypeName) (k : ℕ) → (a ≡ name.Class k → ⊥) → (if t then a else b) ≡ name.Class k → b ≡ name.Class k
otherwise true a b k n e = absurd (n e)
otherwise false a b k n e = e

no_import : (x : List ℕ) (k : ℕ) → imported_type x ≡ name.Class k → ⊥
no_import x k e =
    let a = otherwise (bytes_eq x (codes "List")) name.List _ k (λ f. cc) e in
    let b = otherwise (bytes_eq x (codes "Dict")) name.Dict _ k (λ f. cc) a in
    let c = otherwise (bytes_eq x (codes "Optional")) name.Optional _ k (λ f. cc) b in
    cc

named_class : (o : Option ℕ) (k : ℕ) → class_name o ≡ name.Class k → o ≡ Some k
named_class None k e = absurd cc
named_class (Some j) k e = ap (λ (i : ℕ). Some i) cc

meant_class : (number : List ℕ → Option ℕ) (m : Meaning) (x : List ℕ) (k : ℕ) → meant_type number m x ≡ name.Class k → number x ≡ Some k
meant_class number meaning.Imported x k e = absurd (no_import x k e)
meant_class number meaning.Class x k e = named_class (number x) k e
meant_class number m x k e = absurd cc

pub class_below : (b : Block) (x : List ℕ) (k : ℕ) → type_name b x ≡ name.Class k → k < length (classes b)
class_below b x k e =
    let c1 = otherwise (bytes_eq x (codes "int")) name.Int _ k (λ f. cc) e in
    let c2 = otherwise (bytes_eq x (codes "bool")) name.Bool _ k (λ f. cc) c1 in
    let c3 = otherwise (bytes_eq x (codes "str")) name.Str _ k (λ f. cc) c2 in
    let c4 = otherwise (bytes_eq x (codes "list")) name.List _ k (λ f. cc) c3 in
    let c5 = otherwise (bytes_eq x (codes "dict")) name.Dict _ k (λ f. cc) c4 in
    let below = number_below 0 (classes b) x k (meant_class (class_number b) (meaning_in b x) x k c5) in
    omega (arith, below)
