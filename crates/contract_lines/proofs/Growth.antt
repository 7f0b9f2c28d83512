-- What holds while a module grows by names, lists of names and expressions.
use Rattle.std.proofs.Common.{◌≡◌, ℕ, List, [], ◌∷◌, ◌++◌, length, map, Some, refl, ap, ◌∙◌, slice_get}
use Rattle.std.proofs.lemmas.Option.{get_or_from_slice_get}
use Rattle.std.proofs.Math.Seq.{get_or-append_seam}
use Rattle.py_tree.specs.declared.ids.NameId.{NameId}
use Rattle.py_tree.specs.declared.ids.NamesId.{NamesId}
use Rattle.py_tree.specs.Arena.{State, IsModule}
use Rattle.py_tree.specs.Names.{text_of, with_name}
use Rattle.py_tree.specs.Stmts.{texts_of}
use Rattle.py_tree.proofs.Arenas.{extends_same, extends_equal, extends_then, extends_list, extends_name}
use Rattle.py_expressions.specs.Given as expressions
use Rattle.contract_lines.specs.Given.{Grows}

pub grows_same : (m : State) → IsModule m → Grows m m
grows_same m d = record { extends = extends_same m; types = refl; stmts = refl; tops = refl; valid = d }

pub grows_equal : (m n : State) → n ≡ m → IsModule n → Grows m n
grows_equal m n e d = record { extends = extends_equal m n e; types = ap (λ (x : State). x.types) e; stmts = ap (λ (x : State). x.stmts) e; tops = ap (λ (x : State). x.tops) e; valid = d }

pub grows_then : (l m n : State) → Grows l m → Grows m n → Grows l n
grows_then l m n g h = record { extends = extends_then l m n g.extends h.extends; types = h.types ∙ g.types; stmts = h.stmts ∙ g.stmts; tops = h.tops ∙ g.tops; valid = h.valid }

-- by an expression that is read
pub grows_expressions : (m n : State) → expressions.Grows m n → Grows m n
grows_expressions m n g = record { extends = g.extends; types = g.types; stmts = g.stmts; tops = g.tops; valid = g.valid }

-- by a list of names
pub grows_list : (m n : State) (x : List NameId) → n ≡ record m { lists = m.lists ++ x ∷ [] } → IsModule n → Grows m n
grows_list m n x e d = record { extends = extends_list m n x e; types = ap (λ (s : State). s.types) e; stmts = ap (λ (s : State). s.stmts) e; tops = ap (λ (s : State). s.tops) e; valid = d }

-- by a name
pub grows_name : (m n : State) (t : List ℕ) → n ≡ record m { names = with_name m.names t } → IsModule n → Grows m n
grows_name m n t e d = record { extends = extends_name m n t e; types = ap (λ (s : State). s.types) e; stmts = ap (λ (s : State). s.stmts) e; tops = ap (λ (s : State). s.tops) e; valid = d }

-- the text of a name that is found
pub text_found : (names : List (List ℕ)) (n : NameId) (t : List ℕ) → slice_get names n.index ≡ Some t → text_of names n ≡ t
text_found names n t e = get_or_from_slice_get names n.index t [] e

-- the texts of a list that is added
pub texts_added : (m n : State) (x : List NameId) (l : NamesId) → n ≡ record m { lists = m.lists ++ x ∷ [] } → l.index ≡ length m.lists → texts_of n l ≡ map (text_of m.names) x
texts_added m n x l e at = rw (e, at, get_or-append_seam m.lists x [] []) refl
