-- What holds while a module grows by all but statements of the module itself.
use Rattle.std.proofs.Common.{◌≡◌, ℕ, List, [], ◌∷◌, ◌++◌, length, map, Some, refl, sym, ap, subst, ◌∙◌, slice_get}
use Rattle.std.proofs.lemmas.Option.{get_or_from_slice_get}
use Rattle.std.proofs.Math.Seq.{get_or-append_seam}
use Rattle.py_tree.specs.declared.ids.NameId.{NameId}
use Rattle.py_tree.specs.declared.ids.NamesId.{NamesId}
use Rattle.py_tree.specs.declared.stmts.StmtNode.{StmtNode}
use Rattle.py_tree.specs.Arena.{State, IsModule}
use Rattle.py_tree.specs.Names.{text_of, with_name}
use Rattle.py_tree.specs.Stmts.{texts_of}
use Rattle.py_tree.proofs.Arenas.{extends_same, extends_equal, extends_then, extends_list, extends_name, extends_stmt}
use Rattle.py_expressions.specs.Given as expressions
use Rattle.py_types.specs.Given as types
use Rattle.py_statements.specs.Given.{IsPlain, ArePlainBehind, AddsPlain, Grows}

-- ---- plain statements

none_behind : (xs : List StmtNode) → ArePlainBehind (length xs) xs
none_behind [] = tt
none_behind (x ∷ xs) = none_behind xs

one_behind : (xs : List StmtNode) (x : StmtNode) → IsPlain x → ArePlainBehind (length xs) (xs ++ x ∷ [])
one_behind [] x h = (h, tt)
one_behind (y ∷ xs) x h = one_behind xs x h

both_behind : (xs ys zs : List StmtNode) → ArePlainBehind (length xs) (xs ++ ys) → ArePlainBehind (length (xs ++ ys)) ((xs ++ ys) ++ zs) → ArePlainBehind (length xs) ((xs ++ ys) ++ zs)
both_behind [] [] zs h p = p
both_behind [] (y ∷ ys) zs h p = (h.0, both_behind [] ys zs h.1 p)
both_behind (x ∷ xs) ys zs h p = both_behind xs ys zs h p

same_stmts : (m n : State) → n.stmts ≡ m.stmts → AddsPlain m n
unfolding AddsPlain
same_stmts m n e = rw e (none_behind m.stmts)

pub plain_same : (m : State) → AddsPlain m m
plain_same m = same_stmts m m refl

pub plain_equal : (m n : State) → n ≡ m → AddsPlain m n
plain_equal m n e = same_stmts m n (ap (λ (s : State). s.stmts) e)

pub plain_then : (l m n : State) → Grows l m → Grows m n → AddsPlain l n
unfolding AddsPlain
plain_then l m n g h =
    let from : ArePlainBehind (length l.stmts) (l.stmts ++ g.extends.more_stmts) = subst (λ v. ArePlainBehind (length l.stmts) v) g.extends.stmts g.plain in
    let whole : n.stmts ≡ (l.stmts ++ g.extends.more_stmts) ++ h.extends.more_stmts = h.extends.stmts ∙ ap (λ v. v ++ h.extends.more_stmts) g.extends.stmts in
    let behind : ArePlainBehind (length (l.stmts ++ g.extends.more_stmts)) ((l.stmts ++ g.extends.more_stmts) ++ h.extends.more_stmts) = subst (λ v. ArePlainBehind (length v) ((l.stmts ++ g.extends.more_stmts) ++ h.extends.more_stmts)) g.extends.stmts (subst (λ v. ArePlainBehind (length m.stmts) v) whole h.plain) in
    subst (λ v. ArePlainBehind (length l.stmts) v) (sym whole) (both_behind l.stmts g.extends.more_stmts h.extends.more_stmts from behind)

pub plain_expressions : (m n : State) → expressions.Grows m n → AddsPlain m n
plain_expressions m n g = same_stmts m n g.stmts

pub plain_types : (m n : State) → types.Grows m n → AddsPlain m n
plain_types m n g = same_stmts m n g.stmts

pub plain_stmt : (m n : State) (x : StmtNode) → IsPlain x → n ≡ record m { stmts = m.stmts ++ x ∷ [] } → AddsPlain m n
unfolding AddsPlain
plain_stmt m n x h e = rw e (one_behind m.stmts x h)

pub plain_list : (m n : State) (x : List NameId) → n ≡ record m { lists = m.lists ++ x ∷ [] } → AddsPlain m n
plain_list m n x e = same_stmts m n (ap (λ (s : State). s.stmts) e)

pub plain_name : (m n : State) (t : List ℕ) → n ≡ record m { names = with_name m.names t } → AddsPlain m n
plain_name m n t e = same_stmts m n (ap (λ (s : State). s.stmts) e)

-- ---- growth

pub grows_same : (m : State) → IsModule m → Grows m m
grows_same m d = record { extends = extends_same m; plain = plain_same m; tops = refl; valid = d }

pub grows_equal : (m n : State) → n ≡ m → IsModule n → Grows m n
grows_equal m n e d = record { extends = extends_equal m n e; plain = plain_equal m n e; tops = ap (λ (x : State). x.tops) e; valid = d }

pub grows_then : (l m n : State) → Grows l m → Grows m n → Grows l n
grows_then l m n g h = record { extends = extends_then l m n g.extends h.extends; plain = plain_then l m n g h; tops = h.tops ∙ g.tops; valid = h.valid }

-- by an expression that is read
pub grows_expressions : (m n : State) → expressions.Grows m n → Grows m n
grows_expressions m n g = record { extends = g.extends; plain = plain_expressions m n g; tops = g.tops; valid = g.valid }

-- by a type
pub grows_types : (m n : State) → types.Grows m n → Grows m n
grows_types m n g = record { extends = g.extends; plain = plain_types m n g; tops = g.tops; valid = g.valid }

-- by a statement
pub grows_stmt : (m n : State) (x : StmtNode) → IsPlain x → n ≡ record m { stmts = m.stmts ++ x ∷ [] } → IsModule n → Grows m n
grows_stmt m n x h e d = record { extends = extends_stmt m n x e; plain = plain_stmt m n x h e; tops = ap (λ (s : State). s.tops) e; valid = d }

-- by a list of names
pub grows_list : (m n : State) (x : List NameId) → n ≡ record m { lists = m.lists ++ x ∷ [] } → IsModule n → Grows m n
grows_list m n x e d = record { extends = extends_list m n x e; plain = plain_list m n x e; tops = ap (λ (s : State). s.tops) e; valid = d }

-- by a name
pub grows_name : (m n : State) (t : List ℕ) → n ≡ record m { names = with_name m.names t } → IsModule n → Grows m n
grows_name m n t e d = record { extends = extends_name m n t e; plain = plain_name m n t e; tops = ap (λ (s : State). s.tops) e; valid = d }

-- the text of a name that is found
pub text_found : (names : List (List ℕ)) (n : NameId) (t : List ℕ) → slice_get names n.index ≡ Some t → text_of names n ≡ t
text_found names n t e = get_or_from_slice_get names n.index t [] e

-- the texts of a list that is added
pub texts_added : (m n : State) (x : List NameId) (l : NamesId) → n ≡ record m { lists = m.lists ++ x ∷ [] } → l.index ≡ length m.lists → texts_of n l ≡ map (text_of m.names) x
texts_added m n x l e at = rw (e, at, get_or-append_seam m.lists x [] []) refl
