-- Statements and names that are there.
use Rattle.std.proofs.Common.{◌≡◌, ℕ, zero, suc, ◌+◌, ◌<◌, List, [], ◌∷◌, ◌++◌, length, drop, drop-cons, map, take, get_or, refl, ap, arith, ◌∙◌, sym}
use Rattle.std.proofs.lemmas.Grind.{common_steps}
use Rattle.std.proofs.lemmas.List.{map-append, take_more}
use Rattle.py_tree.specs.declared.ids.NameId.{NameId}
use Rattle.py_tree.specs.declared.ids.StmtId.{StmtId}
use Rattle.py_tree.specs.declared.stmts.ParameterNode.{ParameterNode}
use Rattle.spec_names.specs.Names.{names_of}
use Rattle.py_tree.specs.Arena.{State}
use Rattle.py_tree.specs.Names.{AreNamesBelow, text_of}
use Rattle.py_tree.specs.Stmts.{AreParametersThere, AreStmtsBelow, parameters_tree}
use Rattle.name_scopes.proofs.Entering.{parameter_below}

-- the default of reads, which is never seen
abbrev pub no_statement : StmtId
no_statement = record { index = 0 }

pub stmt_below : (n : ℕ) (xs : List StmtId) (i : ℕ) (d : StmtId) → AreStmtsBelow n xs → i < length xs → (get_or xs i d).index < n
stmt_below n [] i d h lt = absurd (omega arith)
stmt_below n (x ∷ xs) zero d h lt = h.0
stmt_below n (x ∷ xs) (suc i) d h lt = stmt_below n xs i d h.1 (omega arith)

pub name_below : (n : ℕ) (xs : List NameId) (i : ℕ) (d : NameId) → AreNamesBelow n xs → i < length xs → (get_or xs i d).index < n
name_below n [] i d h lt = absurd (omega arith)
name_below n (x ∷ xs) zero d h lt = h.0
name_below n (x ∷ xs) (suc i) d h lt = name_below n xs i d h.1 (omega arith)

-- ---- names that are put together

pub names_push : (n : ℕ) (xs : List NameId) (x : NameId) → AreNamesBelow n xs → x.index < n → AreNamesBelow n (xs ++ x ∷ [])
names_push n [] x h lt = (lt, tt)
names_push n (y ∷ ys) x h lt = (h.0, names_push n ys x h.1 lt)

pub names_more : (n : ℕ) (xs all : List NameId) (i : ℕ) (x d : NameId) → AreNamesBelow n xs → x.index < n → xs ≡ take i all → i < length all → get_or all i d ≡ x → AreNamesBelow n (xs ++ x ∷ []) × (xs ++ x ∷ [] ≡ take (i + 1) all)
names_more n xs all i x d there below e lt is = (
  names_push n xs x there below,
  ap (λ (v : List NameId). v ++ x ∷ []) e ∙ ap (λ (v : NameId). take i all ++ v ∷ []) (sym is) ∙ sym (take_more all i d lt),
)

-- the names of parameters
abbrev pub ids_of : List ParameterNode → List NameId
ids_of ps = map (λ (p : ParameterNode). p.name) ps

pub ids_more : (m : State) (xs : List NameId) (ps : List ParameterNode) (i : ℕ) (d : ParameterNode) → AreParametersThere m ps → AreNamesBelow (length m.names) xs → xs ≡ ids_of (take i ps) → i < length ps
    → AreNamesBelow (length m.names) (xs ++ (get_or ps i d).name ∷ []) × (xs ++ (get_or ps i d).name ∷ [] ≡ ids_of (take (i + 1) ps))
ids_more m xs ps i d h there e lt = (
  names_push (length m.names) xs (get_or ps i d).name there (parameter_below m ps i d h lt),
  ap (λ (v : List NameId). v ++ (get_or ps i d).name ∷ []) e ∙ sym (map-append (λ (p : ParameterNode). p.name) (take i ps) (get_or ps i d ∷ [])) ∙ ap ids_of (sym (take_more ps i d lt)),
)

pub texts_of_ids : (m : State) (ps : List ParameterNode) → map (text_of m.names) (ids_of ps) ≡ names_of (parameters_tree m ps)
texts_of_ids m [] = refl
texts_of_ids m (p ∷ ps) = ap (λ (v : List (List ℕ)). text_of m.names p.name ∷ v) (texts_of_ids m ps)

pub names_from : (xs : List NameId) (i : ℕ) (x : NameId) → i < length xs → drop i xs ≡ get_or xs i x ∷ drop (i + 1) xs
names_from xs i x lt = grind (arith, common_steps, drop-cons)
