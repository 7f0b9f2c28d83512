-- The classes of the first statements of a module, and the constructor among the last ones of a class.
use Rattle.std.proofs.Common.{◌≡◌, ℕ, zero, suc, ◌+◌, ◌<◌, ◌≤◌, List, [], ◌∷◌, ◌++◌, length, drop, drop-cons, map, get_or, slice_get, Option, Some, refl, sym, ap, arith, ◌∙◌, append_assoc, append-nil, true, false}
use Rattle.std.specs.Global.{Vec}
use Rattle.std.proofs.lemmas.Grind.{common_steps}
use Rattle.std.proofs.lemmas.List.{map-append}
use Rattle.std.proofs.lemmas.Option.{gets}
use Rattle.spec_trees.specs.Module as block
use Rattle.spec_trees.specs.Module.{Block, Statement}
use Rattle.spec_names.specs.Names.{is_init}
use Rattle.spec_types.specs.Classes.{ClassOf, behind_self, classes, constructor_of}
use Rattle.py_tree.specs.declared.ids.NameId.{NameId}
use Rattle.py_tree.specs.declared.ids.StmtId.{StmtId}
use Rattle.py_tree.specs.declared.ids.TypeId.{TypeId}
use Rattle.py_tree.specs.declared.stmts.ParameterNode.{ParameterNode}
use Rattle.py_tree.specs.declared.stmts.StmtNode.{StmtNode}
use Rattle.py_tree.specs.declared.stmts.StmtNode.TheVariants as node
use Rattle.py_tree.specs.Arena.{State, shown_stmt}
use Rattle.py_tree.specs.Names.{text_of}
use Rattle.py_tree.specs.Stmts.{AreStmtsBelow, block_tree, parameters_tree, stmt_tree}
use Rattle.module_classes.specs.declared.class.Class.{Class}
use Rattle.module_classes.specs.Sorted.{AreThere, IsThere, class_in}

pub stmt_below : (n : ℕ) (xs : List StmtId) (i : ℕ) (d : StmtId) → AreStmtsBelow n xs → i < length xs → (get_or xs i d).index < n
stmt_below n [] i d h lt = absurd (omega arith)
stmt_below n (x ∷ xs) zero d h lt = h.0
stmt_below n (x ∷ xs) (suc i) d h lt = stmt_below n xs i d h.1 (omega arith)

-- a statement, and those behind it
stmts_from : (t : ℕ → Statement) (xs : List StmtId) (i : ℕ) (s : StmtId) → slice_get xs i ≡ Some s → block_tree t (drop i xs) ≡ block.statement (t s.index) (block_tree t (drop (i + 1) xs))
stmts_from t xs i s e = ap (block_tree t) (drop_from xs i s e)
  where
    drop_from : (xs : List StmtId) (i : ℕ) (s : StmtId) → slice_get xs i ≡ Some s → drop i xs ≡ s ∷ drop (i + 1) xs
    drop_from xs i s e = grind (arith, common_steps, gets, drop-cons)

pub stmts_end : (t : ℕ → Statement) (xs : List StmtId) (i : ℕ) → length xs ≤ i → block_tree t (drop i xs) ≡ block.no_statement
stmts_end t xs i le = ap (block_tree t) (drop_all xs i le)
  where
    drop_all : (xs : List StmtId) (i : ℕ) → length xs ≤ i → drop i xs ≡ []
    drop_all [] zero le = refl
    drop_all [] (suc i) le = refl
    drop_all (x ∷ xs) zero le = absurd (omega arith)
    drop_all (x ∷ xs) (suc i) le = drop_all xs i (omega arith)

-- ---- the constructor of a class

-- no constructor stands before the statement i
abbrev pub IsConstructorFrom : State → List StmtId → ℕ → Type 0
IsConstructorFrom m b i = constructor_of (block_tree (shown_stmt m) (drop i b)) ≡ constructor_of (block_tree (shown_stmt m) b)

module _ (m : State) (b : List StmtId) (i : ℕ) (h : IsConstructorFrom m b i) (s : StmtId) (at : slice_get b i ≡ Some s) where
  module _ (l k : ℕ) (x : NameId) (ps : Vec ParameterNode) (r : Option TypeId) (d : Vec StmtId) (is : shown_stmt m s.index ≡ stmt_tree m (shown_stmt m) (node.Def l k x ps r d)) where
    pub constructor_here : is_init (text_of m.names x) ≡ true → behind_self (parameters_tree m ps.items) ≡ constructor_of (block_tree (shown_stmt m) b)
    constructor_here init =
        let rest : Block = block_tree (shown_stmt m) (drop (i + 1) b) in
        let here : constructor_of (block_tree (shown_stmt m) (drop i b)) ≡ behind_self (parameters_tree m ps.items) = rw (stmts_from (shown_stmt m) b i s at, is, init) refl in
        sym here ∙ h

    pub constructor_behind : is_init (text_of m.names x) ≡ false → IsConstructorFrom m b (i + 1)
    constructor_behind other =
        let rest : Block = block_tree (shown_stmt m) (drop (i + 1) b) in
        let here : constructor_of (block_tree (shown_stmt m) (drop i b)) ≡ constructor_of rest = rw (stmts_from (shown_stmt m) b i s at, is, other) refl in
        sym here ∙ h

  pub constructor_passed : (x : StmtNode) → shown_stmt m s.index ≡ stmt_tree m (shown_stmt m) x
      → ((l k : ℕ) (x' : NameId) (ps : Vec ParameterNode) (r : Option TypeId) (d : Vec StmtId) → x ≡ node.Def l k x' ps r d → ⊥)
      → IsConstructorFrom m b (i + 1)
  constructor_passed x is not_def =
      let rest : Block = block_tree (shown_stmt m) (drop (i + 1) b) in
      let here : constructor_of (block_tree (shown_stmt m) (drop i b)) ≡ constructor_of rest = rw (stmts_from (shown_stmt m) b i s at, is) (no_def x not_def rest) in
      sym here ∙ h
    where
      no_def : (x : StmtNode)
          → ((l k : ℕ) (x' : NameId) (ps : Vec ParameterNode) (r : Option TypeId) (d : Vec StmtId) → x ≡ node.Def l k x' ps r d → ⊥)
          → (rest : Block) → constructor_of (block.statement (stmt_tree m (shown_stmt m) x) rest) ≡ constructor_of rest
      no_def (node.Def l k x ps r d) not_def rest = absurd (not_def l k x ps r d refl)
      no_def x not_def rest = refl

-- ---- the classes of a module so far

there_push : (m : State) (cs : List Class) (c : Class) → AreThere m cs → IsThere m c → AreThere m (cs ++ c ∷ [])
there_push m [] c h is = (is, tt)
there_push m (d ∷ cs) c h is = (h.0, there_push m cs c h.1 is)

pub class_there : (m : State) (cs : List Class) (i : ℕ) (d : Class) → AreThere m cs → i < length cs → IsThere m (get_or cs i d)
class_there m [] i d h lt = absurd (omega arith)
class_there m (c ∷ cs) zero d h lt = h.0
class_there m (c ∷ cs) (suc i) d h lt = class_there m cs i d h.1 (omega arith)

-- the classes before the statement i of a module are found
pub record AreClassesTo (m : State) (cs : List Class) (i : ℕ) : Type 0 where
  pub classes : map (class_in m) cs ++ classes (block_tree (shown_stmt m) (drop i m.tops)) ≡ classes (block_tree (shown_stmt m) m.tops)
  pub there : AreThere m cs

module _ (m : State) (cs : List Class) (i : ℕ) (h : AreClassesTo m cs i) where
  pub classes_more : (s : StmtId) (l k : ℕ) (x : NameId) (b : Vec StmtId) (more : List Class)
      → slice_get m.tops i ≡ Some s → s.index < length m.stmts → shown_stmt m s.index ≡ stmt_tree m (shown_stmt m) (node.Class l k x b)
      → more ≡ cs ++ record { statement = s } ∷ [] → AreClassesTo m more (i + 1)
  classes_more s l k x b more at lt is more-is =
      let c : Class = record { statement = s } in
      let rest : Block = block_tree (shown_stmt m) (drop (i + 1) m.tops) in
      let here : classes (block_tree (shown_stmt m) (drop i m.tops)) ≡ class_in m c ∷ classes rest = rw (stmts_from (shown_stmt m) m.tops i s at, is) refl in
      rw more-is (record {
        classes = push_class c (classes rest) ∙ ap (λ (v : List ClassOf). map (class_in m) cs ++ v) (sym here) ∙ h.classes;
        there = there_push m cs c h.there (lt, rw is tt);
      })
    where
      push_class : (c : Class) (rest : List ClassOf) → map (class_in m) (cs ++ c ∷ []) ++ rest ≡ map (class_in m) cs ++ class_in m c ∷ rest
      push_class c rest = rw (map-append, append_assoc) refl

  pub classes_pass : (s : StmtId) (x : StmtNode) → slice_get m.tops i ≡ Some s → shown_stmt m s.index ≡ stmt_tree m (shown_stmt m) x
      → ((l k : ℕ) (x' : NameId) (b : Vec StmtId) → x ≡ node.Class l k x' b → ⊥)
      → AreClassesTo m cs (i + 1)
  classes_pass s x at is not_class =
      let rest : Block = block_tree (shown_stmt m) (drop (i + 1) m.tops) in
      let here : classes (block_tree (shown_stmt m) (drop i m.tops)) ≡ classes rest = rw (stmts_from (shown_stmt m) m.tops i s at, is) (no_class x not_class rest) in
      record { classes = ap (λ (v : List ClassOf). map (class_in m) cs ++ v) (sym here) ∙ h.classes; there = h.there }
    where
      no_class : (x : StmtNode) → ((l k : ℕ) (x' : NameId) (b : Vec StmtId) → x ≡ node.Class l k x' b → ⊥)
          → (rest : Block) → classes (block.statement (stmt_tree m (shown_stmt m) x) rest) ≡ classes rest
      no_class (node.Class l k x b) not_class rest = absurd (not_class l k x b refl)
      no_class x not_class rest = refl

  pub classes_all : length m.tops ≤ i → map (class_in m) cs ≡ classes (block_tree (shown_stmt m) m.tops)
  classes_all le = sym (append-nil (map (class_in m) cs)) ∙ ap (λ (v : Block). map (class_in m) cs ++ classes v) (sym (stmts_end (shown_stmt m) m.tops i le)) ∙ h.classes
