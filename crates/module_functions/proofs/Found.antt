-- The functions of the first statements of a class and of a module.
use Rattle.std.proofs.Common.{◌≡◌, ℕ, zero, suc, ◌+◌, ◌<◌, ◌≤◌, List, [], ◌∷◌, ◌++◌, length, drop, drop-cons, map, get_or, slice_get, Option, Some, None, refl, sym, ap, arith, ◌∙◌, append_assoc, add-one, append-nil}
use Rattle.std.specs.Global.{Vec}
use Rattle.std.proofs.lemmas.Grind.{common_steps}
use Rattle.std.proofs.lemmas.List.{map-append}
use Rattle.std.proofs.lemmas.Option.{gets}
use Rattle.spec_trees.specs.Module as block
use Rattle.spec_trees.specs.Module.{Statement, Block}
use Rattle.spec_uses.specs.Functions.{FunctionOf, class_functions, functions_behind}
use Rattle.py_tree.specs.declared.ids.NameId.{NameId}
use Rattle.py_tree.specs.declared.ids.StmtId.{StmtId}
use Rattle.py_tree.specs.declared.ids.TypeId.{TypeId}
use Rattle.py_tree.specs.declared.stmts.ParameterNode.{ParameterNode}
use Rattle.py_tree.specs.declared.stmts.StmtNode.{StmtNode}
use Rattle.py_tree.specs.declared.stmts.StmtNode.TheVariants as node
use Rattle.py_tree.specs.Arena.{State, shown_stmt}
use Rattle.py_tree.specs.Stmts.{AreStmtsBelow, block_tree, stmt_tree}
use Rattle.module_functions.specs.declared.function.Function.{Function}
use Rattle.module_functions.specs.Listed.{AreThere, IsThere, function_in}

pub stmt_below : (n : ℕ) (xs : List StmtId) (i : ℕ) (d : StmtId) → AreStmtsBelow n xs → i < length xs → (get_or xs i d).index < n
stmt_below n [] i d h lt = absurd (omega arith)
stmt_below n (x ∷ xs) zero d h lt = h.0
stmt_below n (x ∷ xs) (suc i) d h lt = stmt_below n xs i d h.1 (omega arith)

-- a statement, and those behind it
stmts_from : (t : ℕ → Statement) (xs : List StmtId) (i : ℕ) (s : StmtId) → slice_get xs i ≡ Some s → block_tree t (drop i xs) ≡ block.statement (t s.index) (block_tree t (drop (i + 1) xs))
stmts_from t xs i s e = ap (block_tree t) (drop_from xs i s e)
  where
    drop_from : (xs : List StmtId) (i : ℕ) (s : StmtId) → slice_get xs i ≡ Some s → drop i xs ≡ s ∷ drop (i + 1) xs
    drop_from xs i s e = grind (arith, common_steps, gets, drop-cons)

pub stmts_end : (t : ℕ → Statement) (xs : List StmtId) (i : ℕ) → length xs ≤ i → block_tree t (drop i xs) ≡ block.no_statement
stmts_end t xs i le = ap (block_tree t) (drop_all xs i le)
  where
    drop_all : (xs : List StmtId) (i : ℕ) → length xs ≤ i → drop i xs ≡ []
    drop_all [] zero le = refl
    drop_all [] (suc i) le = refl
    drop_all (x ∷ xs) zero le = absurd (omega arith)
    drop_all (x ∷ xs) (suc i) le = drop_all xs i (omega arith)

there_push : (m : State) (fs : List Function) (f : Function) → AreThere m fs → IsThere m f → AreThere m (fs ++ f ∷ [])
there_push m [] f h lt = (lt, tt)
there_push m (g ∷ fs) f h lt = (h.0, there_push m fs f h.1 lt)

-- one more function at the end
push_function : (m : State) (fs : List Function) (f : Function) (rest : List FunctionOf) → map (function_in m) (fs ++ f ∷ []) ++ rest ≡ map (function_in m) fs ++ function_in m f ∷ rest
push_function m fs f rest = rw (map-append, append_assoc) refl

-- ---- statements that are functions, and others

module _ (m : State) (s : StmtId) (l k : ℕ) (x : NameId) (ps : Vec ParameterNode) (r : Option TypeId) (b : Vec StmtId) (is : shown_stmt m s.index ≡ stmt_tree m (shown_stmt m) (node.Def l k x ps r b)) (rest : Block) where
  method_here : (c : ℕ) → class_functions c (block.statement (shown_stmt m s.index) rest) ≡ function_in m (record { statement = s; class = Some c }) ∷ class_functions c rest
  method_here c = rw is refl

  function_here : (c : ℕ) → functions_behind c (block.statement (shown_stmt m s.index) rest) ≡ function_in m (record { statement = s; class = None }) ∷ functions_behind c rest
  function_here c = rw is refl

class_here : (m : State) (s : StmtId) (l k : ℕ) (x : NameId) (b : Vec StmtId) → shown_stmt m s.index ≡ stmt_tree m (shown_stmt m) (node.Class l k x b) → (c : ℕ) (rest : Block)
    → functions_behind c (block.statement (shown_stmt m s.index) rest) ≡ class_functions c (block_tree (shown_stmt m) b.items) ++ functions_behind (c + 1) rest
class_here m s l k x b is c rest = rw (is, add-one) refl

module _ (m : State) (t : ℕ → Statement) (rest : Block) where
  no_method : (x : StmtNode) (c : ℕ)
      → ((l k : ℕ) (x' : NameId) (ps : Vec ParameterNode) (r : Option TypeId) (b : Vec StmtId) → x ≡ node.Def l k x' ps r b → ⊥)
      → class_functions c (block.statement (stmt_tree m t x) rest) ≡ class_functions c rest
  no_method (node.Def l k x ps r b) c not_def = absurd (not_def l k x ps r b refl)
  no_method x c not_def = refl

  no_function : (x : StmtNode) (c : ℕ)
      → ((l k : ℕ) (x' : NameId) (ps : Vec ParameterNode) (r : Option TypeId) (b : Vec StmtId) → x ≡ node.Def l k x' ps r b → ⊥)
      → ((l k : ℕ) (x' : NameId) (b : Vec StmtId) → x ≡ node.Class l k x' b → ⊥)
      → functions_behind c (block.statement (stmt_tree m t x) rest) ≡ functions_behind c rest
  no_function (node.Def l k x ps r b) c not_def not_class = absurd (not_def l k x ps r b refl)
  no_function (node.Class l k x b) c not_def not_class = absurd (not_class l k x b refl)
  no_function x c not_def not_class = refl

-- ---- the functions of a class so far

-- the functions of a class before its statement i are found, behind those that were there
pub record AreMethodsTo (m : State) (b : List StmtId) (c : ℕ) (old new : List Function) (i : ℕ) : Type 0 where
  pub functions : map (function_in m) new ++ class_functions c (block_tree (shown_stmt m) (drop i b)) ≡ map (function_in m) old ++ class_functions c (block_tree (shown_stmt m) b)
  pub there : AreThere m new

module _ (m : State) (b : List StmtId) (c : ℕ) (old new : List Function) (i : ℕ) (h : AreMethodsTo m b c old new i) where
  pub methods_more : (s : StmtId) (l k : ℕ) (x : NameId) (ps : Vec ParameterNode) (r : Option TypeId) (d : Vec StmtId) (more : List Function)
      → slice_get b i ≡ Some s → s.index < length m.stmts → shown_stmt m s.index ≡ stmt_tree m (shown_stmt m) (node.Def l k x ps r d)
      → more ≡ new ++ record { statement = s; class = Some c } ∷ [] → AreMethodsTo m b c old more (i + 1)
  methods_more s l k x ps r d more at lt is more-is =
      let f : Function = record { statement = s; class = Some c } in
      let rest : Block = block_tree (shown_stmt m) (drop (i + 1) b) in
      let here : class_functions c (block_tree (shown_stmt m) (drop i b)) ≡ function_in m f ∷ class_functions c rest = rw (stmts_from (shown_stmt m) b i s at) (method_here m s l k x ps r d is rest c) in
      rw more-is (record {
        functions = push_function m new f (class_functions c rest) ∙ ap (λ (v : List FunctionOf). map (function_in m) new ++ v) (sym here) ∙ h.functions;
        there = there_push m new f h.there lt;
      })

  pub methods_pass : (s : StmtId) (x : StmtNode) → slice_get b i ≡ Some s → shown_stmt m s.index ≡ stmt_tree m (shown_stmt m) x
      → ((l k : ℕ) (x' : NameId) (ps : Vec ParameterNode) (r : Option TypeId) (d : Vec StmtId) → x ≡ node.Def l k x' ps r d → ⊥)
      → AreMethodsTo m b c old new (i + 1)
  methods_pass s x at is not_def =
      let rest : Block = block_tree (shown_stmt m) (drop (i + 1) b) in
      let here : class_functions c (block_tree (shown_stmt m) (drop i b)) ≡ class_functions c rest = rw (stmts_from (shown_stmt m) b i s at, is) (no_method m (shown_stmt m) rest x c not_def) in
      record { functions = ap (λ (v : List FunctionOf). map (function_in m) new ++ v) (sym here) ∙ h.functions; there = h.there }

  pub methods_all : length b ≤ i → map (function_in m) new ≡ map (function_in m) old ++ class_functions c (block_tree (shown_stmt m) b)
  methods_all le = sym (append-nil (map (function_in m) new)) ∙ ap (λ (v : Block). map (function_in m) new ++ class_functions c v) (sym (stmts_end (shown_stmt m) b i le)) ∙ h.functions

-- ---- the functions of a module so far

-- the functions before the statement i of a module are found, and c classes
pub record AreFunctionsTo (m : State) (fs : List Function) (c i : ℕ) : Type 0 where
  pub functions : map (function_in m) fs ++ functions_behind c (block_tree (shown_stmt m) (drop i m.tops)) ≡ functions_behind 0 (block_tree (shown_stmt m) m.tops)
  pub there : AreThere m fs
  pub count : c ≤ i

module _ (m : State) (fs : List Function) (c i : ℕ) (h : AreFunctionsTo m fs c i) where
  pub functions_more : (s : StmtId) (l k : ℕ) (x : NameId) (ps : Vec ParameterNode) (r : Option TypeId) (b : Vec StmtId) (more : List Function)
      → slice_get m.tops i ≡ Some s → s.index < length m.stmts → shown_stmt m s.index ≡ stmt_tree m (shown_stmt m) (node.Def l k x ps r b)
      → more ≡ fs ++ record { statement = s; class = None } ∷ [] → AreFunctionsTo m more c (i + 1)
  functions_more s l k x ps r b more at lt is more-is =
      let f : Function = record { statement = s; class = None } in
      let rest : Block = block_tree (shown_stmt m) (drop (i + 1) m.tops) in
      let here : functions_behind c (block_tree (shown_stmt m) (drop i m.tops)) ≡ function_in m f ∷ functions_behind c rest = rw (stmts_from (shown_stmt m) m.tops i s at) (function_here m s l k x ps r b is rest c) in
      rw more-is (record {
        functions = push_function m fs f (functions_behind c rest) ∙ ap (λ (v : List FunctionOf). map (function_in m) fs ++ v) (sym here) ∙ h.functions;
        there = there_push m fs f h.there lt;
        count = omega (arith, h.count);
      })

  pub functions_class : (s : StmtId) (l k : ℕ) (x : NameId) (b : Vec StmtId) (more : List Function)
      → slice_get m.tops i ≡ Some s → shown_stmt m s.index ≡ stmt_tree m (shown_stmt m) (node.Class l k x b)
      → map (function_in m) more ≡ map (function_in m) fs ++ class_functions c (block_tree (shown_stmt m) b.items) → AreThere m more → AreFunctionsTo m more (c + 1) (i + 1)
  functions_class s l k x b more at is more-is there =
      let rest : Block = block_tree (shown_stmt m) (drop (i + 1) m.tops) in
      let inside : List FunctionOf = class_functions c (block_tree (shown_stmt m) b.items) in
      let here : functions_behind c (block_tree (shown_stmt m) (drop i m.tops)) ≡ inside ++ functions_behind (c + 1) rest = rw (stmts_from (shown_stmt m) m.tops i s at) (class_here m s l k x b is c rest) in
      record {
        functions = ap (λ (v : List FunctionOf). v ++ functions_behind (c + 1) rest) more-is ∙ append_assoc (map (function_in m) fs) inside (functions_behind (c + 1) rest) ∙ ap (λ (v : List FunctionOf). map (function_in m) fs ++ v) (sym here) ∙ h.functions;
        there = there;
        count = omega (arith, h.count);
      }

  pub functions_pass : (s : StmtId) (x : StmtNode) → slice_get m.tops i ≡ Some s → shown_stmt m s.index ≡ stmt_tree m (shown_stmt m) x
      → ((l k : ℕ) (x' : NameId) (ps : Vec ParameterNode) (r : Option TypeId) (b : Vec StmtId) → x ≡ node.Def l k x' ps r b → ⊥)
      → ((l k : ℕ) (x' : NameId) (b : Vec StmtId) → x ≡ node.Class l k x' b → ⊥)
      → AreFunctionsTo m fs c (i + 1)
  functions_pass s x at is not_def not_class =
      let rest : Block = block_tree (shown_stmt m) (drop (i + 1) m.tops) in
      let here : functions_behind c (block_tree (shown_stmt m) (drop i m.tops)) ≡ functions_behind c rest = rw (stmts_from (shown_stmt m) m.tops i s at, is) (no_function m (shown_stmt m) rest x c not_def not_class) in
      record { functions = ap (λ (v : List FunctionOf). map (function_in m) fs ++ v) (sym here) ∙ h.functions; there = h.there; count = omega (arith, h.count) }

  pub functions_all : length m.tops ≤ i → map (function_in m) fs ≡ functions_behind 0 (block_tree (shown_stmt m) m.tops)
  functions_all le = sym (append-nil (map (function_in m) fs)) ∙ ap (λ (v : Block). map (function_in m) fs ++ functions_behind c v) (sym (stmts_end (shown_stmt m) m.tops i le)) ∙ h.functions
