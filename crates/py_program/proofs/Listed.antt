-- The names of the functions and classes of the first statements of a module.
use Rattle.std.proofs.Common.{◌≡◌, ℕ, zero, suc, ◌+◌, ◌<◌, ◌≤◌, Bool, true, false, List, [], ◌∷◌, ◌++◌, length, map, drop, get_or, slice_get, Option, Some, None, refl, sym, ap, arith, ◌∙◌, append_assoc, append-nil, add-one}
use Rattle.std.specs.Global.{Vec}
use Rattle.std.proofs.lemmas.List.{map-append}
use Rattle.spec_trees.specs.Module as block
use Rattle.spec_trees.specs.Module.{Block}
use Rattle.spec_uses.specs.Functions.{FunctionOf, class_functions, functions_behind}
use Rattle.spec_types.specs.Classes.{ClassOf, classes}
use Rattle.spec_programs.specs.Definitions.{is_free_named}
use Rattle.py_tree.specs.declared.ids.NameId.{NameId}
use Rattle.py_tree.specs.declared.ids.StmtId.{StmtId}
use Rattle.py_tree.specs.declared.ids.TypeId.{TypeId}
use Rattle.py_tree.specs.declared.stmts.ParameterNode.{ParameterNode}
use Rattle.py_tree.specs.declared.stmts.StmtNode.{StmtNode}
use Rattle.py_tree.specs.declared.stmts.StmtNode.TheVariants as node
use Rattle.py_tree.specs.Arena.{State, shown_stmt}
use Rattle.py_tree.specs.Exprs.{IsNameBelow}
use Rattle.py_tree.specs.Names.{text_of}
use Rattle.py_tree.specs.Stmts.{block_tree, stmt_tree}
use Rattle.py_program.specs.Named.{AreNamesThere, has_text}
use Rattle.py_program.proofs.Named.{is_class_named, stmts_end, stmts_from}
use Rattle.py_program.proofs.There.{all_push}

-- what tells of one name more
push_one : {X : Type 0} (p : X → Bool) (os : List X) (o : X) (rest : List Bool) → map p (os ++ o ∷ []) ++ rest ≡ map p os ++ (p o ∷ rest)
push_one p os o rest = rw (map-append, append_assoc) refl

-- ---- a class

-- the functions of a class before its statement i are listed without names, behind those that were there
abbrev pub AreMethodsTo : State → List StmtId → List (Option NameId) → List (Option NameId) → ℕ → Type 0
AreMethodsTo m b old new i = (k : ℕ) (x : List ℕ)
    → map (has_text m.names x) new ++ map (is_free_named x) (class_functions k (block_tree (shown_stmt m) (drop i b))) ≡ map (has_text m.names x) old ++ map (is_free_named x) (class_functions k (block_tree (shown_stmt m) b))

module _ (m : State) (b : List StmtId) (old new : List (Option NameId)) (i : ℕ) (h : AreMethodsTo m b old new i) where
  pub methods_more : (s : StmtId) (l e : ℕ) (n : NameId) (ps : Vec ParameterNode) (r : Option TypeId) (d : Vec StmtId) (more : List (Option NameId))
      → slice_get b i ≡ Some s → shown_stmt m s.index ≡ stmt_tree m (shown_stmt m) (node.Def l e n ps r d) → more ≡ new ++ None ∷ [] → AreMethodsTo m b old more (i + 1)
  methods_more s l e n ps r d more at is more-is k x =
      let rest : Block = block_tree (shown_stmt m) (drop (i + 1) b) in
      let here : map (is_free_named x) (class_functions k (block_tree (shown_stmt m) (drop i b))) ≡ false ∷ map (is_free_named x) (class_functions k rest) = rw (stmts_from (shown_stmt m) b i s at, is) refl in
      rw more-is (push_one (has_text m.names x) new None (map (is_free_named x) (class_functions k rest)) ∙ ap (λ (v : List Bool). map (has_text m.names x) new ++ v) (sym here) ∙ h k x)

  pub methods_pass : (s : StmtId) (y : StmtNode) → slice_get b i ≡ Some s → shown_stmt m s.index ≡ stmt_tree m (shown_stmt m) y
      → ((l e : ℕ) (n : NameId) (ps : Vec ParameterNode) (r : Option TypeId) (d : Vec StmtId) → y ≡ node.Def l e n ps r d → ⊥)
      → AreMethodsTo m b old new (i + 1)
  methods_pass s y at is not_def k x =
      let rest : Block = block_tree (shown_stmt m) (drop (i + 1) b) in
      let here : class_functions k (block_tree (shown_stmt m) (drop i b)) ≡ class_functions k rest = rw (stmts_from (shown_stmt m) b i s at, is) (no_method y not_def rest) in
      ap (λ (v : List FunctionOf). map (has_text m.names x) new ++ map (is_free_named x) v) (sym here) ∙ h k x
    where
      no_method : (y : StmtNode) → ((l e : ℕ) (n : NameId) (ps : Vec ParameterNode) (r : Option TypeId) (d : Vec StmtId) → y ≡ node.Def l e n ps r d → ⊥)
          → (rest : Block) → class_functions k (block.statement (stmt_tree m (shown_stmt m) y) rest) ≡ class_functions k rest
      no_method (node.Def l e n ps r d) not_def rest = absurd (not_def l e n ps r d refl)
      no_method y not_def rest = refl

  pub methods_all : length b ≤ i → (k : ℕ) (x : List ℕ) → map (has_text m.names x) new ≡ map (has_text m.names x) old ++ map (is_free_named x) (class_functions k (block_tree (shown_stmt m) b))
  methods_all le k x = sym (append-nil (map (has_text m.names x) new)) ∙ ap (λ (v : Block). map (has_text m.names x) new ++ map (is_free_named x) (class_functions k v)) (sym (stmts_end (shown_stmt m) b i le)) ∙ h k x

-- ---- a module

-- the functions and classes before the statement i of a module are listed
pub record AreListedTo (m : State) (fs cs : List (Option NameId)) (i : ℕ) : Type 0 where
  -- the number of classes there
  pub before : ℕ
  pub functions : (x : List ℕ) → map (has_text m.names x) fs ++ map (is_free_named x) (functions_behind before (block_tree (shown_stmt m) (drop i m.tops))) ≡ map (is_free_named x) (functions_behind 0 (block_tree (shown_stmt m) m.tops))
  pub functions_there : AreNamesThere m fs
  pub classes : (x : List ℕ) → map (has_text m.names x) cs ++ map (is_class_named x) (classes (block_tree (shown_stmt m) (drop i m.tops))) ≡ map (is_class_named x) (classes (block_tree (shown_stmt m) m.tops))
  pub classes_there : AreNamesThere m cs

pub none_listed : (m : State) → AreListedTo m [] [] 0
none_listed m = record { before = 0; functions = λ x. refl; functions_there = λ k d lt. absurd (omega arith); classes = λ x. refl; classes_there = λ k d lt. absurd (omega arith) }

module _ (m : State) (fs cs : List (Option NameId)) (i : ℕ) (h : AreListedTo m fs cs i) (s : StmtId) (at : slice_get m.tops i ≡ Some s) where
  abbrev behind : Block
  behind = block_tree (shown_stmt m) (drop (i + 1) m.tops)

  pub listed_function : (l e : ℕ) (n : NameId) (ps : Vec ParameterNode) (r : Option TypeId) (b : Vec StmtId) (more : List (Option NameId))
      → shown_stmt m s.index ≡ stmt_tree m (shown_stmt m) (node.Def l e n ps r b) → n.index < length m.names → more ≡ fs ++ Some n ∷ [] → AreListedTo m more cs (i + 1)
  listed_function l e n ps r b more is lt more-is = rw more-is (record {
    before = h.before;
    functions = λ x.
        let here : map (is_free_named x) (functions_behind h.before (block_tree (shown_stmt m) (drop i m.tops))) ≡ has_text m.names x (Some n) ∷ map (is_free_named x) (functions_behind h.before behind) = rw (stmts_from (shown_stmt m) m.tops i s at, is) refl in
        push_one (has_text m.names x) fs (Some n) (map (is_free_named x) (functions_behind h.before behind)) ∙ ap (λ (v : List Bool). map (has_text m.names x) fs ++ v) (sym here) ∙ h.functions x;
    functions_there = all_push (IsNameBelow (length m.names)) fs (Some n) h.functions_there lt;
    classes = λ x.
        let here : classes (block_tree (shown_stmt m) (drop i m.tops)) ≡ classes behind = rw (stmts_from (shown_stmt m) m.tops i s at, is) refl in
        ap (λ (v : List ClassOf). map (has_text m.names x) cs ++ map (is_class_named x) v) (sym here) ∙ h.classes x;
    classes_there = h.classes_there;
  })

  functions_here : (l e : ℕ) (n : NameId) (b : Vec StmtId) → shown_stmt m s.index ≡ stmt_tree m (shown_stmt m) (node.Class l e n b)
      → (c : ℕ) → functions_behind c (block_tree (shown_stmt m) (drop i m.tops)) ≡ class_functions c (block_tree (shown_stmt m) b.items) ++ functions_behind (c + 1) behind
  functions_here l e n b is c = rw (stmts_from (shown_stmt m) m.tops i s at, is, add-one c) refl

  pub listed_class : (l e : ℕ) (n : NameId) (b : Vec StmtId) (more_functions more_classes : List (Option NameId))
      → shown_stmt m s.index ≡ stmt_tree m (shown_stmt m) (node.Class l e n b) → n.index < length m.names
      → ((k : ℕ) (x : List ℕ) → map (has_text m.names x) more_functions ≡ map (has_text m.names x) fs ++ map (is_free_named x) (class_functions k (block_tree (shown_stmt m) b.items)))
      → AreNamesThere m more_functions → more_classes ≡ cs ++ Some n ∷ [] → AreListedTo m more_functions more_classes (i + 1)
  listed_class l e n b more_functions more_classes is lt methods there more-is = rw more-is (record {
    before = h.before + 1;
    functions = λ x.
        let inside : List FunctionOf = class_functions h.before (block_tree (shown_stmt m) b.items) in
        let after : List FunctionOf = functions_behind (h.before + 1) behind in
        let here : functions_behind h.before (block_tree (shown_stmt m) (drop i m.tops)) ≡ inside ++ after = functions_here l e n b is h.before in
        ap (λ (v : List Bool). v ++ map (is_free_named x) after) (methods h.before x)
        ∙ append_assoc (map (has_text m.names x) fs) (map (is_free_named x) inside) (map (is_free_named x) after)
        ∙ ap (λ (v : List Bool). map (has_text m.names x) fs ++ v) (sym (ap (map (is_free_named x)) here ∙ map-append (is_free_named x) inside after))
        ∙ h.functions x;
    functions_there = there;
    classes = λ x.
        let here : map (is_class_named x) (classes (block_tree (shown_stmt m) (drop i m.tops))) ≡ has_text m.names x (Some n) ∷ map (is_class_named x) (classes behind) = rw (stmts_from (shown_stmt m) m.tops i s at, is) refl in
        push_one (has_text m.names x) cs (Some n) (map (is_class_named x) (classes behind)) ∙ ap (λ (v : List Bool). map (has_text m.names x) cs ++ v) (sym here) ∙ h.classes x;
    classes_there = all_push (IsNameBelow (length m.names)) cs (Some n) h.classes_there lt;
  })

  pub listed_pass : (y : StmtNode) → shown_stmt m s.index ≡ stmt_tree m (shown_stmt m) y
      → ((l e : ℕ) (n : NameId) (ps : Vec ParameterNode) (r : Option TypeId) (b : Vec StmtId) → y ≡ node.Def l e n ps r b → ⊥)
      → ((l e : ℕ) (n : NameId) (b : Vec StmtId) → y ≡ node.Class l e n b → ⊥)
      → AreListedTo m fs cs (i + 1)
  listed_pass y is not_def not_class = record {
    before = h.before;
    functions = λ x.
        let here : functions_behind h.before (block_tree (shown_stmt m) (drop i m.tops)) ≡ functions_behind h.before behind = rw (stmts_from (shown_stmt m) m.tops i s at, is) (no_function y not_def not_class behind) in
        ap (λ (v : List FunctionOf). map (has_text m.names x) fs ++ map (is_free_named x) v) (sym here) ∙ h.functions x;
    functions_there = h.functions_there;
    classes = λ x.
        let here : classes (block_tree (shown_stmt m) (drop i m.tops)) ≡ classes behind = rw (stmts_from (shown_stmt m) m.tops i s at, is) (no_class y not_class behind) in
        ap (λ (v : List ClassOf). map (has_text m.names x) cs ++ map (is_class_named x) v) (sym here) ∙ h.classes x;
    classes_there = h.classes_there;
  }
    where
      no_function : (y : StmtNode)
          → ((l e : ℕ) (n : NameId) (ps : Vec ParameterNode) (r : Option TypeId) (b : Vec StmtId) → y ≡ node.Def l e n ps r b → ⊥)
          → ((l e : ℕ) (n : NameId) (b : Vec StmtId) → y ≡ node.Class l e n b → ⊥)
          → (rest : Block) → functions_behind h.before (block.statement (stmt_tree m (shown_stmt m) y) rest) ≡ functions_behind h.before rest
      no_function (node.Def l e n ps r b) not_def not_class rest = absurd (not_def l e n ps r b refl)
      no_function (node.Class l e n b) not_def not_class rest = absurd (not_class l e n b refl)
      no_function y not_def not_class rest = refl

      no_class : (y : StmtNode) → ((l e : ℕ) (n : NameId) (b : Vec StmtId) → y ≡ node.Class l e n b → ⊥)
          → (rest : Block) → classes (block.statement (stmt_tree m (shown_stmt m) y) rest) ≡ classes rest
      no_class (node.Class l e n b) not_class rest = absurd (not_class l e n b refl)
      no_class y not_class rest = refl

module _ (m : State) (fs cs : List (Option NameId)) (i : ℕ) (h : AreListedTo m fs cs i) (le : length m.tops ≤ i) where
  pub all_functions_listed : (x : List ℕ) → map (has_text m.names x) fs ≡ map (is_free_named x) (functions_behind 0 (block_tree (shown_stmt m) m.tops))
  all_functions_listed x = sym (append-nil (map (has_text m.names x) fs)) ∙ ap (λ (v : Block). map (has_text m.names x) fs ++ map (is_free_named x) (functions_behind h.before v)) (sym (stmts_end (shown_stmt m) m.tops i le)) ∙ h.functions x

  pub all_classes_listed : (x : List ℕ) → map (has_text m.names x) cs ≡ map (is_class_named x) (classes (block_tree (shown_stmt m) m.tops))
  all_classes_listed x = sym (append-nil (map (has_text m.names x) cs)) ∙ ap (λ (v : Block). map (has_text m.names x) cs ++ map (is_class_named x) (classes v)) (sym (stmts_end (shown_stmt m) m.tops i le)) ∙ h.classes x
