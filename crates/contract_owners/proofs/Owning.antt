-- The functions and classes of the first statements of a module and of a class.
use Rattle.std.proofs.Common.{◌≡◌, ℕ, zero, suc, ◌+◌, ◌<◌, ◌≤◌, List, [], ◌∷◌, ◌++◌, length, drop, drop-cons, map, get_or, slice_get, Option, Some, refl, sym, ap, arith, ◌∙◌, append_assoc, length-append, add-one}
use Rattle.std.specs.Global.{Vec}
use Rattle.std.proofs.lemmas.Grind.{common_steps}
use Rattle.std.proofs.lemmas.List.{map-append, length-map}
use Rattle.std.proofs.lemmas.Option.{gets}
use Rattle.spec_trees.specs.Module as block
use Rattle.spec_trees.specs.Module.{Statement, Block}
use Rattle.spec_contracts.specs.Owners as owners
use Rattle.spec_contracts.specs.Owners.{methods, owned}
use Rattle.py_tree.specs.declared.ids.NameId.{NameId}
use Rattle.py_tree.specs.declared.ids.StmtId.{StmtId}
use Rattle.py_tree.specs.declared.ids.TypeId.{TypeId}
use Rattle.py_tree.specs.declared.stmts.ParameterNode.{ParameterNode}
use Rattle.py_tree.specs.declared.stmts.StmtNode.{StmtNode}
use Rattle.py_tree.specs.declared.stmts.StmtNode.TheVariants as node
use Rattle.py_tree.specs.Arena.{State, shown_stmt}
use Rattle.py_tree.specs.Names.{text_of}
use Rattle.py_tree.specs.Stmts.{parameters_tree, block_tree, stmt_tree, AreStmtsBelow}
use Rattle.contract_owners.specs.declared.listing.Owned.{Owned}
use Rattle.contract_owners.specs.declared.listing.Owner.TheVariants.{Function, Class}
use Rattle.contract_owners.specs.Members.{AreThere, names_in, owned_in}

-- ---- parts of statements

pub names_are : (m : State) (ps : List ParameterNode) → names_in m.names ps ≡ map (λ p. p.name) (parameters_tree m ps)
names_are m [] = refl
names_are m (p ∷ ps) = ap (λ (xs : List (List ℕ)). text_of m.names p.name ∷ xs) (names_are m ps)

pub stmt_below : (n : ℕ) (xs : List StmtId) (i : ℕ) (d : StmtId) → AreStmtsBelow n xs → i < length xs → (get_or xs i d).index < n
stmt_below n [] i d h lt = absurd (omega arith)
stmt_below n (x ∷ xs) zero d h lt = h.0
stmt_below n (x ∷ xs) (suc i) d h lt = stmt_below n xs i d h.1 (omega arith)

-- a statement, and those behind it
stmts_from : (t : ℕ → Statement) (xs : List StmtId) (i : ℕ) (s : StmtId) → slice_get xs i ≡ Some s → block_tree t (drop i xs) ≡ block.statement (t s.index) (block_tree t (drop (i + 1) xs))
stmts_from t xs i s e = ap (block_tree t) (drop_from xs i s e)
  where
    drop_from : (xs : List StmtId) (i : ℕ) (s : StmtId) → slice_get xs i ≡ Some s → drop i xs ≡ s ∷ drop (i + 1) xs
    drop_from xs i s e = grind (arith, common_steps, gets, drop-cons)

-- ---- owners

pub there_push : (m : State) (os : List Owned) (o : Owned) → AreThere m os → o.statement.index < length m.stmts → AreThere m (os ++ o ∷ [])
there_push m [] o h lt = (lt, tt)
there_push m (p ∷ os) o h lt = (h.0, there_push m os o h.1 lt)

-- one more owner at the end
push_owned : (m : State) (os : List Owned) (o : Owned) (rest : List owners.Owned) → map (owned_in m) (os ++ o ∷ []) ++ rest ≡ map (owned_in m) os ++ owned_in m o ∷ rest
push_owned m os o rest = rw (map-append, append_assoc) refl

module _ (m : State) (s : StmtId) (l k : ℕ) (x : NameId) (ps : Vec ParameterNode) (r : Option TypeId) (b : Vec StmtId) (is : shown_stmt m s.index ≡ stmt_tree m (shown_stmt m) (node.Def l k x ps r b)) (f : ℕ) (rest : Block) where
  method_here : methods f (block.statement (shown_stmt m s.index) rest) ≡ owned_in m (record { owner = Function (record { index = f }); statement = s }) ∷ methods (f + 1) rest
  method_here = rw (is, add-one) refl

  function_here : (c : ℕ) → owned f c (block.statement (shown_stmt m s.index) rest) ≡ owned_in m (record { owner = Function (record { index = f }); statement = s }) ∷ owned (f + 1) c rest
  function_here c = rw (is, add-one) refl

class_here : (m : State) (s : StmtId) (l k : ℕ) (x : NameId) (b : Vec StmtId) → shown_stmt m s.index ≡ stmt_tree m (shown_stmt m) (node.Class l k x b) → (f c n : ℕ) (rest : Block) → n ≡ f + length (methods f (block_tree (shown_stmt m) b.items))
    → owned f c (block.statement (shown_stmt m s.index) rest) ≡ owned_in m (record { owner = Class (record { index = c }); statement = s }) ∷ methods f (block_tree (shown_stmt m) b.items) ++ owned n (c + 1) rest
class_here m s l k x b is f c n rest e = rw (is, e, add-one) refl

module _ (m : State) (t : ℕ → Statement) (rest : Block) where
  no_method : (x : StmtNode) (f : ℕ)
      → ((l k : ℕ) (x' : NameId) (ps : Vec ParameterNode) (r : Option TypeId) (b : Vec StmtId) → x ≡ node.Def l k x' ps r b → ⊥)
      → methods f (block.statement (stmt_tree m t x) rest) ≡ methods f rest
  no_method (node.Def l k x ps r b) f not_def = absurd (not_def l k x ps r b refl)
  no_method x f not_def = refl

  no_owner : (x : StmtNode) (f c : ℕ)
      → ((l k : ℕ) (x' : NameId) (ps : Vec ParameterNode) (r : Option TypeId) (b : Vec StmtId) → x ≡ node.Def l k x' ps r b → ⊥)
      → ((l k : ℕ) (x' : NameId) (b : Vec StmtId) → x ≡ node.Class l k x' b → ⊥)
      → owned f c (block.statement (stmt_tree m t x) rest) ≡ owned f c rest
  no_owner (node.Def l k x ps r b) f c not_def not_class = absurd (not_def l k x ps r b refl)
  no_owner (node.Class l k x b) f c not_def not_class = absurd (not_class l k x b refl)
  no_owner x f c not_def not_class = refl

-- ---- the functions of a class so far

-- the functions of a class before its statement i are found, behind the owners old
pub record AreMethodsTo (m : State) (b : List StmtId) (before : ℕ) (old new : List Owned) (f i : ℕ) : Type 0 where
  pub owners : map (owned_in m) new ++ methods f (block_tree (shown_stmt m) (drop i b)) ≡ map (owned_in m) old ++ methods before (block_tree (shown_stmt m) b)
  pub number : f + length (methods f (block_tree (shown_stmt m) (drop i b))) ≡ before + length (methods before (block_tree (shown_stmt m) b))
  pub there : AreThere m new
  pub count : f ≤ length new

module _ (m : State) (b : List StmtId) (before : ℕ) (old new : List Owned) (f i : ℕ) (h : AreMethodsTo m b before old new f i) where
  pub methods_more : (s : StmtId) (l k : ℕ) (x : NameId) (ps : Vec ParameterNode) (r : Option TypeId) (c : Vec StmtId) (o : Owned) (more : List Owned)
      → slice_get b i ≡ Some s → s.index < length m.stmts → shown_stmt m s.index ≡ stmt_tree m (shown_stmt m) (node.Def l k x ps r c)
      → o ≡ record { owner = Function (record { index = f }); statement = s } → more ≡ new ++ o ∷ []
      → AreMethodsTo m b before old more (f + 1) (i + 1)
  methods_more s l k x ps r c o more at lt is o-is more-is =
      let rest : Block = block_tree (shown_stmt m) (drop (i + 1) b) in
      let here : methods f (block_tree (shown_stmt m) (drop i b)) ≡ owned_in m o ∷ methods (f + 1) rest = rw (stmts_from (shown_stmt m) b i s at, o-is) (method_here m s l k x ps r c is f rest) in
      let n : length (methods f (block_tree (shown_stmt m) (drop i b))) ≡ suc (length (methods (f + 1) rest)) = ap length here in
      rw more-is (record {
        owners = push_owned m new o (methods (f + 1) rest) ∙ ap (λ (os : List owners.Owned). map (owned_in m) new ++ os) (sym here) ∙ h.owners;
        number = omega (arith, n, h.number);
        there = there_push m new o h.there (rw o-is lt);
        count = omega (arith, length-append new (o ∷ []), h.count);
      })

  pub methods_pass : (s : StmtId) (x : StmtNode) → slice_get b i ≡ Some s → shown_stmt m s.index ≡ stmt_tree m (shown_stmt m) x
      → ((l k : ℕ) (x' : NameId) (ps : Vec ParameterNode) (r : Option TypeId) (c : Vec StmtId) → x ≡ node.Def l k x' ps r c → ⊥)
      → AreMethodsTo m b before old new f (i + 1)
  methods_pass s x at is not_def =
      let rest : Block = block_tree (shown_stmt m) (drop (i + 1) b) in
      let here : methods f (block_tree (shown_stmt m) (drop i b)) ≡ methods f rest = rw (stmts_from (shown_stmt m) b i s at, is) (no_method m (shown_stmt m) rest x f not_def) in
      record {
        owners = ap (λ (os : List owners.Owned). map (owned_in m) new ++ os) (sym here) ∙ h.owners;
        number = ap (λ (os : List owners.Owned). f + length os) (sym here) ∙ h.number;
        there = h.there;
        count = h.count;
      }

-- ---- the functions and classes of a module so far

-- the functions and classes before the statement i of a module are found
pub record AreOwnersTo (m : State) (os : List Owned) (f c i : ℕ) : Type 0 where
  pub owners : map (owned_in m) os ++ owned f c (block_tree (shown_stmt m) (drop i m.tops)) ≡ owned 0 0 (block_tree (shown_stmt m) m.tops)
  pub there : AreThere m os
  pub count : f + c ≤ length os

module _ (m : State) (os : List Owned) (f c i : ℕ) (h : AreOwnersTo m os f c i) where
  pub owners_function : (s : StmtId) (l k : ℕ) (x : NameId) (ps : Vec ParameterNode) (r : Option TypeId) (b : Vec StmtId) (o : Owned) (more : List Owned)
      → slice_get m.tops i ≡ Some s → s.index < length m.stmts → shown_stmt m s.index ≡ stmt_tree m (shown_stmt m) (node.Def l k x ps r b)
      → o ≡ record { owner = Function (record { index = f }); statement = s } → more ≡ os ++ o ∷ []
      → AreOwnersTo m more (f + 1) c (i + 1)
  owners_function s l k x ps r b o more at lt is o-is more-is =
      let rest : Block = block_tree (shown_stmt m) (drop (i + 1) m.tops) in
      let here : owned f c (block_tree (shown_stmt m) (drop i m.tops)) ≡ owned_in m o ∷ owned (f + 1) c rest = rw (stmts_from (shown_stmt m) m.tops i s at, o-is) (function_here m s l k x ps r b is f rest c) in
      rw more-is (record {
        owners = push_owned m os o (owned (f + 1) c rest) ∙ ap (λ (v : List owners.Owned). map (owned_in m) os ++ v) (sym here) ∙ h.owners;
        there = there_push m os o h.there (rw o-is lt);
        count = omega (arith, length-append os (o ∷ []), h.count);
      })

  pub owners_class : (s : StmtId) (l k : ℕ) (x : NameId) (b : Vec StmtId) (o : Owned) (pushed more : List Owned) (n : ℕ)
      → slice_get m.tops i ≡ Some s → shown_stmt m s.index ≡ stmt_tree m (shown_stmt m) (node.Class l k x b)
      → o ≡ record { owner = Class (record { index = c }); statement = s } → pushed ≡ os ++ o ∷ []
      → map (owned_in m) more ≡ map (owned_in m) pushed ++ methods f (block_tree (shown_stmt m) b.items) → n ≡ f + length (methods f (block_tree (shown_stmt m) b.items)) → AreThere m more
      → AreOwnersTo m more n (c + 1) (i + 1)
  owners_class s l k x b o pushed more n at is o-is pushed-is more-is n-is there =
      let rest : Block = block_tree (shown_stmt m) (drop (i + 1) m.tops) in
      let inside : List owners.Owned = methods f (block_tree (shown_stmt m) b.items) in
      let here : owned f c (block_tree (shown_stmt m) (drop i m.tops)) ≡ owned_in m o ∷ inside ++ owned n (c + 1) rest = rw (stmts_from (shown_stmt m) m.tops i s at, o-is) (class_here m s l k x b is f c n rest n-is) in
      let all : map (owned_in m) more ≡ map (owned_in m) os ++ owned_in m o ∷ inside = rw (more-is, pushed-is) (push_owned m os o inside) in
      let sizes : length more ≡ length os + suc (length inside) = sym (length-map more (owned_in m)) ∙ ap length all ∙ length-append (map (owned_in m) os) (owned_in m o ∷ inside) ∙ ap (λ (j : ℕ). j + suc (length inside)) (length-map os (owned_in m)) in
      record {
        owners = ap (λ (v : List owners.Owned). v ++ owned n (c + 1) rest) all ∙ append_assoc (map (owned_in m) os) (owned_in m o ∷ inside) (owned n (c + 1) rest) ∙ ap (λ (v : List owners.Owned). map (owned_in m) os ++ v) (sym here) ∙ h.owners;
        there = there;
        count = omega (arith, sizes, h.count, n-is);
      }

  pub owners_pass : (s : StmtId) (x : StmtNode) → slice_get m.tops i ≡ Some s → shown_stmt m s.index ≡ stmt_tree m (shown_stmt m) x
      → ((l k : ℕ) (x' : NameId) (ps : Vec ParameterNode) (r : Option TypeId) (b : Vec StmtId) → x ≡ node.Def l k x' ps r b → ⊥)
      → ((l k : ℕ) (x' : NameId) (b : Vec StmtId) → x ≡ node.Class l k x' b → ⊥)
      → AreOwnersTo m os f c (i + 1)
  owners_pass s x at is not_def not_class =
      let rest : Block = block_tree (shown_stmt m) (drop (i + 1) m.tops) in
      let here : owned f c (block_tree (shown_stmt m) (drop i m.tops)) ≡ owned f c rest = rw (stmts_from (shown_stmt m) m.tops i s at, is) (no_owner m (shown_stmt m) rest x f c not_def not_class) in
      record {
        owners = ap (λ (v : List owners.Owned). map (owned_in m) os ++ v) (sym here) ∙ h.owners;
        there = h.there;
        count = h.count;
      }
