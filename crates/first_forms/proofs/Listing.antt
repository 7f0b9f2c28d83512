-- The functions of the first statements of a module.
use Rattle.std.proofs.Common.{◌≡◌, ℕ, suc, ◌+◌, ◌≤◌, Bool, true, false, List, [], ◌∷◌, ◌++◌, length, map, drop, drop-cons, slice_get, Option, Some, Result, Ok, Err, refl, sym, ap, arith, ◌∙◌, if◌then◌else◌}
use Rattle.std.specs.Borrow.{Bor}
use Rattle.std.specs.Global.{Vec}
use Rattle.std.specs.Prelude.{⊤}
use Rattle.std.proofs.lemmas.Grind.{common_steps}
use Rattle.std.proofs.lemmas.List.{map-append}
use Rattle.std.proofs.lemmas.Option.{gets}
use Rattle.spec_trees.specs.Module as block
use Rattle.spec_trees.specs.Module.{Block, Statement}
use Rattle.spec_contracts.specs.ContractLines as lines
use Rattle.spec_first_trees.specs.Program.{Function}
use Rattle.spec_names.specs.Lines.{line_of}
use Rattle.spec_names.specs.Members.{member_of}
use Rattle.spec_forms.specs.Forms.{both, functions_behind, functions_of, is_passed_over, lines_at}
use Rattle.py_tree.specs.declared.ids.NameId.{NameId}
use Rattle.py_tree.specs.declared.ids.StmtId.{StmtId}
use Rattle.py_tree.specs.declared.ids.TypeId.{TypeId}
use Rattle.py_tree.specs.declared.stmts.ParameterNode.{ParameterNode}
use Rattle.py_tree.specs.declared.stmts.StmtNode.{StmtNode}
use Rattle.py_tree.specs.declared.stmts.StmtNode.TheVariants as node
use Rattle.py_tree.specs.Arena.{State, shown_stmt}
use Rattle.py_tree.specs.Stmts.{block_tree, stmt_tree}
use Rattle.contract_lines.specs.declared.contracts.ContractLine.{ContractLine}
use Rattle.contract_lines.specs.Given.{line_in}
use Rattle.first_tree.specs.declared.nodes.FnNode.{FnNode}
use Rattle.first_tree.specs.Arena.{AreFunctionsBelow, Extends, ModuleState}
use Rattle.first_tree.specs.Functions.{function_in}
use Rattle.first_tree.proofs.Arenas.{extends_length, functions_kept as functions_stay}
use Rattle.first_promises.specs.declared.errors.FormError.{FormError}
use Rattle.first_promises.specs.declared.errors.FormError.TheVariants as form
use Rattle.first_forms.specs.declared.reading.Definition.{Definition}
use Rattle.first_forms.specs.Formed.{AreAdded, AreFormed, IsMore, functions_from}
use Rattle.first_forms.proofs.Kept.{functions_kept}
use Rattle.first_forms.proofs.Lists.{all_onto, both_onto, onto_append, onto_end, onto_error}
use Rattle.first_forms.proofs.Values.{stmts_end}

functions_append : (n : ℕ) (fs gs : List FnNode) → AreFunctionsBelow n fs → AreFunctionsBelow n gs → AreFunctionsBelow n (fs ++ gs)
functions_append n [] gs h k = k
functions_append n (f ∷ fs) gs h k = (h.0, functions_append n fs gs h.1 k)

-- functions that are added
pub record AreMore (old new : ModuleState) (r : Result (List Function) ℕ) : Type 0 where
  pub functions : List Function
  pub is : r ≡ Ok functions
  pub more : IsMore old new functions

added : (old new : ModuleState) (u : ⊤) (r : Result (List Function) ℕ) → AreAdded old new (Ok u) r → AreMore old new r
added old new u (Ok fs) h = record { functions = fs; is = refl; more = h }
added old new u (Err n) h = absurd h

-- The functions before the statement i are read, of which there are k.
pub record AreReadTo (m : State) (ls : List ContractLine) (r : ModuleState) (k i : ℕ) : Type 0 where
  pub count : k ≤ i
  pub below : AreFunctionsBelow (length r.nodes) r.functions
  pub rest : functions_of (map (line_in m) ls) (block_tree (shown_stmt m) m.tops) ≡ all_onto (map (function_in r.nodes) r.functions) (functions_behind k (map (line_in m) ls) (block_tree (shown_stmt m) (drop i m.tops)))

pub read_none : (m : State) (ls : List ContractLine) (r : ModuleState) → r.functions ≡ [] → AreReadTo m ls r 0 0
read_none m ls r e = record { count = omega arith; below = rw e tt; rest = rw e refl }

not_def : (m : State) (t : ℕ → Statement) (k : ℕ) (ls : List lines.ContractLine) (x : StmtNode) (c : Block)
    → ((l z : ℕ) (n : NameId) (ps : Vec ParameterNode) (o : Option TypeId) (b : Vec StmtId) → x ≡ node.Def l z n ps o b → ⊥)
    → functions_behind k ls (block.statement (stmt_tree m t x) c) ≡ (if is_passed_over (member_of (stmt_tree m t x)) then functions_behind k ls c else Err (line_of (stmt_tree m t x)))
not_def m t k ls (node.Def l z n ps o b) c h = absurd (h l z n ps o b refl)
not_def m t k ls x c h = refl

module _ (m : State) (ls : List ContractLine) (r : ModuleState) (k i : ℕ) (h : AreReadTo m ls r k i) where
  abbrev in_order : List lines.ContractLine
  in_order = map (line_in m) ls

  abbrev behind : Block
  behind = block_tree (shown_stmt m) (drop (i + 1) m.tops)

  pub read_all : length m.tops ≤ i → functions_of in_order (block_tree (shown_stmt m) m.tops) ≡ Ok (map (function_in r.nodes) r.functions)
  read_all le = h.rest ∙ ap (λ (b : Block). all_onto (map (function_in r.nodes) r.functions) (functions_behind k in_order b)) (stmts_end (shown_stmt m) m.tops i le) ∙ onto_end (map (function_in r.nodes) r.functions)

  module _ (s : StmtId) (at : slice_get m.tops i ≡ Some s) where
    from : block_tree (shown_stmt m) (drop i m.tops) ≡ block.statement (shown_stmt m s.index) behind
    from = ap (block_tree (shown_stmt m)) (drop_from m.tops i s at)
      where
        drop_from : (xs : List StmtId) (i : ℕ) (s : StmtId) → slice_get xs i ≡ Some s → drop i xs ≡ s ∷ drop (i + 1) xs
        drop_from xs i s e = grind (arith, common_steps, gets, drop-cons)

    -- ---- another statement

    module _ (x : StmtNode) (is : shown_stmt m s.index ≡ stmt_tree m (shown_stmt m) x) (other : (l z : ℕ) (n : NameId) (ps : Vec ParameterNode) (o : Option TypeId) (b : Vec StmtId) → x ≡ node.Def l z n ps o b → ⊥) where
      other_here : (b : Bool) → is_passed_over (member_of (shown_stmt m s.index)) ≡ b → functions_behind k in_order (block_tree (shown_stmt m) (drop i m.tops)) ≡ (if b then functions_behind k in_order behind else Err (line_of (shown_stmt m s.index)))
      other_here b e = rw from (rw (is, not_def m (shown_stmt m) k in_order x behind other) (rw (rw is at e) refl))

      pub read_past : is_passed_over (member_of (shown_stmt m s.index)) ≡ true → AreReadTo m ls r k (i + 1)
      read_past e = record { count = omega (arith, h.count); below = h.below; rest = h.rest ∙ ap (all_onto (map (function_in r.nodes) r.functions)) (other_here true e) }

      pub read_other : (n : ℕ) → n ≡ line_of (shown_stmt m s.index) → is_passed_over (member_of (shown_stmt m s.index)) ≡ false → functions_of in_order (block_tree (shown_stmt m) m.tops) ≡ Err n
      read_other n line e = rw line (h.rest ∙ ap (all_onto (map (function_in r.nodes) r.functions)) (other_here false e) ∙ onto_error (map (function_in r.nodes) r.functions) (line_of (shown_stmt m s.index)))

    -- ---- a function

    module _ (l z : ℕ) (x : NameId) (ps : Vec ParameterNode) (o : Option TypeId) (b : Vec StmtId) (is : shown_stmt m s.index ≡ stmt_tree m (shown_stmt m) (node.Def l z x ps o b)) (qs : Bor (List ParameterNode)) (cs : Bor (List StmtId)) (parameters : qs.now ≡ ps.items) (body : cs.now ≡ b.items) (own : List ContractLine) (found : map (line_in m) own ≡ lines_at k in_order) where
      abbrev definition : Definition
      definition = record { line = l; name = x; parameters = qs; body = cs }

      def_here : functions_behind k in_order (block_tree (shown_stmt m) (drop i m.tops)) ≡ both (λ fs gs. fs ++ gs) (functions_from m definition (map (line_in m) own)) (functions_behind (k + 1) in_order behind)
      def_here = let more : k + 1 ≡ suc k = omega arith in rw (from, is, found, parameters, body, more) refl

      reads : (c : Result (List Function) ℕ) → functions_from m definition (map (line_in m) own) ≡ c → functions_of in_order (block_tree (shown_stmt m) m.tops) ≡ all_onto (map (function_in r.nodes) r.functions) (both (λ fs gs. fs ++ gs) c (functions_behind (k + 1) in_order behind))
      reads c e = h.rest ∙ ap (all_onto (map (function_in r.nodes) r.functions)) (def_here ∙ ap (λ (v : Result (List Function) ℕ). both (λ fs gs. fs ++ gs) v (functions_behind (k + 1) in_order behind)) e)

      pub read_error : (old new : ModuleState) (e : FormError) → AreAdded old new (Err e) (functions_from m definition (map (line_in m) own)) → AreFormed (Err e) (functions_of in_order (block_tree (shown_stmt m) m.tops))
      read_error old new (form.NotBuilt n) a = reads (Err n) a ∙ onto_error (map (function_in r.nodes) r.functions) n
      read_error old new form.NoMemory a = tt

      pub read_more : (new : ModuleState) (u : ⊤) → Extends r.nodes new.nodes → AreAdded r new (Ok u) (functions_from m definition (map (line_in m) own)) → AreReadTo m ls new (k + 1) (i + 1)
      read_more new u g a =
          let f = added r new u (functions_from m definition (map (line_in m) own)) a in
          let rest : Result (List Function) ℕ = functions_behind (k + 1) in_order behind in
          let all : List Function = map (function_in r.nodes) r.functions in
          let shown : map (function_in new.nodes) new.functions ≡ all ++ f.functions =
          ap (map (function_in new.nodes)) f.more.is ∙ map-append (function_in new.nodes) r.functions f.more.more
          ∙ ap (λ (v : List Function). v ++ map (function_in new.nodes) f.more.more) (functions_kept r.nodes new.nodes g r.functions h.below)
          ∙ ap (λ (v : List Function). all ++ v) (sym f.more.shown) in
          record {
            count = omega (arith, h.count);
            below = rw f.more.is (functions_append (length new.nodes) r.functions f.more.more (functions_stay (length r.nodes) (length new.nodes) r.functions (extends_length r.nodes new.nodes g) h.below) f.more.below);
            rest = reads (Ok f.functions) f.is ∙ ap (all_onto all) (both_onto f.functions rest) ∙ sym (onto_append all f.functions rest) ∙ ap (λ (v : List Function). all_onto v rest) (sym shown);
          }
