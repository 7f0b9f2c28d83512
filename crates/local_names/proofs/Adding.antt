-- Names that are added to a set, one after the other.
use Rattle.std.proofs.Common.{◌≡◌, ℕ, zero, suc, ◌+◌, ◌<◌, ◌≤◌, Bool, true, List, [], ◌∷◌, ◌++◌, length, drop, drop-cons, append-nil, get_or, slice_set, refl, sym, ap, arith, ◌∙◌}
use Rattle.std.proofs.lemmas.Grind.{common_steps}
use Rattle.std.proofs.lemmas.List.{append_assoc, length-set}
use Rattle.spec_trees.specs.Module.{Statement}
use Rattle.spec_names.specs.Defined.{onto}
use Rattle.spec_uses.specs.Statements.{assigned, assigned_by, assigned_in_branches, assigned_in_handlers}
use Rattle.py_tree.specs.declared.ids.NameId.{NameId}
use Rattle.py_tree.specs.declared.ids.StmtId.{StmtId}
use Rattle.py_tree.specs.declared.stmts.BranchNode.{BranchNode}
use Rattle.py_tree.specs.declared.stmts.HandlerNode.{HandlerNode}
use Rattle.py_tree.specs.Arena.{State}
use Rattle.py_tree.specs.Names.{AreDistinct, text_of}
use Rattle.py_tree.specs.Stmts.{block_tree, branches_tree, handlers_tree}
use Rattle.name_sets.specs.Marks.{marks_of}
use Rattle.name_sets.proofs.Marks.{marks_more}
use Rattle.local_names.specs.Adding.{Adds}

pub adds_none : (names : List (List ℕ)) (old : List Bool) → length old ≡ length names → Adds names old old []
adds_none names old e = record { size = e; set = λ xs f. f }

pub adds_one : (names : List (List ℕ)) (old : List Bool) (n : NameId) → AreDistinct names → n.index < length names → length old ≡ length names → Adds names old (slice_set old n.index true) (text_of names n ∷ [])
adds_one names old n d lt e = record {
  size = length-set old n.index true ∙ e;
  set = λ xs f. ap (λ (v : List Bool). slice_set v n.index true) f ∙ marks_more xs names n.index d lt;
}

onto_onto : (xs ys zs : List (List ℕ)) → onto (onto xs ys) zs ≡ onto xs (ys ++ zs)
onto_onto xs [] zs = refl
onto_onto xs (y ∷ ys) zs = onto_onto (y ∷ xs) ys zs

pub adds_then : (names : List (List ℕ)) (a b c : List Bool) (xs ys : List (List ℕ)) → Adds names a b xs → Adds names b c ys → Adds names a c (xs ++ ys)
adds_then names a b c xs ys f g = record {
  size = g.size;
  set = λ ts e. g.set (onto ts xs) (f.set ts e) ∙ ap (λ (v : List (List ℕ)). marks_of v names) (onto_onto ts xs ys);
}

-- ---- the statements of a block, one after the other

drop_from : {X : Type 0} (xs : List X) (i : ℕ) (d : X) → i < length xs → drop i xs ≡ get_or xs i d ∷ drop (i + 1) xs
drop_from xs i d lt = grind (arith, common_steps, drop-cons)

drop_all : {X : Type 0} (xs : List X) (i : ℕ) → length xs ≤ i → drop i xs ≡ []
drop_all [] zero le = refl
drop_all [] (suc i) le = refl
drop_all (x ∷ xs) zero le = absurd (omega arith)
drop_all (x ∷ xs) (suc i) le = drop_all xs i (omega arith)

-- Of these things, those before the place i have added their names.
module _ {X : Type 0} (names_in : List X → List (List ℕ)) (names_by : X → List (List ℕ)) (names : List (List ℕ)) (xs : List X) (old : List Bool) where
  pub record AddedTo (now : List Bool) (i : ℕ) : Type 0 where
    pub so_far : List (List ℕ)
    pub adds : Adds names old now so_far
    pub rest : names_in xs ≡ so_far ++ names_in (drop i xs)

  pub added_none : length old ≡ length names → AddedTo old 0
  added_none e = record { so_far = []; adds = adds_none names old e; rest = refl }

  module _ (now : List Bool) (i : ℕ) (h : AddedTo now i) where
    pub added_more : ((x : X) (ys : List X) → names_in (x ∷ ys) ≡ names_by x ++ names_in ys) → (new : List Bool) (d : X) → i < length xs → Adds names now new (names_by (get_or xs i d)) → AddedTo new (i + 1)
    added_more step new d lt adds = record {
      so_far = h.so_far ++ names_by (get_or xs i d);
      adds = adds_then names old now new h.so_far (names_by (get_or xs i d)) h.adds adds;
      rest = h.rest ∙ ap (λ (v : List X). h.so_far ++ names_in v) (drop_from xs i d lt) ∙ ap (λ (v : List (List ℕ)). h.so_far ++ v) (step (get_or xs i d) (drop (i + 1) xs))
          ∙ sym (append_assoc h.so_far (names_by (get_or xs i d)) (names_in (drop (i + 1) xs)));
    }

    pub added_all : names_in [] ≡ [] → length xs ≤ i → Adds names old now (names_in xs)
    added_all none le =
        let all : names_in xs ≡ h.so_far = h.rest ∙ ap (λ (v : List X). h.so_far ++ names_in v) (drop_all xs i le) ∙ ap (λ (v : List (List ℕ)). h.so_far ++ v) none ∙ append-nil h.so_far in
        rw all h.adds

module _ (m : State) (t : ℕ → Statement) where
  abbrev pub names_in_block : List StmtId → List (List ℕ)
  names_in_block xs = assigned (block_tree t xs)

  abbrev pub names_by_stmt : StmtId → List (List ℕ)
  names_by_stmt s = assigned_by (t s.index)

  pub block_step : (s : StmtId) (ss : List StmtId) → names_in_block (s ∷ ss) ≡ names_by_stmt s ++ names_in_block ss
  block_step s ss = refl

  abbrev pub names_in_branches : List BranchNode → List (List ℕ)
  names_in_branches bs = assigned_in_branches (branches_tree m t bs)

  abbrev pub names_by_branch : BranchNode → List (List ℕ)
  names_by_branch b = assigned (block_tree t b.body.items)

  pub branches_step : (b : BranchNode) (bs : List BranchNode) → names_in_branches (b ∷ bs) ≡ names_by_branch b ++ names_in_branches bs
  branches_step b bs = refl

  abbrev pub names_in_handlers : List HandlerNode → List (List ℕ)
  names_in_handlers hs = assigned_in_handlers (handlers_tree m t hs)

  abbrev pub names_by_handler : HandlerNode → List (List ℕ)
  names_by_handler h = assigned (block_tree t h.body.items)

  pub handlers_step : (h : HandlerNode) (hs : List HandlerNode) → names_in_handlers (h ∷ hs) ≡ names_by_handler h ++ names_in_handlers hs
  handlers_step h hs = refl
