-- What is told behind more refusals, one statement after the other.
use Rattle.std.proofs.Common.{◌≡◌, ℕ, ◌+◌, List, ◌++◌, drop, slice_get, Option, Some, sym, ap, ◌∙◌}
use Rattle.std.proofs.lemmas.List.{append_assoc}
use Rattle.spec_trees.specs.Module.{Statement, Block}
use Rattle.spec_names.specs.declared.Refusal.{Refusal}
use Rattle.spec_names.specs.Members.{each}
use Rattle.py_tree.specs.declared.ids.StmtId.{StmtId}
use Rattle.py_tree.specs.Stmts.{block_tree}
use Rattle.name_meanings.proofs.Tables.{stmts_from}
use Rattle.told_refusals.specs.Telling.{Tells}
use Rattle.told_refusals.proofs.Telling.{tells_then}

-- what the statements before the place i add is told
pub record TellsTo (f : Statement → List Refusal) (t : ℕ → Statement) (xs : List StmtId) (old new : Option Refusal) (i : ℕ) : Type 0 where
  pub so_far : List Refusal
  pub told : Tells old new so_far
  pub rest : each f (block_tree t xs) ≡ so_far ++ each f (block_tree t (drop i xs))

module _ (f : Statement → List Refusal) (t : ℕ → Statement) (xs : List StmtId) (old : Option Refusal) where
  module _ (now : Option Refusal) (i : ℕ) (h : TellsTo f t xs old now i) where
    pub each_more : (new : Option Refusal) (s : StmtId) → slice_get xs i ≡ Some s → Tells now new (f (t s.index)) → TellsTo f t xs old new (i + 1)
    each_more new s at told = record {
      so_far = h.so_far ++ f (t s.index);
      told = tells_then old now new h.so_far (f (t s.index)) h.told told;
      rest = h.rest ∙ ap (λ (b : Block). h.so_far ++ each f b) (stmts_from t xs i s at) ∙ sym (append_assoc h.so_far (f (t s.index)) (each f (block_tree t (drop (i + 1) xs))));
    }
