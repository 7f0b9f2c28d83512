use Rattle.std.proofs.Common.{arith, inl, inr}
use Rattle.py_tree.proofs.StmtNodes.{stmts_more}
use Rattle.contract_owners.proofs.members.docstring.Goals as goal

pub first_literal-requires : goal.first_literal-requires
first_literal-requires c = rw c.deref.ensures.value (elim c.in-Def.is [
  | inl p ↦ stmts_more _ _ (omega arith) c.in-Def.body.items (let parts = rw p.5 at c.stmt.ensures.parts in parts.3)
  | inr p ↦ stmts_more _ _ (omega arith) c.in-Def.body.items (let parts = rw p.3 at c.stmt.ensures.parts in parts.1)
])
