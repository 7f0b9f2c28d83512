use Rattle.std.proofs.Common.{◌≡◌, ◌∙◌, ℕ, ◌+◌, ◌-◌, List, Option, arith, ap, sym, map, drop}
use Rattle.spec_trees.specs.Module.{Block}
use Rattle.spec_names.specs.Members.{Member}
use Rattle.spec_uses.specs.Meanings.{meaning_in}
use Rattle.py_tree.specs.declared.ids.StmtId.{StmtId}
use Rattle.py_tree.specs.Arena.{shown_stmt}
use Rattle.py_tree.specs.Stmts.{block_tree}
use Rattle.name_meanings.specs.Tables.{with_member}
use Rattle.name_meanings.proofs.Tables.{drop_all, one_before, stmts_from}
use Rattle.name_meanings.proofs.table.Meanings.new.Goals as goal

pub loop-behind-init : goal.loop-behind-init
loop-behind-init c =
    let m = c.args.module.now in (
      c.in_ok-meanings.ensures {u = tt} ∙ ap (λ (xs : List StmtId). map (meaning_in (block_tree (shown_stmt m) xs)) m.names) (sym (drop_all m.tops c.top-behind.result (omega (arith, c.top-behind.ensures.count)))),
      omega (arith, c.top-behind.ensures.count),
    )

pub loop-behind-preserved : goal.loop-behind-preserved
loop-behind-preserved c =
    let m = c.args.module.now in
    let i : ℕ = c.loop-behind.behind - 1 in
    let back : c.loop-behind.behind ≡ i + 1 = omega (arith, c.loop-behind-test.true) in
    let rest : Block = block_tree (shown_stmt m) (drop (i + 1) m.tops) in
    let so_far : c.loop-behind.meanings.items ≡ map (meaning_in rest) m.names = c.loop-behind.invariant.0 ∙ ap (λ (k : ℕ). map (meaning_in (block_tree (shown_stmt m) (drop k m.tops))) m.names) back in (
      c.define.ensures.set (meaning_in rest) so_far
          ∙ ap (λ (o : Option Member). map (with_member o (meaning_in rest)) m.names) c.member_of-member.ensures.member
          ∙ one_before m.names (shown_stmt m c.top_stmt.result.index) rest
          ∙ ap (λ (b : Block). map (meaning_in b) m.names) (sym (stmts_from (shown_stmt m) m.tops i c.top_stmt.result c.top_stmt.ensures.statement)),
      omega (arith, c.loop-behind.invariant.1),
    )
