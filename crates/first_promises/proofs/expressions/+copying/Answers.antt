use Rattle.std.proofs.Common.{arith, ap, sym, ◌∙◌}
use Rattle.std.proofs.lemmas.Result.{err_from_is_err_and}
use Rattle.py_tree.specs.State as source
use Rattle.first_promises.specs.Copies.{comparison}
use Rattle.first_promises.specs.Scopes.{names_in}
use Rattle.first_promises.proofs.Fitting.{binary_fails, binary_copied, chain_fails, chain_copied, group_copied, right_fails, both_copied}
use Rattle.first_promises.proofs.expressions.+copying.Goals as goal

pub copy-returns-in_err-operands-in-Binary-clause-copied : goal.copy-returns-in_err-operands-in-Binary-clause-copied
copy-returns-in_err-operands-in-Binary-clause-copied t c =
    let p = err_from_is_err_and c.from_residual-in_err-operands-in-Binary.result c.from_residual-in_err-operands-in-Binary.ensures.1 in
    rw (p.1, p.2) (binary_fails (names_in c.args.«module».now c.args.scope) c.args.room.height c.args.room.size _ c.in-Binary.line c.in-Binary.operator c.in-Some-binary_of.op _ _ _ (rw c.in-Binary.is at c.expr.ensures.tree) (sym c.in-Some-binary_of.ensures) c.in_err-operands-in-Binary.ensures.copied)

pub copy-returns-in_ok-expr-in-Binary-clause-copied : goal.copy-returns-in_ok-expr-in-Binary-clause-copied
copy-returns-in_ok-expr-in-Binary-clause-copied t c =
    let added = c.in_ok-expr-in-Binary.ensures.added in
    binary_copied (names_in c.args.«module».now c.args.scope) c.args.room.height c.args.room.size _ c.in-Binary.line c.in-Binary.operator c.in-Some-binary_of.op _ _ _ _ c.in_ok-operands-in-Binary.operands c.in-Binary.line _ (rw c.in-Binary.is at c.expr.ensures.tree) (sym c.in-Some-binary_of.ensures) c.in_ok-operands-in-Binary.ensures.copied added.0 added.1

pub copy-returns-in_err-operands-in-Chain-clause-copied : goal.copy-returns-in_err-operands-in-Chain-clause-copied
copy-returns-in_err-operands-in-Chain-clause-copied t c =
    let p = err_from_is_err_and c.from_residual-in_err-operands-in-Chain.result c.from_residual-in_err-operands-in-Chain.ensures.1 in
    rw (p.1, p.2) (chain_fails (names_in c.args.«module».now c.args.scope) c.args.room.height c.args.room.size _ _ c.in-Chain.links.items c.in-Some-comparison.op c.in-Some-comparison.second c.in-Chain.line _ _ (rw c.in-Chain.is at c.expr.ensures.tree) (ap comparison (sym c.deref.ensures.value) ∙ sym c.in-Some-comparison.ensures) c.in_err-operands-in-Chain.ensures.copied)

pub copy-returns-in_ok-expr-in-Group-clause-copied : goal.copy-returns-in_ok-expr-in-Group-clause-copied
copy-returns-in_ok-expr-in-Group-clause-copied t c =
    let added = c.in_ok-expr-in-Group.ensures.added in
    group_copied (names_in c.args.«module».now c.args.scope) c.args.room.height c.args.room.size _ c.in-Group.line c.in-Some.height _ _ _ c.in_ok-inner-in-Group.inner c.in-Group.line _ (rw c.in-Group.is at c.expr.ensures.tree) (omega arith) c.in_ok-inner-in-Group.ensures.copied added.0 added.1

pub copy-returns-in_ok-expr-in-Chain-clause-copied : goal.copy-returns-in_ok-expr-in-Chain-clause-copied
copy-returns-in_ok-expr-in-Chain-clause-copied t c =
    let added = c.in_ok-expr-in-Chain.ensures.added in
    chain_copied (names_in c.args.«module».now c.args.scope) c.args.room.height c.args.room.size _ _ c.in-Chain.links.items c.in-Some-comparison.op c.in-Some-comparison.second c.in-Chain.line _ _ _ c.in_ok-operands-in-Chain.operands c.in-Chain.line _ (rw c.in-Chain.is at c.expr.ensures.tree) (ap comparison (sym c.deref.ensures.value) ∙ sym c.in-Some-comparison.ensures) c.in_ok-operands-in-Chain.ensures.copied added.0 added.1

pub copy-returns-in-Name-clause-copied : goal.copy-returns-in-Name-clause-copied
copy-returns-in-Name-clause-copied t c =
    let tree = rw c.in-Name.is at c.expr.ensures.tree in
    rw tree c.add_name.ensures.copied

pub copy_operands-returns-in_err-right-clause-copied : goal.copy_operands-returns-in_err-right-clause-copied
copy_operands-returns-in_err-right-clause-copied t c =
    let p = err_from_is_err_and c.from_residual-in_err-right.result c.from_residual-in_err-right.ensures.1 in
    rw (p.1, p.2) (right_fails (names_in c.args.«module».now c.args.scope) c.args.room.height c.args.room.size c.in-Some.below.height c.in-Some.below.size c.in-Some.ensures.0 c.in-Some.ensures.1 (source.shown c.args.«module».now c.args.left.index) (source.shown c.args.«module».now c.args.right.index) _ c.in_ok-left.left _ c.in_ok-left.ensures.copied c.in_err-right.ensures.copied)

pub copy_operands-returns-clause-copied : goal.copy_operands-returns-clause-copied
copy_operands-returns-clause-copied t c = both_copied (names_in c.args.«module».now c.args.scope) c.args.room.height c.args.room.size c.in-Some.below.height c.in-Some.below.size c.in-Some.ensures.0 c.in-Some.ensures.1 (source.shown c.args.«module».now c.args.left.index) (source.shown c.args.«module».now c.args.right.index) _ _ c.in_ok-left.left c.in_ok-right.right c.in_ok-right.ensures.grown c.in_ok-left.ensures.copied c.in_ok-right.ensures.copied
