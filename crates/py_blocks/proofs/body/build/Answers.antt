use Rattle.std.proofs.Common.{arith, ◌<◌, ◌≤◌, List, length, sym, ap}
use Rattle.std.proofs.lemmas.Result.{err_from_is_err_and}
use Rattle.py_tree.specs.declared.ids.StmtId.{StmtId}
use Rattle.py_tree.specs.Arena.{shown_stmt}
use Rattle.py_tree.specs.Stmts.{block_tree}
use Rattle.py_lines.proofs.Turns.{fails_on}
use Rattle.py_blocks.proofs.Lines.{placed_length}
use Rattle.py_blocks.proofs.Turns.{module_stuck, module_left, module_read, none_left, some_left}
use Rattle.py_blocks.proofs.body.build.Goals as goal

pub returns-in_err-body-clause-read : goal.returns-in_err-body-clause-read
returns-in_err-body-clause-read c ps h =
    let r = err_from_is_err_and c.from_residual.result c.from_residual.ensures.1 in
    let none = ap (λ (v : List StmtId). block_tree (shown_stmt c.args.into.now) v) c.new.ensures.items in
    rw (r.1, r.2) (fails_on _ _ _ (c.in_err-body.ensures.read ps h) (λ n. module_stuck ps _ _ (sym (placed_length _ _ _ h)) none n))

pub returns-then-end-lines-clause-read : goal.returns-then-end-lines-clause-read
returns-then-end-lines-clause-read c ps h =
    let none = ap (λ (v : List StmtId). block_tree (shown_stmt c.args.into.now) v) c.new.ensures.items in
    let lt : c.in_ok-body.end < length ps = rw (placed_length _ _ ps h) c.if-end-lines.true in
    let l = some_left ps c.in_ok-body.end lt in
    module_left ps _ _ _ l.0 l.1 _ (sym (placed_length _ _ _ h)) none l.2 (c.in_ok-body.ensures.read ps h).1

pub returns-clause-read : goal.returns-clause-read
returns-clause-read c ps h =
    let none = ap (λ (v : List StmtId). block_tree (shown_stmt c.args.into.now) v) c.new.ensures.items in
    let le : length ps ≤ c.in_ok-body.end = rw (placed_length _ _ ps h) (omega (arith, c.if-end-lines.false)) in
    let b = c.in_ok-body.ensures.read ps h in
    (b.0, module_read ps _ _ _ _ (sym (placed_length _ _ _ h)) none (none_left ps c.in_ok-body.end le) b.1)
