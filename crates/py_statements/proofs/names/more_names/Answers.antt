use Rattle.std.proofs.Common.{◌≡◌, ◌+◌, ◌-◌, suc, sym, arith, ◌∙◌}
use Rattle.py_statements.proofs.Growth.{grows_then}
use Rattle.py_statements.proofs.Later.{names_then}
use Rattle.py_statements.proofs.Turns.{names_turn, names_end, names_out}
use Rattle.py_statements.proofs.names.more_names.Goals as goal

pub list-preserved : goal.list-preserved
list-preserved c =
    let k : c.args.room - c.list.counter ≡ suc (c.args.room - (c.list.counter + 1)) = omega arith in
    let l = names_then _ _ c.in_ok-name.ensures.grown c.list.invariant.grown.valid _ _ _ c.list.invariant.here c.in_ok-name.ensures.there c.in_ok-push.ensures.items in
    record {
      grown = grows_then _ _ _ c.list.invariant.grown c.in_ok-name.ensures.grown;
      here = l.0;
      read = rw (l.1, c.in_ok-name.ensures.text) (sym (names_turn _ _ _ _ _ _ _ k c.in-Some.ensures) ∙ c.list.invariant.read);
    }

pub returns-in_default-clause-read : goal.returns-in_default-clause-read
returns-in_default-clause-read c =
    let k : c.args.room - c.list.counter ≡ suc (c.args.room - (c.list.counter + 1)) = omega arith in
    (c.list.invariant.here, sym c.list.invariant.read ∙ names_end _ _ _ _ _ k c.in_default.ensures)

pub returns-clause-read : goal.returns-clause-read
returns-clause-read c =
    let z : c.args.room - c.list.counter ≡ 0 = omega arith in
    sym c.list.invariant.read ∙ names_out _ _ _ _ z

pub returns-in_err-name-clause-grown : goal.returns-in_err-name-clause-grown
returns-in_err-name-clause-grown c = grows_then _ _ _ c.list.invariant.grown c.add_name.ensures.grown

pub returns-in_err-push-clause-grown : goal.returns-in_err-push-clause-grown
returns-in_err-push-clause-grown c = grows_then _ _ _ c.list.invariant.grown c.add_name.ensures.grown
