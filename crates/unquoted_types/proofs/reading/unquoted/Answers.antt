use Rattle.std.proofs.Common.{◌∙◌, ◌+◌, ℕ, ap}
use Rattle.py_tree.specs.Arena.{shown_type}
use Rattle.unquoted_types.proofs.Bounds.{unquoted_is}
use Rattle.unquoted_types.proofs.reading.unquoted.Goals as goal

pub returns-clause-unquoted : goal.returns-clause-unquoted
returns-clause-unquoted c =
    let e = shown_type c.args.module.now c.args.t.index in
    unquoted_is c.exchanged.new.module c.exchanged.result c.in_ok-bound.bound e (c.in_ok-bound.ensures {u = tt} ∙ ap (λ (k : ℕ). k + 1) (c.in_ok-letters.ensures {u = tt})) c.exchanged.ensures.exchanged
