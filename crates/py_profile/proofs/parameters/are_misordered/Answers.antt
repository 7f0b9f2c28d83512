use Rattle.std.proofs.Common.{◌≡◌, ◌&&◌, ◌∙◌, false, ap, get_or}
use Rattle.std.specs.Prelude.{not}
use Rattle.std.specs.Option.{is_some}
use Rattle.py_tree.specs.Stmts.{parameters_tree}
use Rattle.name_scopes.proofs.Entering.{no_parameter}
use Rattle.py_profile.proofs.Defaults.{behind_none, none_misordered, not_both, not_first}
use Rattle.py_profile.proofs.parameters.are_misordered.Goals as goal
use Rattle.py_profile.proofs.parameters.are_misordered.Goals.{else-has_default-via-then-has_default+else-is_none, else-has_default-via-else-has_default}

pub loop-parameter-init : goal.loop-parameter-init
loop-parameter-init c = behind_none (parameters_tree c.args.module.now c.args.parameters.now)

pub loop-parameter-preserved : goal.loop-parameter-preserved
loop-parameter-preserved c =
    let fine : (c.loop-parameter.has_default && not (is_some (get_or c.args.parameters.now c.loop-parameter.parameter-index no_parameter).default)) ≡ false = elim c.else-has_default.branch [
      | else-has_default-via-then-has_default+else-is_none w ↦ not_both c.loop-parameter.has_default _ (w.is_none.ensures ∙ ap not w.if-is_none.false)
      | else-has_default-via-else-has_default w ↦ not_first _ _ w.if-has_default.false
    ] in
    rw c.is_some-has_default.ensures (none_misordered c.args.module.now c.args.parameters.now c.loop-parameter.parameter-index no_parameter c.loop-parameter.has_default c.loop-parameter-test.true c.loop-parameter.invariant fine)
