use Rattle.std.proofs.Common.{◌++◌, ◌+◌, List, ℕ, drop, map, ap, sym, ◌∙◌}
use Rattle.spec_forms.specs.Forms.{integer_parameter}
use Rattle.py_tree.specs.Stmts.{parameters_tree}
use Rattle.spec_first_trees.specs.Program.{Parameter}
use Rattle.first_tree.specs.Functions.{int_parameter}
use Rattle.first_promises.proofs.Named.{more_integers, no_parameter, one_name_more, rest_there, text_found}
use Rattle.first_promises.proofs.parameters.integer_parameters.Goals as goal

pub loop-parameter-preserved : goal.loop-parameter-preserved
loop-parameter-preserved c =
    let i : ℕ = c.loop-parameter.parameter-index in
    let rest : List Parameter = map integer_parameter (parameters_tree c.args.module.now (drop (i + 1) c.args.parameters.now)) in
    let text = text_found c.args.module.now.names _ c.name_text.result.now c.name_text.ensures.text in
    record {
      there = rest_there c.args.module.now c.args.parameters.now i no_parameter c.loop-parameter-test.true c.loop-parameter.invariant.there;
      types = more_integers c.args.module.now c.args.parameters.now i no_parameter c.loop-parameter-test.true (sym c.is_int.ensures ∙ c.if-not-is_int.false) ∙ c.loop-parameter.invariant.types;
      names = ap (λ (v : List (List ℕ)). map int_parameter v ++ rest) c.in_ok-push.ensures.items
          ∙ one_name_more c.args.module.now c.args.parameters.now i no_parameter c.loop-parameter-test.true c.loop-parameter.names.items c.in_ok-copy_name.field-0 (c.in_ok-copy_name.ensures ∙ sym text)
          ∙ c.loop-parameter.invariant.names;
    }
