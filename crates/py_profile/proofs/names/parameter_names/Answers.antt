use Rattle.std.proofs.Common.{◌∙◌, ap, arith, map}
use Rattle.std.proofs.lemmas.List.{take_all}
use Rattle.py_tree.specs.Names.{text_of}
use Rattle.name_scopes.proofs.Entering.{no_parameter}
use Rattle.py_profile.proofs.Below.{ids_more, ids_of, texts_of_ids}
use Rattle.py_profile.proofs.names.parameter_names.Goals as goal

pub loop-parameter-preserved : goal.loop-parameter-preserved
loop-parameter-preserved c = rw (c.in_ok-push.ensures {u = tt}).items (ids_more c.args.module.now c.loop-parameter.names.items c.args.parameters.now c.loop-parameter.parameter-index no_parameter c.requires c.loop-parameter.invariant.0 c.loop-parameter.invariant.1 c.loop-parameter-test.true)

pub returns-clause-texts : goal.returns-clause-texts
returns-clause-texts c = ap (map (text_of c.args.module.now.names)) (c.loop-parameter.invariant.1 ∙ ap ids_of (take_all c.loop-parameter.parameter-index c.args.parameters.now (omega arith))) ∙ texts_of_ids c.args.module.now c.args.parameters.now
