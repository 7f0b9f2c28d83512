use Rattle.std.proofs.Common.{◌∙◌, sym}
use Rattle.spec_names.specs.Names.{is_given}
use Rattle.py_profile.proofs.Below.{name_below}
use Rattle.py_profile.proofs.Listed.{no_name, none_passes, one_passes}
use Rattle.py_profile.proofs.names.are_given.Goals as goal

pub name_text-requires : goal.name_text-requires
name_text-requires c = name_below _ c.args.names.now c.loop-name.name-index _ c.requires c.loop-name-test.true

pub returns-then-is_given : goal.returns-then-is_given
returns-then-is_given c = sym (one_passes c.args.module.now.names c.args.names.now c.loop-name.name-index no_name c.loop-name-test.true is_given c.name_text.result.now c.name_text.ensures.text c.loop-name.invariant (sym c.is_given.ensures ∙ c.if-is_given.true))

pub loop-name-preserved : goal.loop-name-preserved
loop-name-preserved c = none_passes c.args.module.now.names c.args.names.now c.loop-name.name-index no_name c.loop-name-test.true is_given c.name_text.result.now c.name_text.ensures.text c.loop-name.invariant (sym c.is_given.ensures ∙ c.if-is_given.false)
