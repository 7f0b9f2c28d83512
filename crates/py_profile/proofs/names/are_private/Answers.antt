use Rattle.std.proofs.Common.{◌∙◌, sym}
use Rattle.spec_names.specs.Names.{is_private}
use Rattle.py_profile.proofs.Below.{name_below}
use Rattle.py_profile.proofs.Listed.{no_name, none_passes, one_passes}
use Rattle.py_profile.proofs.names.are_private.Goals as goal

pub name_text-requires : goal.name_text-requires
name_text-requires c = name_below _ c.args.names.now c.loop-name.name-index _ c.requires c.loop-name-test.true

pub returns-then-is_private : goal.returns-then-is_private
returns-then-is_private c = sym (one_passes c.args.module.now.names c.args.names.now c.loop-name.name-index no_name c.loop-name-test.true is_private c.name_text.result.now c.name_text.ensures.text c.loop-name.invariant (sym c.is_private.ensures ∙ c.if-is_private.true))

pub loop-name-preserved : goal.loop-name-preserved
loop-name-preserved c = none_passes c.args.module.now.names c.args.names.now c.loop-name.name-index no_name c.loop-name-test.true is_private c.name_text.result.now c.name_text.ensures.text c.loop-name.invariant (sym c.is_private.ensures ∙ c.if-is_private.false)
