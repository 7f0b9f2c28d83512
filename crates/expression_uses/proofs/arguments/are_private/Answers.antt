use Rattle.std.proofs.Common.{◌∙◌, get_or, length, ap, sym, refl}
use Rattle.std.specs.List.{list_any}
use Rattle.spec_names.specs.Names.{is_private}
use Rattle.py_tree.specs.Arena.{shown}
use Rattle.py_tree.specs.Exprs.{IsNameBelow}
use Rattle.name_scopes.proofs.Repeating.{argument_below, no_argument}
use Rattle.expression_uses.proofs.Keywords.{keyword_none, keyword_some, text_is}
use Rattle.expression_uses.proofs.arguments.are_private.Goals as goal
use Rattle.expression_uses.proofs.arguments.are_private.Goals.{in-Some+else-is_private, in_default}

pub name_text-requires : goal.name_text-requires
name_text-requires c =
    let m = c.args.module.now in
    let there : IsNameBelow (length m.names) (get_or c.args.arguments.now c.loop-argument.argument-index no_argument).name = argument_below _ _ c.args.arguments.now c.loop-argument.argument-index no_argument c.requires c.loop-argument-test.true in
    rw c.in-Some.is at there

pub returns-then-is_private : goal.returns-then-is_private
returns-then-is_private c =
    let m = c.args.module.now in
    let more = keyword_some m.names (shown m) c.args.arguments.now c.loop-argument.argument-index no_argument c.loop-argument-test.true c.in-Some.name c.in-Some.is in
    let here = sym c.is_private.ensures ∙ c.if-is_private.true in
    rw (c.loop-argument.invariant, more, text_is m.names c.in-Some.name c.name_text.result.now c.name_text.ensures.text, here) refl

pub loop-argument-preserved : goal.loop-argument-preserved
loop-argument-preserved c = elim c.match-argument.branch [
  | in-Some+else-is_private w ↦
      let m = c.args.module.now in
      let more = keyword_some m.names (shown m) c.args.arguments.now c.loop-argument.argument-index no_argument c.loop-argument-test.true w.in-Some.name w.in-Some.is in
      let here = sym w.is_private.ensures ∙ w.if-is_private.false in
      rw (c.loop-argument.invariant, more, text_is m.names w.in-Some.name w.name_text.result.now w.name_text.ensures.text, here) refl
  | in_default w ↦
      let m = c.args.module.now in
      let less = keyword_none m.names (shown m) c.args.arguments.now c.loop-argument.argument-index no_argument c.loop-argument-test.true w.in_default.is in
      c.loop-argument.invariant ∙ ap (list_any is_private) less
]
