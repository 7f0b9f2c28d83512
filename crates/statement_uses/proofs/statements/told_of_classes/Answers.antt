use Rattle.std.proofs.Common.{◌≡◌, ◌<◌, [], get_or, length, slice_index_or, arith, refl}
use Rattle.std.proofs.lemmas.Option.{get_or_from_slice_get}
use Rattle.name_scopes.proofs.Walking.{walked_all, walked_more, walked_none}
use Rattle.statement_uses.proofs.Blocks.{classes_step, no_name, of_class, of_classes}
use Rattle.statement_uses.proofs.Telling.{raised_told}
use Rattle.statement_uses.proofs.statements.told_of_classes.Goals as goal

pub loop-i-init : goal.loop-i-init
loop-i-init c =
    let names = c.args.module.now.names in
    walked_none names (of_classes names c.args.line) (of_class names c.args.line) (slice_index_or c.args.module.now.lists c.args.classes.index []) c.args.scope.now c.args.told

pub loop-i-preserved : goal.loop-i-preserved
loop-i-preserved c =
    let names = c.args.module.now.names in
    let h = c.args.scope.now in
    let xs = slice_index_or c.args.module.now.lists c.args.classes.index [] in
    let within : c.loop-i.i < length xs = omega (arith, c.names_len-i-end.ensures, c.loop-i-test.true) in
    let found : get_or xs c.loop-i.i no_name ≡ c.names_get-class.result = get_or_from_slice_get xs c.loop-i.i c.names_get-class.result no_name c.names_get-class.ensures.name in
    let raised = rw c.meaning.ensures at c.told_of_raised-told.ensures in
    let walks = raised_told names h c.names_get-class.result c.loop-i.told c.told_of_raised-told.result c.args.line c.names_get-class.ensures.below raised in
    walked_more names (of_classes names c.args.line) (of_class names c.args.line) xs h c.args.told h c.loop-i.told c.loop-i.i c.loop-i.invariant (classes_step names c.args.line) h c.told_of_raised-told.result no_name within (rw found walks)

pub returns : goal.returns
returns c =
    let names = c.args.module.now.names in
    let xs = slice_index_or c.args.module.now.lists c.args.classes.index [] in
    let walks = walked_all names (of_classes names c.args.line) (of_class names c.args.line) xs c.args.scope.now c.args.told c.args.scope.now c.loop-i.told c.loop-i.i c.loop-i.invariant (λ s. refl) (omega (arith, c.names_len-i-end.ensures, c.loop-i-test.false)) in
    walks.tells
