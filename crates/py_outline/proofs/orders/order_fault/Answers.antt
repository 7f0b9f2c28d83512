use Rattle.std.proofs.Common.{◌≡◌, [], ◌∷◌, ◌++◌, length, sym, ap, ◌∙◌}
use Rattle.std.proofs.lemmas.List.{length_push}
use Rattle.std.proofs.lemmas.Iterator.Adapters.{YieldsList-from_rev_slice}
use Rattle.std.proofs.lemmas.Iterator.Consumers.{YieldsList-turn}
use Rattle.spec_syntax.specs.Placement.{smallest}
use Rattle.py_outline.specs.Lists.{first_item}
use Rattle.py_outline.specs.Orders.{past_block, block_faults, next_faults, order_faults}
use Rattle.py_outline.specs.Told.{least}
use Rattle.py_outline.proofs.Ends.{last_items, last_items-more}
use Rattle.py_outline.proofs.Following.{shows_more, order_turn}
use Rattle.py_outline.proofs.orders.order_fault.Goals as goal

pub loop-outline-preserved : goal.loop-outline-preserved
loop-outline-preserved c =
    let t = YieldsList-turn (YieldsList-from_rev_slice c.args.outlines.now (cc)) c.loop-outline.yielded _ c.loop-outline.yielded_by _ _ c.in-Some.outline c.in-Some.is c.next.ensures.steps in
    let o = c.in-Some.outline.now in
    let kept = c.loop-outline.behind in
    let seen : last_items (length (c.loop-outline.yielded ++ c.in-Some.outline ∷ [])) c.args.outlines.now ≡ o ∷ last_items (length c.loop-outline.yielded) c.args.outlines.now = ap (λ n. last_items n c.args.outlines.now) (length_push c.loop-outline.yielded c.in-Some.outline) ∙ last_items-more (length c.loop-outline.yielded) c.args.outlines.now o t.0 t.1 in
    let past : c.first-in-loop-outline.result ≡ first_item (past_block o kept) = c.first-in-loop-outline.ensures ∙ ap first_item c.drop_block.ensures in
    let told : c.with_block_faults-told.result ≡ least c.loop-outline.told (smallest (block_faults o (first_item kept))) = c.with_block_faults-told.ensures ∙ ap (λ k. least c.loop-outline.told (smallest (block_faults o k))) c.first.ensures in
    record {
      told = c.with_next_faults-told.ensures
          ∙ ap (λ k. least c.with_block_faults-told.result (smallest (next_faults o k))) past
          ∙ ap (λ a. least a (smallest (next_faults o (first_item (past_block o kept))))) told
          ∙ order_turn c.loop-outline.told o kept (last_items (length c.loop-outline.yielded) c.args.outlines.now) c.loop-outline.invariant.told c.loop-outline.invariant.shown
          ∙ ap (λ os. smallest (order_faults os)) (sym seen);
      shown = rw (seen, c.in_ok-push.ensures.ok, c.drop_block.ensures) (shows_more o kept (last_items (length c.loop-outline.yielded) c.args.outlines.now) c.loop-outline.invariant.shown);
    }
