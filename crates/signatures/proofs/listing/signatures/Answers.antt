use Rattle.std.proofs.Common.{arith}
use Rattle.std.proofs.lemmas.List.Elements.{All-push}
use Rattle.given_types.specs.Giving.{IsSignature}
use Rattle.signatures.proofs.Listed.{annotated_at, listed_all, listed_more}
use Rattle.signatures.proofs.Parameters.{function_there}
use Rattle.signatures.proofs.listing.signatures.Goals as goal

pub signature-requires-clause-function : goal.signature-requires-clause-function
signature-requires-clause-function c = function_there c.args.module.now c.args.functions.now c.loop-i.i _ c.requires.functions c.loop-i-test.true

pub signature-requires-clause-annotated : goal.signature-requires-clause-annotated
signature-requires-clause-annotated c = rw (c.deref.ensures.value, c.index-annotated-i.is) (annotated_at c.args.module.now c.args.annotated.now c.args.functions.now c.loop-i.i _ _ c.requires.annotated c.loop-i-test.true)

pub loop-i-preserved : goal.loop-i-preserved
loop-i-preserved c =
    let m = c.args.module.now in
    let ss = c.loop-i.signatures.items in
    let s = c.in_ok-signature.field-0 in
    let made = c.in_ok-signature.ensures {u = tt} in
    let by = (c.in_ok-push.ensures {u = tt}).items in (
      listed_more m c.args.checked.now c.args.functions.now ss c.push.new.self.items c.loop-i.i s _ _ c.loop-i.invariant.0 (omega (arith, c.loop-i-test.true, c.requires.checked)) c.loop-i-test.true made.signature by,
      λ n h. rw by (All-push (IsSignature m n) ss s (c.loop-i.invariant.1 n h) (made.there n (h c.loop-i.i _ c.loop-i-test.true))),
    )

pub returns-clause-signatures : goal.returns-clause-signatures
returns-clause-signatures c = listed_all c.args.module.now c.args.checked.now c.args.functions.now c.loop-i.signatures.items c.loop-i.i c.loop-i.invariant.0 (omega (arith, c.loop-i-test.false, c.requires.checked)) (omega (arith, c.loop-i-test.false))
