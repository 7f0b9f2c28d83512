use Rattle.std.proofs.Common.{List, [], ◌∷◌, sym, subst}
use Rattle.std.proofs.lemmas.List.Elements.{All-cons, All-nil}
use Rattle.given_types.specs.declared.Signature.{Signature}
use Rattle.given_types.specs.Giving.{AreSignatures, IsSignature}
use Rattle.type_needs.proofs.tests.signatures.Goals as goal

pub returns : goal.returns
returns c = λ m h f s.
    let second = c.in_ok-second.second in
    let called = c.in_ok-called.called in
    let last = All-cons (IsSignature m 2) called [] (c.in_ok-called.ensures m h) (All-nil (IsSignature m 2)) in
    let behind = All-cons (IsSignature m 2) second (called ∷ []) (c.in_ok-second.ensures m s) last in
    let all = All-cons (IsSignature m 2) c.in_ok-first.first (second ∷ called ∷ []) (c.in_ok-first.ensures m f) behind in
    subst (λ (v : List Signature). AreSignatures m 2 v) (sym c.in_ok-all.ensures.items) all
