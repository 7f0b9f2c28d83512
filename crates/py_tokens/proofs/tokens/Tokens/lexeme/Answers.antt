use Rattle.std.proofs.Common.{◌≡◌}
use Rattle.std.specs.Prelude.{slice_get}
use Rattle.py_tokens.proofs.Spans.{rises_at, starts_at, ends_at}
use Rattle.py_tokens.proofs.tokens.Tokens.lexeme.Goals as goal

pub returns-clause-rises : goal.returns-clause-rises
returns-clause-rises c =
    let e : c.lexeme_in.result ≡ slice_get c.self.inside.lexemes.items c.args.i = rw (← c.deref.ensures.value) c.lexeme_in.ensures in
    rw (← c.self.view_is) (rises_at _ _ _ _ c.self.invariant.1 e)

pub returns-clause-starts : goal.returns-clause-starts
returns-clause-starts c =
    let e : c.lexeme_in.result ≡ slice_get c.self.inside.lexemes.items c.args.i = rw (← c.deref.ensures.value) c.lexeme_in.ensures in
    rw (← c.self.view_is) (starts_at _ _ _ _ c.self.invariant.0 c.self.invariant.1 e)

pub returns-clause-ends : goal.returns-clause-ends
returns-clause-ends c =
    let e : c.lexeme_in.result ≡ slice_get c.self.inside.lexemes.items c.args.i = rw (← c.deref.ensures.value) c.lexeme_in.ensures in
    rw (← c.self.view_is) (ends_at _ _ _ _ c.self.invariant.0 c.self.invariant.1 e)
