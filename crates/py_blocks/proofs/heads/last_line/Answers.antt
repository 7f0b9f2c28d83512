use Rattle.std.proofs.Common.{length, refl}
use Rattle.std.proofs.lemmas.Option.{slice_get_read, slice_get_within}
use Rattle.py_blocks.proofs.Lines.{extent_found}
use Rattle.py_blocks.proofs.heads.last_line.Goals as goal

pub returns : goal.returns
returns c x e =
    let there = slice_get_read c.args.lines.now (length c.args.lines.now) c.args.pos c.in-Some.line.now refl (slice_get_within _ _ x e) c.in-Some.ensures.lookup.1 in
    extent_found _ c.args.pos x c.in-Some.line.now _ e there c.last_behind.ensures
