use Rattle.std.proofs.Common.{refl}
use Rattle.py_tree.specs.Arena.{shown}
use Rattle.expression_uses.proofs.Keywords.{count_is}
use Rattle.expression_uses.proofs.arguments.is_misused.Goals as goal

pub returns-else-has_keywords : goal.returns-else-has_keywords
returns-else-has_keywords c =
    let counted = count_is c.args.module.now.names (shown c.args.module.now) c.args.arguments.now in
    rw (c.in-Some.is, ← c.has_keywords.ensures, c.if-has_keywords.false, counted, c.takes.ensures) refl
