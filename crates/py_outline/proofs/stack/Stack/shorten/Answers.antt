use Rattle.std.proofs.Common.{◌-◌, length, drop, reverse, ap, ◌∙◌}
use Rattle.py_outline.proofs.Ends.{reverse-take}
use Rattle.py_outline.proofs.stack.Stack.shorten.Goals as goal

pub returns : goal.returns
returns g c =
    let e = c.truncate.ensures.items in
    ap reverse e ∙ reverse-take c.args.len c.self.inside.items.items ∙ ap (λ s. drop (length s - c.args.len) s) c.self.view_is
