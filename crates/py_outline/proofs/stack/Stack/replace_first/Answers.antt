use Rattle.std.proofs.Common.{◌≡◌, ◌-◌, length, ap, ◌∙◌, arith}
use Rattle.std.proofs.Math.ListN.{set}
use Rattle.std.specs.Prelude.{reverse}
use Rattle.py_outline.specs.Lists.{with_first}
use Rattle.py_outline.proofs.Fronts.{reverse-set_last}
use Rattle.py_outline.proofs.stack.Stack.replace_first.Goals as goal

pub returns-in-Some : goal.returns-in-Some
returns-in-Some g c =
    let e : c.in-Some.last ≡ length c.self.inside.items.items - 1 = omega (arith, c.in-Some.ensures, c.len.ensures) in
    ap (λ n. reverse (set c.self.inside.items.items n c.args.item)) e ∙ reverse-set_last c.args.item c.self.inside.items.items ∙ ap (with_first c.args.item) c.self.view_is
