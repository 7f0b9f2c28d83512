use Rattle.std.proofs.Common.{◌≡◌, ◌-◌, length, take, drop, subst, sym}
use Rattle.spec_syntax.specs.Texts.{unindented}
use Rattle.contract_entries.proofs.Cutting.{unindented_is}
use Rattle.contract_entries.proofs.letters.unindented.Goals as goal

pub returns : goal.returns
returns c = subst (λ n. take (length c.args.letters.now - n) (drop n c.args.letters.now) ≡ unindented c.args.letters.now) (sym c.indent.ensures.run) (sym (unindented_is c.args.letters.now))
