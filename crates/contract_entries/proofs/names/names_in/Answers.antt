use Rattle.std.proofs.Common.{◌≡◌, ◌∙◌, ◌==◌, sym, ap, subst}
use Rattle.std.specs.Option.{option_map}
use Rattle.spec_contracts.specs.Heads.{all_named, names_in}
use Rattle.contract_entries.specs.Letters.{parts_of}
use Rattle.contract_entries.specs.Names.{behind_names}
use Rattle.contract_entries.proofs.Naming.{no_name, next_name}
use Rattle.contract_entries.proofs.names.names_in.Goals as goal

pub returns-in_default-2 : goal.returns-in_default-2
returns-in_default-2 c = sym (no_name (names_in c.args.letters.now) c.loop-rest.names.items (option_map (λ s. s.now) c.loop-rest.rest) c.in-Some.letters.now c.cut.result.0.now c.loop-rest.invariant (ap (option_map (λ s. s.now)) c.in-Some.is) c.cut.ensures.before (sym (c.in_ok-name.ensures {u = tt}) ∙ c.in_default-2.is))

pub loop-rest-preserved : goal.loop-rest-preserved
loop-rest-preserved c = subst (λ xs. names_in c.args.letters.now ≡ behind_names xs (all_named (parts_of (λ c. c == 44) (option_map (λ s. s.now) c.cut.result.1)))) (sym (c.in_ok-push.ensures {u = tt}).items)
    (next_name (names_in c.args.letters.now) c.loop-rest.names.items (option_map (λ s. s.now) c.loop-rest.rest) c.in-Some.letters.now c.cut.result.0.now c.loop-rest.invariant (ap (option_map (λ s. s.now)) c.in-Some.is) c.cut.ensures.before c.in-Some-2.name (option_map (λ s. s.now) c.cut.result.1) (sym (c.in_ok-name.ensures {u = tt}) ∙ c.in-Some-2.is) c.cut.ensures.behind)
