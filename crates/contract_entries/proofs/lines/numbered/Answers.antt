use Rattle.std.proofs.Common.{◌≡◌, ◌∙◌, ◌==◌, ◌++◌, ◌∷◌, [], suc, map, ap, arith}
use Rattle.std.proofs.lemmas.List.{map-append}
use Rattle.std.specs.List.{slice_split}
use Rattle.std.specs.Option.{option_map}
use Rattle.spec_contracts.specs.Docstrings.{numbered}
use Rattle.contract_entries.specs.Given.{line_in}
use Rattle.contract_entries.proofs.Lining.{first_line, next_line}
use Rattle.contract_entries.proofs.lines.numbered.Goals as goal

pub loop-lines-init : goal.loop-lines-init
loop-lines-init c = rw c.new-lines.ensures.items (first_line c.args.line c.args.letters.now c.cut.result.0.now (option_map (λ s. s.now) c.cut.result.1) c.cut.ensures.before c.cut.ensures.behind)

pub loop-lines-preserved : goal.loop-lines-preserved
loop-lines-preserved c =
    let next : c.in-Some-checked_add.next ≡ suc c.loop-lines.number = omega arith in
    let items : map line_in c.push.new.self.items ≡ map line_in c.loop-lines.lines.items ++ line_in c.doc_line.result ∷ [] = ap (map line_in) (c.in_ok-push.ensures {u = tt}).items ∙ map-append line_in c.loop-lines.lines.items (c.doc_line.result ∷ []) in
    rw (items, next) (next_line (map line_in c.loop-lines.lines.items) (numbered c.args.line (slice_split (λ c. c == 10) c.args.letters.now)) c.loop-lines.number c.loop-lines.letters.now (option_map (λ s. s.now) c.loop-lines.rest) c.in-Some.behind.now (line_in c.doc_line.result) c.cut-in-loop-lines.result.0.now (option_map (λ s. s.now) c.cut-in-loop-lines.result.1) c.loop-lines.invariant (ap (option_map (λ s. s.now)) c.in-Some.is) c.doc_line.ensures c.cut-in-loop-lines.ensures.before c.cut-in-loop-lines.ensures.behind)
