use Rattle.std.proofs.Common.{◌∙◌, ◌+◌, List, map, drop, subst, sym, ap, arith}
use Rattle.spec_contracts.specs.ContractLines.{brackets_known, given_line, line_of, lines_among, refusals_among, refusals_of}
use Rattle.contract_entries.specs.declared.entries.Entry.{Entry}
use Rattle.contract_entries.specs.Given.{entry_in, promise_in}
use Rattle.contract_lines.specs.Given.{Reads}
use Rattle.contract_lines.proofs.Among.{known_same}
use Rattle.contract_lines.proofs.Growth.{grows_then}
use Rattle.contract_lines.proofs.Later.{names_kept}
use Rattle.contract_lines.proofs.Promises.{item_from, items_end, promise_with}
use Rattle.contract_lines.proofs.Steps.{Continues, continues_start, continues_then, continues_end}
use Rattle.contract_lines.proofs.reading.read_promise.Goals as goal

pub loop-entry-init : goal.loop-entry-init
loop-entry-init c =
    let p = promise_in c.args.promise.now in
    let m = c.args.into.now in
    let n = c.optional_list.new.into in (
      c.optional_list.ensures.grown,
      (c.in_ok-optional_list.ensures {u = tt}).there,
      ap (promise_with p.line p.kind) (c.in_ok-optional_list.ensures {u = tt}).texts,
      λ o e h. subst (λ (xs : List Entry). Continues m n c.args.reading.now c.args.reading.now (lines_among o (map (entry_in p) xs)) (refusals_among o (map (entry_in p) xs)) (lines_among o (map (entry_in p) c.args.promise.now.entries.items)) (refusals_among o (map (entry_in p) c.args.promise.now.entries.items))) (sym c.deref-entry-items.ensures.value)
          (continues_start m n c.optional_list.ensures.grown.extends c.names_count.ensures.«module» c.args.reading.now (lines_among o (map (entry_in p) c.args.promise.now.entries.items)) (refusals_among o (map (entry_in p) c.args.promise.now.entries.items))),
    )

pub loop-entry-preserved : goal.loop-entry-preserved
loop-entry-preserved c =
    let p = promise_in c.args.promise.now in
    let l = c.args.into.now in
    let m = c.loop-entry.into in
    let n = c.read_entry.new.into in
    let i = c.loop-entry.invariant in
    let g = c.read_entry.ensures.grown in
    let all = c.args.promise.now.entries.items in
    let names = names_kept m n g.extends i.0.valid c.in_ok-optional_list.field-0 i.1 in
    let rest = drop (c.loop-entry.entry-index + 1) c.deref-entry-items.result.now in (
      grows_then l m n i.0 g,
      names.0,
      ap (promise_with p.line p.kind) names.1 ∙ i.2,
      λ o e h.
          let known = ap (λ q. brackets_known o.parameters q.names) i.2 ∙ known_same c.args.parameters.now o.parameters p.names h ∙ sym c.are_known.ensures in
          let read = (c.in_ok-read_entry.ensures {u = tt}).read o (record { owner = e; known = known; misplaced = sym c.is_misplaced.ensures }) in
          continues_then l m n c.args.reading.now c.loop-entry.reading c.read_entry.new.reading (given_line (line_of o.owner (entry_in p c.entry-item.result))) (lines_among o (map (entry_in p) rest)) (lines_among o (map (entry_in p) all)) (refusals_of o (entry_in p c.entry-item.result)) (refusals_among o (map (entry_in p) rest)) (refusals_among o (map (entry_in p) all))
          (subst (λ (xs : List Entry). Continues l m c.args.reading.now c.loop-entry.reading (lines_among o (map (entry_in p) xs)) (refusals_among o (map (entry_in p) xs)) (lines_among o (map (entry_in p) all)) (refusals_among o (map (entry_in p) all))) (item_from c.deref-entry-items.result.now c.loop-entry.entry-index c.entry-item.result _ c.loop-entry-test.true c.entry-item.is) (i.3 o e h))
          (subst (λ q. Reads m n c.loop-entry.reading c.read_entry.new.reading (given_line (line_of o.owner (entry_in q c.entry-item.result))) (refusals_of o (entry_in q c.entry-item.result))) i.2 read),
    )

pub returns-clause-read : goal.returns-clause-read
returns-clause-read c = λ o e h.
    let p = promise_in c.args.promise.now in
    let all = c.args.promise.now.entries.items in
    continues_end c.args.into.now c.loop-entry.into c.args.reading.now c.loop-entry.reading (lines_among o (map (entry_in p) all)) (refusals_among o (map (entry_in p) all))
    (subst (λ (xs : List Entry). Continues c.args.into.now c.loop-entry.into c.args.reading.now c.loop-entry.reading (lines_among o (map (entry_in p) xs)) (refusals_among o (map (entry_in p) xs)) (lines_among o (map (entry_in p) all)) (refusals_among o (map (entry_in p) all))) (items_end c.deref-entry-items.result.now c.loop-entry.entry-index (omega arith)) (c.loop-entry.invariant.3 o e h))
