use Rattle.std.proofs.Common.{◌+◌, ◌++◌, List, drop, subst, arith}
use Rattle.spec_contracts.specs.declared.Refusal.{Refusal}
use Rattle.spec_contracts.specs.ContractLines.{ContractLine, lines_among, refusals_among}
use Rattle.contract_entries.specs.declared.entries.Promise.{Promise}
use Rattle.contract_entries.specs.Given.{all_entries, entries_in}
use Rattle.contract_lines.proofs.Growth.{grows_same, grows_then}
use Rattle.contract_lines.proofs.Promises.{item_from, items_end}
use Rattle.contract_lines.proofs.Steps.{Continues, continues_same, continues_then, continues_end, lines_then, refusals_then}
use Rattle.contract_lines.proofs.reading.read_promises.Goals as goal

pub loop-promise-init : goal.loop-promise-init
loop-promise-init c = (grows_same c.args.into.now c.names_count.ensures.«module», λ o e h. continues_same c.args.into.now c.args.reading.now (lines_among o (all_entries c.args.promises.now)) (refusals_among o (all_entries c.args.promises.now)))

pub loop-promise-preserved : goal.loop-promise-preserved
loop-promise-preserved c =
    let l = c.args.into.now in
    let m = c.loop-promise.into in
    let n = c.read_promise.new.into in
    let i = c.loop-promise.invariant in
    let all = c.args.promises.now in
    let x = c.promise-item.result in
    let rest = drop (c.loop-promise.promise-index + 1) all in (
      grows_then l m n i.0 c.read_promise.ensures.grown,
      λ o e h.
          continues_then l m n c.args.reading.now c.loop-promise.reading c.read_promise.new.reading (lines_among o (entries_in x)) (lines_among o (all_entries rest)) (lines_among o (all_entries all)) (refusals_among o (entries_in x)) (refusals_among o (all_entries rest)) (refusals_among o (all_entries all))
          (subst (λ (v : List ContractLine). Continues l m c.args.reading.now c.loop-promise.reading v (refusals_among o (entries_in x) ++ refusals_among o (all_entries rest)) (lines_among o (all_entries all)) (refusals_among o (all_entries all))) (lines_then o (entries_in x) (all_entries rest))
          (subst (λ (v : List Refusal). Continues l m c.args.reading.now c.loop-promise.reading (lines_among o (entries_in x ++ all_entries rest)) v (lines_among o (all_entries all)) (refusals_among o (all_entries all))) (refusals_then o (entries_in x) (all_entries rest))
          (subst (λ (xs : List Promise). Continues l m c.args.reading.now c.loop-promise.reading (lines_among o (all_entries xs)) (refusals_among o (all_entries xs)) (lines_among o (all_entries all)) (refusals_among o (all_entries all))) (item_from all c.loop-promise.promise-index x _ c.loop-promise-test.true c.promise-item.is) (i.1 o e h))))
          ((c.in_ok-read_promise.ensures {u = tt}).read o e h),
    )

pub returns-in_err-read_promise-clause-grown : goal.returns-in_err-read_promise-clause-grown
returns-in_err-read_promise-clause-grown c = grows_then c.args.into.now c.loop-promise.into c.read_promise.new.into c.loop-promise.invariant.0 c.read_promise.ensures.grown

pub returns-clause-read : goal.returns-clause-read
returns-clause-read c = λ o e h.
    let all = c.args.promises.now in
    continues_end c.args.into.now c.loop-promise.into c.args.reading.now c.loop-promise.reading (lines_among o (all_entries all)) (refusals_among o (all_entries all))
    (subst (λ (xs : List Promise). Continues c.args.into.now c.loop-promise.into c.args.reading.now c.loop-promise.reading (lines_among o (all_entries xs)) (refusals_among o (all_entries xs)) (lines_among o (all_entries all)) (refusals_among o (all_entries all))) (items_end all c.loop-promise.promise-index (omega arith)) (c.loop-promise.invariant.1 o e h))
