use Rattle.std.proofs.Common.{List, map, subst, arith}
use Rattle.spec_contracts.specs.ContractLines.{all_lines, all_refusals}
use Rattle.contract_owners.specs.declared.listing.Owned.{Owned}
use Rattle.contract_owners.specs.Members.{owned_in}
use Rattle.contract_lines.proofs.Growth.{grows_same, grows_then}
use Rattle.contract_lines.proofs.Modules.{owner_there, owners_then}
use Rattle.contract_lines.proofs.Promises.{items_end}
use Rattle.contract_lines.proofs.Steps.{Continues, continues_same, continues_end}
use Rattle.contract_lines.proofs.reading.read_all.Goals as goal

pub loop-owned-init : goal.loop-owned-init
loop-owned-init c = (grows_same c.args.into.now c.names_count.ensures.«module», c.requires, continues_same c.args.into.now c.args.reading.now (all_lines (map (owned_in c.args.into.now) c.args.owners.now)) (all_refusals (map (owned_in c.args.into.now) c.args.owners.now)))

pub read_owned-requires : goal.read_owned-requires
read_owned-requires c = owner_there c.args.into.now c.loop-owned.into c.args.owners.now c.loop-owned.owned-index _ c.loop-owned.invariant.0 c.loop-owned.invariant.1 c.loop-owned-test.true

pub loop-owned-preserved : goal.loop-owned-preserved
loop-owned-preserved c =
    let i = c.loop-owned.invariant in
    let g = c.read_owned.ensures.grown in
    let read = owners_then c.args.into.now c.loop-owned.into c.read_owned.new.into c.args.reading.now c.loop-owned.reading c.read_owned.new.reading c.args.owners.now c.loop-owned.owned-index _ i.0 c.names_count.ensures.«module» i.1 c.loop-owned-test.true i.2 (c.in_ok-read_owned.ensures {u = tt}).read in
    (grows_then c.args.into.now c.loop-owned.into c.read_owned.new.into i.0 g, read.0, read.1)

pub returns-in_err-read_owned-clause-grown : goal.returns-in_err-read_owned-clause-grown
returns-in_err-read_owned-clause-grown c = grows_then c.args.into.now c.loop-owned.into c.read_owned.new.into c.loop-owned.invariant.0 c.read_owned.ensures.grown

pub returns-clause-read : goal.returns-clause-read
returns-clause-read c =
    let l = c.args.into.now in
    let all = c.args.owners.now in
    continues_end l c.loop-owned.into c.args.reading.now c.loop-owned.reading (all_lines (map (owned_in l) all)) (all_refusals (map (owned_in l) all))
    (subst (λ (xs : List Owned). Continues l c.loop-owned.into c.args.reading.now c.loop-owned.reading (all_lines (map (owned_in l) xs)) (all_refusals (map (owned_in l) xs)) (all_lines (map (owned_in l) all)) (all_refusals (map (owned_in l) all))) (items_end all c.loop-owned.owned-index (omega arith)) c.loop-owned.invariant.2)
