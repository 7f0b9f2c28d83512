use Rattle.std.proofs.Common.{Err, map, sym, subst}
use Rattle.spec_contracts.specs.ContractLines.{contracts_of}
use Rattle.py_tree.specs.Arena.{module_tree}
use Rattle.contract_owners.specs.Members.{owned_in}
use Rattle.contract_lines.specs.declared.errors.ContractError.{ContractError}
use Rattle.contract_lines.specs.Given.{GivesContracts}
use Rattle.contract_lines.proofs.Modules.{contracts_given, contracts_refused, reads_all}
use Rattle.contract_lines.proofs.reading.conditions.Goals as goal

pub returns-in-Some-clause-contracts : goal.returns-in-Some-clause-contracts
returns-in-Some-clause-contracts c =
    let m = c.args.«module».now in
    let n = c.read_all.new.into in
    let read = reads_all m n c.read_all.new.reading c.deref.result.now c.in_ok-owners.owners.items c.new.result c.deref.ensures.value c.new.ensures (c.in_ok-read_all.ensures {u = tt}).read in
    subst (λ (e : ContractError). GivesContracts n (Err e) (contracts_of (module_tree m).body)) (sym c.error_of.ensures)
    (contracts_refused m n c.read_all.new.reading (module_tree m).body (map (owned_in m) c.in_ok-owners.owners.items) (c.in_ok-owners.ensures {u = tt}).owned read c.in-Some.refusal c.in-Some.is)

pub returns-clause-contracts : goal.returns-clause-contracts
returns-clause-contracts c =
    let m = c.args.«module».now in
    let n = c.read_all.new.into in
    let read = reads_all m n c.read_all.new.reading c.deref.result.now c.in_ok-owners.owners.items c.new.result c.deref.ensures.value c.new.ensures (c.in_ok-read_all.ensures {u = tt}).read in
    contracts_given m n c.read_all.new.reading (module_tree m).body (map (owned_in m) c.in_ok-owners.owners.items) (c.in_ok-owners.ensures {u = tt}).owned read c.in-None.is
