use Rattle.std.proofs.lemmas.Result.{err_from_is_err_and}
use Rattle.first_tree.specs.BoundsOf.{bounds_of}
use Rattle.crosshair.proofs.Admitting.{tokens_refused, blocks_refused, contracts_refused, names_refused, functions_refused, functions_admitted}
use Rattle.contract_lines.proofs.Later.{lines_kept}
use Rattle.crosshair.proofs.admission.admit_text.Goals as goal

pub returns-in_err-tokens : goal.returns-in_err-tokens
returns-in_err-tokens c =
    let p = err_from_is_err_and c.from_residual.result c.from_residual.ensures.1 in
    rw (p.1, p.2) (tokens_refused (bounds_of c.args.bounds.now) c.args.text.now _ c.in_err-tokens.ensures)

pub returns-in_err-module : goal.returns-in_err-module
returns-in_err-module c =
    let p = err_from_is_err_and c.from_residual-in_err-module.result c.from_residual-in_err-module.ensures.1 in
    rw (p.1, p.2) (blocks_refused (bounds_of c.args.bounds.now) c.args.text.now _ _ c.in_ok-tokens.ensures.1 c.in_err-module.ensures.parsed)

pub returns-in_err-contracts : goal.returns-in_err-contracts
returns-in_err-contracts c =
    let p = err_from_is_err_and c.from_residual-in_err-contracts.result c.from_residual-in_err-contracts.ensures.1 in
    rw (p.1, p.2) (contracts_refused (bounds_of c.args.bounds.now) c.args.text.now _ _ c.conditions.new.«module» _ c.in_ok-tokens.ensures.1 c.in_ok-module.ensures.parsed c.in_err-contracts.ensures.contracts)

pub returns-in_err-check_profile : goal.returns-in_err-check_profile
returns-in_err-check_profile c =
    let p = err_from_is_err_and c.from_residual-in_err-check_profile.result c.from_residual-in_err-check_profile.ensures.1 in
    rw (p.1, p.2) (names_refused (bounds_of c.args.bounds.now) c.args.text.now _ _ _ _ c.in_ok-tokens.ensures.1 c.in_ok-module.ensures.parsed c.in_ok-contracts.ensures.contracts c.in_ok-contracts.ensures.tree _ c.in_err-check_profile.ensures.refusal)

pub returns-in_err-functions : goal.returns-in_err-functions
returns-in_err-functions c =
    let p = err_from_is_err_and c.from_residual-in_err-functions.result c.from_residual-in_err-functions.ensures.1 in
    rw (p.1, p.2) (functions_refused (bounds_of c.args.bounds.now) c.args.text.now _ _ _ _ c.in_ok-tokens.ensures.1 c.in_ok-module.ensures.parsed c.in_ok-contracts.ensures.contracts c.in_ok-contracts.ensures.tree _ c.in_ok-check_profile.ensures.tree (lines_kept _ _ c.in_ok-check_profile.ensures.grown.extends c.in_ok-contracts.ensures.grown.valid _ c.in_ok-contracts.ensures.contracts.0).1 _ c.in_ok-check_profile.ensures.refusal _ c.in_err-functions.ensures)

pub returns : goal.returns
returns c = functions_admitted (bounds_of c.args.bounds.now) c.args.text.now _ _ _ _ c.in_ok-tokens.ensures.1 c.in_ok-module.ensures.parsed c.in_ok-contracts.ensures.contracts c.in_ok-contracts.ensures.tree _ c.in_ok-check_profile.ensures.tree (lines_kept _ _ c.in_ok-check_profile.ensures.grown.extends c.in_ok-contracts.ensures.grown.valid _ c.in_ok-contracts.ensures.contracts.0).1 _ c.in_ok-check_profile.ensures.refusal _ c.in_ok-functions.ensures

pub functions-requires : goal.functions-requires
functions-requires c = (lines_kept _ _ c.in_ok-check_profile.ensures.grown.extends c.in_ok-contracts.ensures.grown.valid _ c.in_ok-contracts.ensures.contracts.0).0
