use Rattle.contract_lines.proofs.Later.{lines_kept}
use Rattle.parameter_types.proofs.Kept.{body_kept}
use Rattle.parameter_types.proofs.types.told_of_types.Goals as goal

pub returns-clause-told : goal.returns-clause-told
returns-clause-told c =
    let m = c.args.module.now in
    let n = c.read_all.new.module in
    let grown = c.read_all.ensures.grown in
    let valid = c.types_count.ensures.«module» in
    rw (body_kept m n grown valid, (lines_kept m n grown.extends valid c.args.contracts.now c.requires).1) at c.told_of_annotated.ensures
