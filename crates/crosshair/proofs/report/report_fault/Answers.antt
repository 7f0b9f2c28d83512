use Rattle.std.proofs.Common.{rules}
use Rattle.xh_outside.proofs.Sinks.{append_known-append, part_first, part_after, part_either, whole_unless}
use Rattle.crosshair.proofs.report.report_fault.Goals as goal

pub returns-then-is_ok-clause-part : goal.returns-then-is_ok-clause-part
returns-then-is_ok-clause-part g c =
    part_after _ _ _ _ _ (search rules) (part_either _ _ _ _ c.write_all-then-is_ok.ensures.written c.write_all-then-is_ok.ensures.part)

pub returns-then-is_ok-clause-whole : goal.returns-then-is_ok-clause-whole
returns-then-is_ok-clause-whole g c = λ calm.
    let second = whole_unless _ _ _ _ _ _ _ c.write_all-then-is_ok.ensures.written c.write_all-then-is_ok.ensures.cause c.write_all.ensures.cause.later calm in
    rw (← append_known-append) (search (rules, second))

pub returns-else-is_ok-clause-part : goal.returns-else-is_ok-clause-part
returns-else-is_ok-clause-part g c =
    let p = part_either _ _ _ _ c.write_all.ensures.written c.write_all.ensures.part in
    part_first _ _ _ _ (rw c.as_bytes.ensures.value at p)
