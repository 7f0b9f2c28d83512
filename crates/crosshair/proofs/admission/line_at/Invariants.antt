use Rattle.std.proofs.Common.{◌≡◌, ◌+◌, ◌≤◌, ◌==◌, suc, take}
use Rattle.std.specs.List.{count_by}
use Rattle.crosshair.proofs.admission.line_at.Given as goal

-- one more than the line feeds before this byte, and at most one more than the bytes
abbrev pub invariant-loop-b : goal.invariant-loop-b
invariant-loop-b l = record {
  line : l.line ≡ suc (count_by (λ b. b == 10) (take l.b-index l.b-items));
  small : l.line ≤ 1 + l.b-index;
}
