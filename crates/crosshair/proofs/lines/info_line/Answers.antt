use Rattle.std.proofs.Common.{append_assoc}
use Rattle.spec_verdicts.specs.Lines.{info_line}
use Rattle.crosshair.proofs.lines.info_line.Goals as goal

pub returns : goal.returns
unfolding info_line
returns c = simp (c.in_ok-extend.ensures.ok, c.new-text.ensures, c.as_bytes.ensures.value, c.in_ok-format.ensures.ok, append_assoc)
