use Rattle.std.proofs.Common.{◌≤◌, length}
use Rattle.std.specs.Io.KnownBytes.{Consumes}
use Rattle.xh_outside.proofs.disk_files.read_to_limit.Given as goal

abbrev pub invariant-loop : goal.invariant-loop
invariant-loop g l = record {
  within : length l.content ≤ l.limit;
  taken : Consumes (g.F.Read.remaining l.initial.file) (g.F.Read.remaining l.file) l.content;
}
