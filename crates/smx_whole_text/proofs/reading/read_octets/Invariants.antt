use Rattle.std.proofs.Common.{◌≤◌, length}
use Rattle.std.specs.Io.KnownBytes.{Consumes}
use Rattle.smx_whole_text.proofs.reading.read_octets.Given as goal

abbrev pub invariant-loop : goal.invariant-loop
invariant-loop g l = record {
  front : Consumes (g.R.Read.remaining l.fn.reader) (g.R.Read.remaining l.reader) l.octets.items;
  grows : l.counter ≤ length l.octets.items;
  short : length l.octets.items ≤ l.fn.most;
}
