use Rattle.std.specs.Io.KnownBytes.{Consumes}
use Rattle.multimap_tool.proofs.execute.read_all.Given as goal

-- what was read so far is gone from the reader
abbrev pub invariant-loop : goal.invariant-loop
invariant-loop g l = Consumes (g.R.Read.remaining l.fn.input) (g.R.Read.remaining l.input) l.bytes.items
