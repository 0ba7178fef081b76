use Rattle.std.proofs.Common.{◌≡◌, ◌++◌, length}
use Rattle.query_fields.specs.Escape.{read_any}
use Rattle.query_fields.proofs.escape.decoded.Given as goal

abbrev pub invariant-loop-byte : goal.invariant-loop-byte
invariant-loop-byte l = read_any l.encoded ≡ l.bytes.items ++ read_any l.rest

abbrev pub decreases-loop-byte : goal.decreases-loop-byte
decreases-loop-byte l = length l.rest
