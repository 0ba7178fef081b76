use Rattle.std.proofs.Common.{◌≡◌, ◌≤◌, length}
use Rattle.query_fields.specs.Escape.{behind, read}
use Rattle.query_fields.proofs.escape.good_bytes.Given as goal

abbrev pub invariant-loop-byte : goal.invariant-loop-byte
invariant-loop-byte l = record {
  read : read l.fn.encoded ≡ behind l.bytes.items (read l.encoded);
  within : length l.encoded ≤ length l.fn.encoded;
}

abbrev pub decreases-loop-byte : goal.decreases-loop-byte
decreases-loop-byte l = length l.encoded
