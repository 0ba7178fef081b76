use Rattle.std.proofs.Common.{◌≡◌, ◌++◌, take}
use Rattle.std.specs.String.{string_bytes}
use Rattle.query_fields.specs.Escape.{written}
use Rattle.query_fields.proofs.escape.add_encoded.Given as goal

abbrev pub invariant-loop-byte : goal.invariant-loop-byte
invariant-loop-byte l =
    string_bytes l.query ≡ string_bytes l.initial.query ++ written (take l.byte-index l.bytes)
