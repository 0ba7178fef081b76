use Rattle.std.proofs.Common.{◌≡◌, length}
use Rattle.header_store.specs.Fields.{are_allowed}
use Rattle.header_store.proofs.message.are_allowed.Given as goal

abbrev pub invariant-loop-byte : goal.invariant-loop-byte
invariant-loop-byte l = are_allowed l.rest ≡ are_allowed l.text

abbrev pub decreases-loop-byte : goal.decreases-loop-byte
decreases-loop-byte l = length l.rest
