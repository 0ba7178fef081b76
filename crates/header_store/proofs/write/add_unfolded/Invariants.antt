use Rattle.std.proofs.Common.{◌≡◌, ◌++◌, false, length}
use Rattle.header_store.specs.Fields.{unfolded}
use Rattle.header_store.proofs.write.add_unfolded.Given as goal

-- what was added, and then what is left
abbrev pub invariant-loop-byte : goal.invariant-loop-byte
invariant-loop-byte l =
    l.answers.items ++ unfolded l.is_behind l.rest ≡ l.fn.answers.items ++ unfolded false l.value

abbrev pub decreases-loop-byte : goal.decreases-loop-byte
decreases-loop-byte l = length l.rest
