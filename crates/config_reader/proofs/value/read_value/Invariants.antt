use Rattle.std.proofs.Common.{◌≡◌, length}
use Rattle.config_reader.specs.Values.{read_on, value_read}
use Rattle.config_reader.proofs.value.read_value.Given as goal

abbrev pub invariant-loop-reader : goal.invariant-loop-reader
invariant-loop-reader l =
    read_on l.reader.mode l.reader.value.items l.reader.gap.items l.rest ≡ value_read l.text

abbrev pub decreases-loop-reader : goal.decreases-loop-reader
decreases-loop-reader l = length l.rest
