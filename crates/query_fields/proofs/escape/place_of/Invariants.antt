use Rattle.std.proofs.Common.{◌≤◌, length}
use Rattle.query_fields.proofs.escape.place_of.Given as goal

abbrev pub invariant-loop : goal.invariant-loop
invariant-loop l = length l.rest ≤ length l.encoded
