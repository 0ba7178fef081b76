use Rattle.std.proofs.Common.{◌≡◌, ◌<◌, ◌≤◌, true, length}
use Rattle.header_store.specs.Message.{behind_folded, behind_header}
use Rattle.header_store.proofs.message.behind_header.Given as goal

abbrev pub invariant-loop-first : goal.invariant-loop-first
invariant-loop-first l = record {
  behind : behind_folded l.begins l.rest ≡ behind_header l.fn.text;
  within : length l.rest ≤ length l.fn.text;
  shorter : l.begins ≡ true → length l.rest < length l.fn.text;
}

abbrev pub decreases-loop-first : goal.decreases-loop-first
decreases-loop-first l = length l.rest
