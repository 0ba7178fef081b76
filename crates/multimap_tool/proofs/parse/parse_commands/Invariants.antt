use Rattle.std.proofs.Common.{◌≤◌, ◌+◌, length, vec_len}
use Rattle.multimap_tool.proofs.Texts.Lines.{IsReadTo}
use Rattle.multimap_tool.proofs.parse.parse_commands.Given as goal

abbrev pub invariant-loop-rest : goal.invariant-loop-rest
invariant-loop-rest g l = record {
  read : IsReadTo l.commands.items l.text l.rest;
  count : vec_len l.commands + length l.rest ≤ length l.text;
}

abbrev pub decreases-loop-rest : goal.decreases-loop-rest
decreases-loop-rest g l = length l.rest
