use Rattle.std.proofs.Common.{◌≡◌, ◌+◌, ◌≤◌, take, length, vec_capacity}
use Rattle.multimap_tool.specs.MapRuns.{IsMapRun}
use Rattle.multimap_tool.specs.Runs.{IsRun}
use Rattle.multimap_tool.specs.RunRooms.{FindsRoom, HasRunRoom}
use Rattle.multimap_tool.proofs.run.run_all.Given as goal

abbrev pub invariant-loop-command : goal.invariant-loop-command
invariant-loop-command g l = record {
  ran : IsRun (g.F.Keep.answers l.keep) g.K.PartialEq.eq (take l.command-index l.commands) l.fn.map.lists l.replies.items l.map.lists;
  stepped : IsMapRun (g.F.Keep.answers l.keep) g.K.PartialEq.eq g.S.Clone.is_clone (take l.command-index l.commands) l.fn.map
      l.replies.items l.map;
  hasher : ((s c : g.row.S.Denot) → g.S.Clone.is_clone s c → c ≡ s) → l.map.hasher ≡ l.fn.map.hasher;
  keys : HasRunRoom l.commands l.fn.map → length l.map.lists.keys + length l.commands ≤ l.map.key_room + l.command-index;
  values : HasRunRoom l.commands l.fn.map → length l.map.lists.pairs + length l.commands ≤ l.map.value_room + l.command-index;
  found : HasRunRoom l.commands l.fn.map → FindsRoom (take l.command-index l.commands) l.replies.items;
  count : length l.replies.items ≡ l.command-index;
  room : length l.commands ≤ vec_capacity l.replies;
}
