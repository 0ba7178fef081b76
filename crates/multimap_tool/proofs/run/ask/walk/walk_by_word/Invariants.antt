use Rattle.std.proofs.Common.{◌≡◌, ◌++◌, ◌≤◌, drop, length, vec_len, vec_capacity}
use Rattle.ordered_multimap.specs.Walk.{answers_of_walk}
use Rattle.multimap_tool.proofs.run.ask.walk.walk_by_word.Given as goal

abbrev pub invariant-loop-end : goal.invariant-loop-end
invariant-loop-end g l = record {
  taken : l.taken.items ++ answers_of_walk (g.W.Copied.left l.rest) (drop l.end-index l.word) ≡ answers_of_walk
      (g.W.Copied.left l.fn.walk) l.word;
  count : vec_len l.taken ≡ l.end-index;
  room : length l.word ≤ vec_capacity l.taken;
}
