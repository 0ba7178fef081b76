use Rattle.std.proofs.Common.{◌≡◌, length}
use Rattle.ordered_multimap.specs.Private.KeyRelocations.{HasRows}
use Rattle.ordered_multimap.specs.Private.Remove.{KeepsKeyRoom}
use Rattle.ordered_multimap.proofs.Pack.Packing.{AreGoing}
use Rattle.ordered_multimap.proofs.list_ordered_multimap.pack.move_keys.Given as goal

abbrev pub invariant-loop-place : goal.invariant-loop-place
invariant-loop-place g l = record {
  going : AreGoing l.new_places.items l.fn.keys l.keys l.packed;
  rows : HasRows l.packed l.table.rows;
  new_places : length l.new_places.items ≡ length l.fn.new_places.items;
  rooms : KeepsKeyRoom l.fn.packed l.packed l.fn.table l.table;
}

abbrev pub decreases-loop-place : goal.decreases-loop-place
decreases-loop-place g l = length l.keys.order
