use Rattle.ordered_multimap.specs.Private.Append.{KeepsTapeRoom}
use Rattle.ordered_multimap.specs.Private.KeyRelocations.{new_place_in}
use Rattle.ordered_multimap.proofs.Pack.Packing.{AreComing}
use Rattle.ordered_multimap.proofs.list_ordered_multimap.pack.move_values.Given as goal

abbrev pub invariant-loop-place : goal.invariant-loop-place
invariant-loop-place g l = record {
  coming : AreComing (new_place_in l.fn.new_places.items) l.place l.fn.values.list l.values.list l.packed.list;
  room : KeepsTapeRoom l.fn.packed l.packed;
}
