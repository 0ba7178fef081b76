use Rattle.multimap_slots.specs.Lists.{places_below}
use Rattle.multimap_slots.specs.Slots.{HasNoHole}
use Rattle.ordered_multimap.specs.Agrees.{hash_of}
use Rattle.ordered_multimap.specs.Private.Copies.{IsKeyCopy}
use Rattle.ordered_multimap.specs.Private.KeyRelocations.{HasRows, HaveNewPlaces}
use Rattle.ordered_multimap.specs.Private.Remove.{KeepsKeyRoom}
use Rattle.ordered_multimap.proofs.list_ordered_multimap.clone.in_place.clone_keys_in_place.Given as goal

abbrev pub invariant-loop-place : goal.invariant-loop-place
invariant-loop-place g l = record {
  have : HaveNewPlaces (IsKeyCopy g.K.Clone.is_clone
      (λ k. hash_of g.S.BuildHasher g.S.Hasher.Hasher l.state (g.K.Hash.hash_input k)) (λ p. p) l.keys)
      (λ p. p) (places_below l.place) l.copies;
  rows : HasRows l.copies l.table.rows;
  no_hole : HasNoHole l.copies;
  rooms : KeepsKeyRoom l.fn.copies l.copies l.fn.table l.table;
}
