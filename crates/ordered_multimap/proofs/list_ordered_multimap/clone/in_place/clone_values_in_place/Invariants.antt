use Rattle.multimap_slots.specs.Lists.{places_below}
use Rattle.ordered_multimap.specs.Private.Append.{KeepsTapeRoom}
use Rattle.ordered_multimap.specs.Private.Copies.{IsValueCopy}
use Rattle.ordered_multimap.specs.Private.KeyRelocations.{HaveNewPlaces}
use Rattle.ordered_multimap.proofs.list_ordered_multimap.clone.in_place.clone_values_in_place.Given as goal

abbrev pub invariant-loop-place : goal.invariant-loop-place
invariant-loop-place g l = record {
  have : HaveNewPlaces (IsValueCopy g.V.Clone.is_clone (λ p. p) (λ p. p) l.values.list) (λ p. p) (places_below l.place) l.copies.list;
  room : KeepsTapeRoom l.fn.copies l.copies;
}
