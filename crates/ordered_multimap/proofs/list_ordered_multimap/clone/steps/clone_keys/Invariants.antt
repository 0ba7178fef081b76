use Rattle.std.proofs.Common.{◌≡◌, length}
use Rattle.ordered_multimap.specs.Agrees.{hash_of}
use Rattle.ordered_multimap.specs.Private.Copies.{IsKeyCopy}
use Rattle.ordered_multimap.specs.Private.KeyRelocations.{HasRows, new_place_in}
use Rattle.ordered_multimap.specs.Private.Remove.{KeepsKeyRoom}
use Rattle.ordered_multimap.proofs.Callers.Places.{places_from}
use Rattle.ordered_multimap.proofs.Clone.Copying.{AreCopying}
use Rattle.ordered_multimap.proofs.list_ordered_multimap.clone.steps.clone_keys.Given as goal

abbrev pub invariant-loop-following : goal.invariant-loop-following
invariant-loop-following g l = record {
  copying : AreCopying (IsKeyCopy g.K.Clone.is_clone
      (λ k. hash_of g.S.BuildHasher g.S.Hasher.Hasher l.state (g.K.Hash.hash_input k)) (g.R.Ranks.rank l.ranks) l.keys)
      (new_place_in l.new_places.items) l.keys.order l.following l.copies;
  rows : HasRows l.copies l.table.rows;
  new_places : length l.new_places.items ≡ length l.fn.new_places.items;
  rooms : KeepsKeyRoom l.fn.copies l.copies l.fn.table l.table;
}

abbrev pub decreases-loop-following : goal.decreases-loop-following
decreases-loop-following g l = places_from l.keys.order l.following
