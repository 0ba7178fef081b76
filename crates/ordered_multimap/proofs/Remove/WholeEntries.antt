-- A key leaves with its row and all its values: what a caller sees of the map then.
use Rattle.std.proofs.Common.{◌≡◌, ℕ, Bool, true, sym, ◌∙◌, subst}
use Rattle.std.specs.Cmp.{IsEquivalence}
use Rattle.multimap_slots.specs.Slots.{Slots}
use Rattle.multimap_slots.specs.Tapes.{Taped}
use Rattle.multimap_table.specs.Table.{Table}
use Rattle.multimap_walks.specs.declared.links.ChainEnds.{ChainEnds}
use Rattle.multimap_walks.specs.declared.links.KeyLink.{KeyLink}
use Rattle.multimap_walks.specs.declared.links.ValueLink.{ValueLink}
use Rattle.ordered_multimap.specs.Agrees.{HasKey, IsMap, lists_of}
use Rattle.ordered_multimap.specs.Changes.{removed}
use Rattle.ordered_multimap.specs.Private.KeySteps.{DetachesValues, HoldsInRoom}
use Rattle.ordered_multimap.specs.Private.Remove.{TakesRow, UnlinksKey}
use Rattle.ordered_multimap.specs.Removals.{LosesValues}
use Rattle.ordered_multimap.specs.Rooms.{SameRooms}
use Rattle.ordered_multimap.specs.TapeNumbers.{TakesOut, numbers_of}
use Rattle.ordered_multimap.proofs.Agreement.LookUps.{values_of-chain}
use Rattle.ordered_multimap.proofs.Append.Rooms.{map_of, same_rooms}
use Rattle.ordered_multimap.proofs.Remove.WholeKeys.{entry_count, lists_of-taken}

module _ {K V S : Type 0} {eq : K → K → Bool} (laws : IsEquivalence eq) {hash : K → ℕ} {keys keys_after : Slots K KeyLink}
    {table table_after : Table} {values values_after : Taped V ValueLink} {keeps : Bool} {gives : V → Type 0} {place : ℕ} {key : K}
    {ends : ChainEnds} (m : IsMap eq hash keys table.rows values)
    (t : UnlinksKey keeps gives keys keys_after values values_after place key ends) (row : TakesRow table table_after place) (state : S)
    (left : ChainEnds) where
  -- the rooms are as they were
  pub entry_rooms : (left_after : ChainEnds) → SameRooms (map_of keys table.capacity values state left)
      (map_of keys_after table_after.capacity values_after state left_after)
  entry_rooms left_after =
      same_rooms keys keys_after table.capacity table_after.capacity values values_after state left left_after
      (record { keys_capacity = t.removed.capacity; capacity = t.taken.capacity }) row.capacity

  -- the key's values are gone, and no others
  pub entry_lost : (left_after : ChainEnds) (k : K) → HasKey eq keys k place → LosesValues eq (map_of keys table.capacity values state left)
      (map_of keys_after table_after.capacity values_after state left_after) k (removed eq (lists_of keys values.list) k)
  entry_lost left_after k has = record {
    lists = lists_of-taken laws m.agrees k place has t.taken t.removed table_after.rows row.rows;
    taken = subst (λ n. TakesOut n (numbers_of values) (numbers_of values_after)) (sym (entry_count laws m.agrees k place has))
        t.counts;
  }

  -- where they are kept in their slots, they are left for a drain
  pub entry_detached : keeps ≡ true → (k : K) → HasKey eq keys k place
      → DetachesValues eq (map_of keys table.capacity values state left) (map_of keys_after table_after.capacity values_after state ends) k
      (removed eq (lists_of keys values.list) k)
  entry_detached kept k has = record {
    left = (t.drain kept).left ∙ sym (values_of-chain laws m.agrees k place has);
    loses = entry_lost ends k has;
  }

  pub entry_held : keeps ≡ true
      → HoldsInRoom (map_of keys table.capacity values state left) (map_of keys_after table_after.capacity values_after state ends)
  entry_held kept = record { drain = (t.drain kept).chain; rooms = entry_rooms ends }
