-- The map with another value.
use Rattle.std.specs.Prelude.{◌≡◌, ℕ, option_map, unwrap_or}
use Rattle.multimap_slots.specs.Slots.{Slots, link_at, with_item}
use Rattle.multimap_walks.specs.declared.links.KeyLink.{KeyLink}
use Rattle.multimap_walks.specs.Chained.{position_in}
use Rattle.multimap_walks.specs.declared.End.{End}
use Rattle.multimap_walks.specs.Walk.{end_item}
use Rattle.ordered_multimap.specs.Changes.{end_written}
use Rattle.ordered_multimap.specs.Lists.{Lists, lists}
use Rattle.ordered_multimap.specs.Multimap.{Multimap}
use Rattle.ordered_multimap.specs.Pairs.{with_value_at}
use Rattle.ordered_multimap.specs.Rooms.{SameRooms}

-- the place of the first value of the key at a place
abbrev pub head_at : {K : Type 0} → Slots K KeyLink → ℕ → ℕ
head_at keys place = unwrap_or (option_map (λ l. l.head) (link_at keys place)) 0

module _ {K V S : Type 0} where
  -- the map with v as the value at a value's place
  abbrev pub with_value : Multimap K V S → ℕ → V → Multimap K V S
  with_value m place v =
      let at : ℕ = position_in m.slots.values.order place in
      record m {
        lists = lists m.lists.keys (with_value_at m.lists.pairs at v);
        slots = record m.slots { values = with_item m.slots.values place v };
      }

  -- the map with v as the first value of the key at a place
  abbrev pub with_first : Multimap K V S → ℕ → V → Multimap K V S
  with_first m place v = with_value m (head_at m.slots.keys place) v

  -- the map with v as the value of the pair at an end
  abbrev pub with_end : End → Multimap K V S → V → Multimap K V S
  with_end end m v =
      let place : ℕ = unwrap_or (end_item end m.slots.values.order) 0 in
      record m {
        lists = end_written end m.lists v;
        slots = record m.slots { values = with_item m.slots.values place v };
      }

  -- the map has these lists, and its rooms and the tape's numbers are as they were
  pub record IsWritten (old new : Multimap K V S) (written : Lists K V) : Type 0 where
    pub lists : new.lists ≡ written
    pub rooms : SameRooms old new
    pub tape : new.tape ≡ old.tape
