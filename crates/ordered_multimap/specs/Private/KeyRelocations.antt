-- Keys that go to other places, with their rows, and values whose links name these. No public
-- clause cites this module.
use Rattle.std.specs.Prelude.{◌≡◌, ℕ, ◌≤◌, List, map, length, get_or, set, Option, Some}
use Rattle.std.specs.Ordering.{nat_cmp}
use Rattle.std.specs.FinMap.{FinMap, empty, get, insert, len}
use Rattle.multimap_slots.specs.Lists.{IsIn}
use Rattle.multimap_slots.specs.Slots.{Slots, IsEmpty, IsSound, PushesBack, Removes, item_at}
use Rattle.multimap_slots.specs.Slots.{link_at}
use Rattle.multimap_slots.specs.Tapes.{Taped}
use Rattle.multimap_table.specs.Table.{Table}
use Rattle.multimap_walks.specs.declared.links.KeyLink.{KeyLink}
use Rattle.multimap_walks.specs.declared.links.ValueLink.{ValueLink}
use Rattle.ordered_multimap.specs.Private.Relocations.{AreRelocated}
use Rattle.ordered_multimap.specs.TapeNumbers.{AreUnused, numbers_of}

-- neither a key nor a row nor a value, on a tape that was not used
pub record IsNewStorage {K V : Type 0} (keys : Slots K KeyLink) (table : Table)
    (values : Taped V ValueLink) : Type 0 where
  pub no_key : IsEmpty keys
  pub no_row : table.rows ≡ empty
  pub no_value : IsEmpty values.list
  pub unused : AreUnused (numbers_of values)

-- the new place of the key at a place, where a list has the new places by the old ones
abbrev pub new_place_in : List ℕ → ℕ → ℕ
new_place_in new_places place = get_or new_places place 0

-- the table has the place of each key with the hash of its link, and no other
pub record HasRows {K : Type 0} (keys : Slots K KeyLink) (rows : FinMap nat_cmp ℕ) : Type 0 where
  pub in_table : (place : ℕ) (l : KeyLink) → IsIn place keys.order → link_at keys place ≡ Some l
      → get rows place ≡ Some l.hash
  pub listed : (place hash : ℕ) → get rows place ≡ Some hash → IsIn place keys.order
  pub counted : len rows ≡ length keys.order

-- the list has a slot for each of these places, in their order, at its new place, and such an item
-- and link stand there
pub record HaveNewPlaces {T L : Type 0} (Stands : ℕ → Option T → Option L → Type 0) (name : ℕ → ℕ)
    (places : List ℕ) (after : Slots T L) : Type 0 where
  pub apart : (p q : ℕ) → IsIn p places → IsIn q places → name p ≡ name q → p ≡ q
  pub order : after.order ≡ map name places
  pub slots : (q : ℕ) → IsIn q places → Stands q (item_at after (name q)) (link_at after (name q))

-- the item and the link are those that stood at the place
pub record AreMoved {T L : Type 0} (before : Slots T L) (place : ℕ) (item : Option T)
    (link : Option L) : Type 0 where
  pub item_is : item ≡ item_at before place
  pub link_is : link ≡ link_at before place

module _ (name : ℕ → ℕ) where
  -- the link with the new place of the key
  abbrev pub with_new_key : ValueLink → ValueLink
  with_new_key l = record l { key = name l.key }

  -- the values at these places are those of the other list, at the same places, and their links
  -- name the new places of the keys
  pub record HaveCome {V : Type 0} (places : List ℕ) (values packed : Slots V ValueLink)
      : Type 0 where
    pub order : packed.order ≡ places
    pub items : (q : ℕ) → IsIn q places → item_at packed q ≡ item_at values q
    pub links : (q : ℕ) (l : ValueLink) → IsIn q places → link_at values q ≡ Some l
        → link_at packed q ≡ Some (with_new_key l)

-- the key at the place has gone from one list to the end of the other, with its link and a row of
-- its hash, and its new place is noted
pub record MovesKey {K : Type 0} (keys keys_after packed packed_after : Slots K KeyLink)
    (rows rows_after : FinMap nat_cmp ℕ) (new_places new_places_after : List ℕ) (place : ℕ)
    : Type 0 where
  pub key : K
  pub link : KeyLink
  pub to : ℕ
  pub removed : Removes keys keys_after place key
  pub link_was : link_at keys place ≡ Some link
  pub pushed : PushesBack packed packed_after to key link
  pub rows_are : rows_after ≡ insert rows to link.hash
  pub new_places_are : new_places_after ≡ set new_places place to

-- the values were taken down over holes, and then keys and values went to new storage
pub record ArePacked {K V : Type 0} (keys keys_after : Slots K KeyLink)
    (rows_after : FinMap nat_cmp ℕ) (values values_after : Slots V ValueLink) : Type 0 where
  pub keys_dense : Slots K KeyLink
  pub values_dense : Slots V ValueLink
  pub dense : AreRelocated keys keys_dense values values_dense
  pub name : ℕ → ℕ
  pub gone : HaveNewPlaces (AreMoved keys_dense) name keys_dense.order keys_after
  pub keys_sound : IsSound keys_after
  pub rows : HasRows keys_after rows_after
  pub come : HaveCome name values_dense.order values_dense values_after
  pub fits : length values.order ≤ values_after.capacity
