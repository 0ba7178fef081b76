-- Pairs of another map that are put last one by one, from the front: behind the values that their
-- keys have here, or in the place of these. No public clause cites this module.
use Rattle.std.specs.Prelude.{◌≡◌, ◌+◌, ℕ, Bool, true, false, List, [], length, Option, Some, None}
use Rattle.std.specs.FinMap.{FinMap}
use Rattle.std.specs.Ordering.{nat_cmp}
use Rattle.multimap_slots.specs.Lists.{IsIn}
use Rattle.multimap_slots.specs.Slots.{Slots, Removes}
use Rattle.multimap_slots.specs.Tapes.{Taped}
use Rattle.multimap_walks.specs.declared.links.KeyLink.{KeyLink}
use Rattle.multimap_walks.specs.declared.links.ValueLink.{ValueLink}
use Rattle.ordered_multimap.specs.Agrees.{Agrees, HasKey}
use Rattle.ordered_multimap.specs.AppendMap.{IsCleared}
use Rattle.ordered_multimap.specs.Changes.{all_appended, appended, inserted, merged}
use Rattle.ordered_multimap.specs.Lists.{Lists}
use Rattle.ordered_multimap.specs.Multimap.{Multimap}
use Rattle.ordered_multimap.specs.Private.KeySteps.{KeepsPlaces}
use Rattle.ordered_multimap.specs.Pairs.{is_present, values_of, values_where}
use Rattle.ordered_multimap.specs.Rooms.{DoublesRooms, HasKeyRoom, HasValueRoom, KeepsRooms}
use Rattle.ordered_multimap.specs.Rooms.{SameRooms}
use Rattle.ordered_multimap.specs.TapeNumbers.{TakesOut}

-- nothing is listed any more, the slots of all values are holes, and there are as many as before
pub record IsUsedUp {K V : Type 0} (keys keys_after : Slots K KeyLink)
    (values values_after : Taped V ValueLink) : Type 0 where
  pub none : values_after.list.order ≡ []
  pub keys_capacity : keys_after.capacity ≡ keys.capacity
  pub capacity : values_after.list.capacity ≡ values.list.capacity
  pub moved : values_after.moved ≡ values.moved
  pub freed : values_after.freed ≡ values.freed + length values.list.order

-- key list and values agree with the rows of a table, by a hash
pub record AgreeBySome {K V : Type 0} (eq : K → K → Bool) (keys : Slots K KeyLink)
    (values : Slots V ValueLink) : Type 0 where
  pub hash : K → ℕ
  pub rows : FinMap nat_cmp ℕ
  pub agrees : Agrees eq hash keys rows values

module _ {K V S : Type 0} where
  -- the key of the value is still listed in `keys` where it has no other before it, and else stands
  -- in the map at the place that the link names
  abbrev pub IsKeyAt : Slots K KeyLink → Multimap K V S → ℕ → Option ℕ → Type 0
  IsKeyAt keys m key None = IsIn key keys.order × HasKeyRoom m
  IsKeyAt keys m key (Some q) = IsIn key m.slots.keys.order

  -- the value with this link fits, and its key
  pub record CanPutTaken (m : Multimap K V S) (keys : Slots K KeyLink) (link : ValueLink)
      : Type 0 where
    pub value_room : HasValueRoom m
    pub key_at : IsKeyAt keys m link.key link.previous

-- the pairs replace those of their keys, or go behind them
module _ {K V : Type 0} (eq : K → K → Bool) where
  -- one pair has come
  abbrev pub put : Bool → Lists K V → K → V → Lists K V
  put true m k v = inserted eq m k v
  put false m k v = appended eq m k v

  -- and so many have left for it
  abbrev pub count_for : Bool → Lists K V → K → ℕ
  count_for true m k = length (values_of eq m.pairs k)
  count_for false m k = 0

  -- all of these pairs have come
  abbrev pub all_put : Bool → Lists K V → List (K × V) → Lists K V
  all_put true m pairs = merged eq m pairs
  all_put false m pairs = all_appended eq m pairs

  -- and so many have left for them
  abbrev pub count_for_all : Bool → Lists K V → List (K × V) → ℕ
  count_for_all true m pairs = length (values_where (is_present eq pairs) m.pairs)
  count_for_all false m pairs = 0

module _ {K V S : Type 0} where
  module _ (eq : K → K → Bool) (replaces : Bool) where
    -- a pair of the key was put last, for which there was room, and each key stands where it stood
    pub record PutsInRoom (key : K) (value : V) (old new : Multimap K V S) : Type 0 where
      pub lists : new.lists ≡ put eq replaces old.lists key value
      pub rooms : SameRooms old new
      pub taken : TakesOut (count_for eq replaces old.lists key) old.tape new.tape
      pub places : KeepsPlaces eq old new

    -- and the key stands at the place
    pub record PutsKeyAt (key : K) (value : V) (old new : Multimap K V S) (place : ℕ) : Type 0
      where
        pub pair : PutsInRoom key value old new
        pub found : HasKey eq new.slots.keys key place

    -- each pair of the other map was put last, and that map was cleared; no room is lower, and one
    -- that grows at least doubles
    pub record MovesMap {T : Type 0} (old new : Multimap K V S)
        (other other_after : Multimap K V T) : Type 0 where
      pub lists : new.lists ≡ all_put eq replaces old.lists other.lists.pairs
      pub rooms : KeepsRooms old new
      pub doubles : DoublesRooms old new
      pub taken : TakesOut (count_for_all eq replaces old.lists other.lists.pairs)
          old.tape new.tape
      pub cleared : IsCleared other other_after

  module _ (eq : K → K → Bool) (replaces : Bool) where
    module _ (value : V) (link : ValueLink) (old new : Multimap K V S)
        (keys keys_after : Slots K KeyLink) (place : ℕ) where
      -- the key was taken out of `keys`
      pub record PutsFirstOf : Type 0 where
        pub key : K
        pub removed : Removes keys keys_after link.key key
        pub pair : PutsKeyAt eq replaces key value old new place

      -- the key stood in the map
      pub record PutsLaterOf : Type 0 where
        pub keys_are : keys_after ≡ keys
        pub same_keys : new.lists.keys ≡ old.lists.keys
        pub pair : (k : K) → HasKey eq old.slots.keys k link.key
            → PutsKeyAt eq false k value old new place

      abbrev pub PutsAfter : Option ℕ → Type 0
      PutsAfter None = PutsFirstOf
      PutsAfter (Some q) = PutsLaterOf

      -- the value with this link was put last, under its key, which stands at the place
      abbrev pub PutsTaken : Type 0
      PutsTaken = PutsAfter link.previous
