-- What an append does to the slots. No public clause cites this module.
use Rattle.std.specs.Prelude.{◌≡◌, ◌≢◌, ◌+◌, ◌^◌, ◌≤◌, ◌<◌, ℕ, min, [], ◌∷◌, ◌++◌, length}
use Rattle.std.specs.Prelude.{Option, Some, None, Result, IfErr, IsOk, OnErr, OnOk}
use Rattle.std.specs.Ordering.{nat_cmp}
use Rattle.std.specs.FinMap.{FinMap, get, insert, len}
use Rattle.multimap_slots.specs.Lists.{IsIn}
use Rattle.multimap_slots.specs.Slots.{Slots, DoublesIfGrown, HasRoomFor, IsSound, KeepsItems}
use Rattle.multimap_slots.specs.Slots.{PushesBack, item_at, link_at, with_link}
use Rattle.multimap_walks.specs.declared.links.KeyLink.{KeyLink}
use Rattle.multimap_walks.specs.declared.links.ValueLink.{ValueLink}
use Rattle.multimap_slots.specs.Tapes.{Taped, HasEndRoom, HasTapeRoomFor, KeepsCounts}
use Rattle.multimap_table.specs.Table.{Table}
use Rattle.ordered_multimap.specs.Private.Relocations.{AreChained, AreRelocated, KeepsCapacities}
use Rattle.ordered_multimap.specs.TapeNumbers.{TakesOut, numbers_of}
use Rattle.ordered_multimap.specs.declared.list_ordered_multimap.refused.RefusedValue.{RefusedValue}

-- the tape has no fewer slots than before, and as many where one more value fits; no value left it
pub record MakesRoom {V : Type 0} (old new : Taped V ValueLink) : Type 0 where
  pub fits : HasTapeRoomFor old 0 → HasTapeRoomFor new 0
  pub taken : TakesOut 0 (numbers_of old) (numbers_of new)
  pub no_less : old.list.capacity ≤ new.list.capacity
  pub had_room : HasTapeRoomFor old 1 → new.list.capacity ≡ old.list.capacity
  pub doubles : DoublesIfGrown old.list.capacity new.list.capacity

-- so many more keys and their rows fit
pub record FitsKeys {K : Type 0} (keys : Slots K KeyLink) (rows : FinMap nat_cmp ℕ)
    (row_capacity additional : ℕ) : Type 0 where
  pub key : HasRoomFor keys additional
  pub row : len rows + additional ≤ row_capacity

-- no less room for keys and rows than before, the same where so many more fit, and a room for both
-- that grows at least doubles
pub record GrowsFor {K : Type 0} (keys keys_after : Slots K KeyLink) (rows : FinMap nat_cmp ℕ)
    (row_capacity rows_after additional : ℕ) : Type 0 where
  pub more_keys : keys.capacity ≤ keys_after.capacity
  pub more_rows : row_capacity ≤ rows_after
  pub same_keys : FitsKeys keys rows row_capacity additional
      → keys_after.capacity ≡ keys.capacity
  pub same_rows : FitsKeys keys rows row_capacity additional → rows_after ≡ row_capacity
  pub doubles : DoublesIfGrown (min keys.capacity row_capacity)
      (min keys_after.capacity rows_after)

-- one more key, its row and its first value fit
pub record FitsOneMore {K V : Type 0} (keys : Slots K KeyLink) (rows : FinMap nat_cmp ℕ)
    (row_capacity : ℕ) (values : Taped V ValueLink) : Type 0 where
  pub key : HasRoomFor keys 1
  pub row : len rows + 1 ≤ row_capacity
  pub value : HasTapeRoomFor values 1

-- there is a slot behind the values, which are as many as before, and none was taken out; no memory
-- was taken
pub record MakesEndRoom {K V : Type 0} (keys keys_after : Slots K KeyLink)
    (values values_after : Taped V ValueLink) : Type 0 where
  pub relocated : AreRelocated keys keys_after values.list values_after.list
  pub same_length : length values_after.list.order ≡ length values.list.order
  pub taken : TakesOut 0 (numbers_of values) (numbers_of values_after)
  pub end_room : HasEndRoom values_after
  pub capacities : KeepsCapacities keys keys_after values values_after

-- room for one more value was asked for, and is there exactly if it was not refused
pub record MakesValueRoom {K V X E : Type 0} (keys keys_after : Slots K KeyLink)
    (values values_after : Taped V ValueLink) (r : Result X E) : Type 0 where
  pub relocated : AreRelocated keys keys_after values.list values_after.list
  pub tape : MakesRoom values values_after
  pub room : OnOk r (HasTapeRoomFor values_after 1)
  pub end_room : OnOk r (HasEndRoom values_after)
  pub succeeds : HasTapeRoomFor values 1 → IsOk r
  pub refused : OnErr r (¬ HasTapeRoomFor values_after 1)
  pub keys_capacity : keys_after.capacity ≡ keys.capacity

-- a value that is refused is handed back, and it is refused only where half of the slots are full
pub record HandsBackAt {V X : Type 0} (value : V) (values : Taped V ValueLink)
    (r : Result X (RefusedValue V)) : Type 0 where
  pub refused : IfErr r (λ back. back.value ≡ value)
  pub succeeds : HasTapeRoomFor values 1 → IsOk r

-- room for so many more keys was asked for, and is there if it was not refused; else the room is as
-- it was
pub record MakesKeyRoom {K X E : Type 0} (keys keys_after : Slots K KeyLink)
    (table table_after : Table) (additional : ℕ) (r : Result X E) : Type 0 where
  pub same_keys : KeepsItems keys keys_after
  pub same_rows : table_after.rows ≡ table.rows
  pub room : OnOk r (FitsKeys keys_after table.rows table_after.capacity additional)
  pub succeeds : FitsKeys keys table.rows table.capacity additional → IsOk r
  pub refused : OnErr r (min keys_after.capacity table_after.capacity
      ≡ min keys.capacity table.capacity)
  pub grows : GrowsFor keys keys_after table.rows table.capacity table_after.capacity additional

-- each key has a row, and no row is more; both lists are chained
pub record HasCountedChains {K V : Type 0} (keys : Slots K KeyLink) (table : Table)
    (values : Slots V ValueLink) : Type 0 where
  pub counted : len table.rows ≡ length keys.order
  pub chains : AreChained keys values

-- room for one more key and its first value was asked for, and is there exactly if it was not
-- refused
pub record MakesPairRoom {K V X E : Type 0} (keys keys_after : Slots K KeyLink)
    (table table_after : Table) (values values_after : Taped V ValueLink) (r : Result X E) : Type 0
  where
    pub relocated : AreRelocated keys keys_after values.list values_after.list
    pub same_rows : table_after.rows ≡ table.rows
    pub room : OnOk r (FitsOneMore keys_after table_after.rows table_after.capacity values_after)
    pub end_room : OnOk r (HasEndRoom values_after)
    pub succeeds : FitsOneMore keys table.rows table.capacity values → IsOk r
    pub refused : OnErr r (¬ FitsOneMore keys_after table_after.rows table_after.capacity
        values_after)
    pub grows : GrowsFor keys keys_after table.rows table.capacity table_after.capacity 1
    pub tape : MakesRoom values values_after

-- the tape has as many slots as before, and its counts are as they were
pub record KeepsTapeRoom {V : Type 0} (old new : Taped V ValueLink) : Type 0 where
  pub counts : KeepsCounts old new
  pub capacity : new.list.capacity ≡ old.list.capacity

-- a value came to the slot behind those in use, for which there was room
pub record ComesLast {V : Type 0} (old new : Taped V ValueLink) (place : ℕ) : Type 0 where
  pub behind : place ≡ length old.list.order + old.holes
  pub sound : IsSound new.list
  pub counted : length new.list.order < 2 ^ 64
  pub room : KeepsTapeRoom old new

-- the value stands last in the list, behind the value at the tail in the chain of its key
pub record PushesValue {V : Type 0} (old new : Slots V ValueLink) (place : ℕ) (value : V) (key : ℕ)
    (tail : Option ℕ) : Type 0 where
  pub was_absent : ¬ IsIn place old.order
  pub order : new.order ≡ old.order ++ place ∷ []
  pub item_is : item_at new place ≡ Some value
  pub link_is : link_at new place ≡ Some (record { key = key; previous = tail; next = None })
  pub items : (q : ℕ) → q ≢ place → item_at new q ≡ item_at old q
  pub behind : (q : ℕ) (l : ValueLink) → tail ≡ Some q → link_at old q ≡ Some l
      → link_at new q ≡ Some (record l { next = Some place })
  pub links : (q : ℕ) → q ≢ place → tail ≢ Some q → link_at new q ≡ link_at old q

-- the value stands last, behind the others of the key at the place
pub record PushesBehind {K V : Type 0} (keys keys_after : Slots K KeyLink)
    (values values_after : Slots V ValueLink) (place : ℕ) (value : V) : Type 0 where
  pub link : KeyLink
  pub last : ℕ
  pub link_is : link_at keys place ≡ Some link
  pub pushed : PushesValue values values_after last value place (Some link.tail)
  pub sound : IsSound values_after
  pub keys_are : keys_after
      ≡ with_link keys place (record link { tail = last; length = link.length + 1 })

-- each row is that of a listed place
abbrev pub HasListedRows : {K : Type 0} → Slots K KeyLink → FinMap nat_cmp ℕ → Type 0
HasListedRows keys rows = (place hash : ℕ) → get rows place ≡ Some hash → IsIn place keys.order

-- the link of a key with one value
abbrev pub link_of_one : ℕ → ℕ → KeyLink
link_of_one hash place = record { hash = hash; head = place; tail = place; length = 1 }

-- the key stands last, with this link and a row of its hash
pub record PushesRow {K : Type 0} (keys keys_after : Slots K KeyLink)
    (rows rows_after : FinMap nat_cmp ℕ) (place : ℕ) (key : K) (link : KeyLink) : Type 0 where
  pub key_pushed : PushesBack keys keys_after place key link
  pub rows_are : rows_after ≡ insert rows place link.hash
  pub same_room : keys_after.capacity ≡ keys.capacity

-- room was made for a value, and then it was put behind the others of the key at the place
pub record AppendsBehind {K V : Type 0} (keys keys_after : Slots K KeyLink)
    (values values_after : Slots V ValueLink) (place : ℕ) (value : V) : Type 0 where
  pub keys_reserved : Slots K KeyLink
  pub reserved : Slots V ValueLink
  pub relocated : AreRelocated keys keys_reserved values reserved
  pub pushed : PushesBehind keys_reserved keys_after reserved values_after place value

-- room was made for a key and a value, and then both were put last
pub record AppendsFirst {K V : Type 0} (keys keys_after : Slots K KeyLink)
    (rows rows_after : FinMap nat_cmp ℕ) (values values_after : Slots V ValueLink)
    (hash : ℕ) (key : K) (value : V) : Type 0 where
  pub keys_reserved : Slots K KeyLink
  pub rows_reserved : FinMap nat_cmp ℕ
  pub reserved : Slots V ValueLink
  pub relocated : AreRelocated keys keys_reserved values reserved
  pub same_rows : rows_reserved ≡ rows
  pub fits : HasRoomFor keys_reserved 1
  pub place : ℕ
  pub last : ℕ
  pub row : PushesRow keys_reserved keys_after rows_reserved rows_after place key
      (link_of_one hash last)
  pub value_pushed : PushesValue reserved values_after last value place None
  pub sound : IsSound values_after
