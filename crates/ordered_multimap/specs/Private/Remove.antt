-- Values that leave the map, and the key that goes with its last one. No public clause cites this
-- module.
use Rattle.std.specs.Prelude.{◌≡◌, ◌==◌, ℕ, Bool, true, false, not, List, ◌∷◌, ◌++◌, length, filter}
use Rattle.std.specs.Prelude.{◌≢◌, ◌+◌, ◌≤◌, Option, Some, None}
use Rattle.std.specs.List.{list_any}
use Rattle.std.specs.Ordering.{nat_cmp}
use Rattle.std.specs.FinMap.{FinMap, get, remove}
use Rattle.multimap_slots.specs.Lists.{AreDistinct, IsIn, first_of, last_of, next_of, without}
use Rattle.multimap_slots.specs.Slots.{Slots, KeepsOthers, Removes, item_at, link_at}
use Rattle.multimap_slots.specs.Slots.{DoublesIfGrown, with_link}
use Rattle.multimap_slots.specs.Tapes.{Taped, Frees, HasEndRoom, HasTapeRoomFor}
use Rattle.multimap_table.specs.Table.{Table}
use Rattle.multimap_walks.specs.declared.links.ChainEnds.{ChainEnds}
use Rattle.multimap_walks.specs.declared.links.KeyLink.{KeyLink}
use Rattle.multimap_walks.specs.declared.links.ValueLink.{ValueLink}
use Rattle.multimap_walks.specs.Chained.{is_value_of, chain_of, values_at}
use Rattle.ordered_multimap.specs.Private.Append.{KeepsTapeRoom, PushesBehind}
use Rattle.ordered_multimap.specs.Detaches.{IsDrained, drained}
use Rattle.ordered_multimap.specs.Private.Relocations.{AreChained, AreRelocated}
use Rattle.ordered_multimap.specs.TapeNumbers.{TakesOut, numbers_of}

-- the values at these places have left the list, what stands at the others is as it was, and as
-- many fit as before
pub record TakesValues {V : Type 0} (gone : ℕ → Bool) (old new : Slots V ValueLink) : Type 0 where
  pub order : new.order ≡ filter (λ q. not (gone q)) old.order
  pub items : (q : ℕ) → gone q ≡ false → item_at new q ≡ item_at old q
  pub links : (q : ℕ) → gone q ≡ false → link_at new q ≡ link_at old q
  pub capacity : new.capacity ≡ old.capacity

-- whether the place is one of these
abbrev pub among : List ℕ → ℕ → Bool
among places q = list_any (λ p. p == q) places

-- of the places of a chain the first n have left the list, and this is the next one
pub record IsTaking {V : Type 0} (chain : List ℕ) (n : ℕ) (following : Option ℕ)
    (old new : Slots V ValueLink) : Type 0 where
  pub gone : List ℕ
  pub rest : List ℕ
  pub parts : chain ≡ gone ++ rest
  pub count : length gone ≡ n
  pub following_is : following ≡ first_of rest
  pub taken : TakesValues (among gone) old new

-- what stands in the slots is as it was
pub record KeepsContents {V : Type 0} (old new : Slots V ValueLink) : Type 0 where
  pub items : new.items ≡ old.items
  pub links : new.links ≡ old.links

-- listed places from the first one on, so many at least, each of which names the next
pub record IsRow {V : Type 0} (values : Slots V ValueLink) (first count : ℕ) (row : List ℕ)
    : Type 0 where
  pub first_is : first_of row ≡ Some first
  pub enough : count ≤ length row
  pub distinct : AreDistinct row
  pub listed : (p : ℕ) → IsIn p row → IsIn p values.order
  pub next : (p : ℕ) (l : ValueLink) → IsIn p row → link_at values p ≡ Some l
      → next_of row p ≡ l.next

-- a value leaves, or values leave together, in a way that keeps what stands in the slots or not
module _ {V : Type 0} (keeps : Bool) where
  -- the value at the place has left the list, with this link
  pub record UnlinksValue (old new : Taped V ValueLink) (place : ℕ) (link : ValueLink) : Type 0
    where
      pub link_is : link_at old.list place ≡ Some link
      pub order : new.list.order ≡ without old.list.order place
      pub shorter : length new.list.order + 1 ≡ length old.list.order
      pub others : KeepsOthers old.list new.list place
      pub capacity : new.list.capacity ≡ old.list.capacity
      pub kept : keeps ≡ true → KeepsContents old.list new.list
      pub frees : Frees old new

  -- of a row of places the first n have left, up to the last one of these, and each is counted
  pub record AreUnlinked (row : List ℕ) (n last : ℕ) (following : Option ℕ)
      (old new : Taped V ValueLink) : Type 0 where
    pub taking : IsTaking row n following old.list new.list
    pub last_is : last_of taking.gone ≡ Some last
    pub kept : keeps ≡ true → KeepsContents old.list new.list
    pub moved : new.moved ≡ old.moved
    pub freed : new.freed ≡ old.freed + n
    pub holes : new.holes ≡ old.holes + n
    pub shorter : length new.list.order + n ≡ length old.list.order

-- the row of the place has gone, and as many fit as before
pub record TakesRow (old new : Table) (place : ℕ) : Type 0 where
  pub rows : new.rows ≡ remove old.rows place
  pub capacity : new.capacity ≡ old.capacity

-- keys and rows have the room that they had
pub record KeepsKeyRoom {K : Type 0} (keys keys_after : Slots K KeyLink) (table table_after : Table)
    : Type 0 where
  pub key_room : keys_after.capacity ≡ keys.capacity
  pub row_room : table_after.capacity ≡ table.capacity

-- keys, rows and values have the room that they had
pub record KeepsRoom {K V : Type 0} (keys keys_after : Slots K KeyLink) (table table_after : Table)
    (values values_after : Taped V ValueLink) : Type 0 where
  pub key_room : keys_after.capacity ≡ keys.capacity
  pub row_room : table_after.capacity ≡ table.capacity
  pub value_room : values_after.list.capacity ≡ values.list.capacity

-- the key at the place has left, with its row and all its values
pub record TakesKey {K V : Type 0} (keys keys_after : Slots K KeyLink)
    (rows rows_after : FinMap nat_cmp ℕ)
    (values values_after : Slots V ValueLink) (place : ℕ) (key : K) : Type 0 where
  pub taken : TakesValues (is_value_of values place) values values_after
  pub removed : Removes keys keys_after place key
  pub rows_are : rows_after ≡ remove rows place

-- a drain of these values may be made
pub record HoldsValues {V : Type 0} (values : Slots V ValueLink) (ends : ChainEnds)
    (items : List V) : Type 0 where
  pub chain : IsDrained values ends
  pub left : drained values ends ≡ items

-- the key at the place is listed, and both lists are chained
pub record HasChain {K V : Type 0} (keys : Slots K KeyLink) (values : Slots V ValueLink) (place : ℕ)
    : Type 0 where
  pub listed : IsIn place keys.order
  pub chains : AreChained keys values

-- the same, and the key has a row, with the hash of its link
pub record HasEntry {K V : Type 0} (keys : Slots K KeyLink) (rows : FinMap nat_cmp ℕ)
    (values : Slots V ValueLink) (place : ℕ) : Type 0 where
  pub chain : HasChain keys values place
  pub row : (l : KeyLink) → link_at keys place ≡ Some l → get rows place ≡ Some l.hash

-- the key at the place is listed and both lists are chained, and the values fill no more than half
-- of the slots
pub record HasFittingChain {K V : Type 0} (keys : Slots K KeyLink) (values : Taped V ValueLink)
    (place : ℕ) : Type 0 where
  pub chain : HasChain keys values.list place
  pub fits : HasTapeRoomFor values 0

-- or there is a slot behind the values
pub record HasChainBeforeRoom {K V : Type 0} (keys : Slots K KeyLink) (values : Taped V ValueLink)
    (place : ℕ) : Type 0 where
  pub chain : HasChain keys values.list place
  pub room : HasEndRoom values

-- all values of the key at the place have left but its last one, whose link and that of the key
-- name no other
pub record TakesOlder {K V : Type 0} (keys keys_after : Slots K KeyLink)
    (values values_after : Slots V ValueLink) (place : ℕ) : Type 0 where
  pub link : KeyLink
  pub link_is : link_at keys place ≡ Some link
  pub count : ℕ
  pub older : count + 1 ≡ link.length
  pub left : Slots V ValueLink
  pub taking : IsTaking (chain_of values place) count (Some link.tail) values left
  pub rest : values_after ≡ record left { links = values_after.links }
  pub alone : (l : ValueLink) → link_at left link.tail ≡ Some l
      → link_at values_after link.tail ≡ Some (record l { previous = None })
  pub links : (q : ℕ) → q ≢ link.tail → link_at values_after q ≡ link_at left q
  pub keys_are : keys_after ≡ with_link keys place
      (record { hash = link.hash; head = link.tail; tail = link.tail; length = 1 })

-- all values of the key at the place have left but its first one, whose link and that of the key
-- name no other
pub record TakesLater {K V : Type 0} (keys keys_after : Slots K KeyLink)
    (values values_after : Slots V ValueLink) (place : ℕ) : Type 0 where
  pub link : KeyLink
  pub link_is : link_at keys place ≡ Some link
  pub gone : List ℕ
  pub parts : chain_of values place ≡ link.head ∷ gone
  pub left : Slots V ValueLink
  pub taken : TakesValues (among gone) values left
  pub rest : values_after ≡ record left { links = values_after.links }
  pub alone : (l : ValueLink) → link_at left link.head ≡ Some l
      → link_at values_after link.head ≡ Some (record l { next = None })
  pub links : (q : ℕ) → q ≢ link.head → link_at values_after q ≡ link_at left q
  pub keys_are : keys_after ≡ with_link keys place (record link { tail = link.head; length = 1 })

-- the end has room, a value was put behind the others of the key at the place, and these have left
pub record InsertsBehind {K V : Type 0} (keys keys_after : Slots K KeyLink)
    (values values_after : Slots V ValueLink) (place : ℕ) (value : V) : Type 0 where
  pub keys_reserved : Slots K KeyLink
  pub reserved : Slots V ValueLink
  pub relocated : AreRelocated keys keys_reserved values reserved
  pub keys_pushed : Slots K KeyLink
  pub pushed_values : Slots V ValueLink
  pub pushed : PushesBehind keys_reserved keys_pushed reserved pushed_values place value
  pub older : TakesOlder keys_pushed keys_after pushed_values values_after place

-- all values of the key at the place have left but its first one, and they are counted
pub record UnlinksLater {K V : Type 0} (keys keys_after : Slots K KeyLink)
    (values values_after : Taped V ValueLink) (place : ℕ) : Type 0 where
  pub later : TakesLater keys keys_after values.list values_after.list place
  pub counts : TakesOut (length later.gone) (numbers_of values) (numbers_of values_after)

-- values of a key leave in a way that keeps them in their slots or not, and this is said of the
-- first of them; where they are kept, a drain of them may be made
module _ {K V : Type 0} (keeps : Bool) (gives : V → Type 0)
    (keys keys_after : Slots K KeyLink) where
  -- all have left, and the key at the place with them
  pub record UnlinksKey (values values_after : Taped V ValueLink) (place : ℕ) (key : K)
      (ends : ChainEnds) : Type 0 where
    pub taken : TakesValues (is_value_of values.list place) values.list values_after.list
    pub removed : Removes keys keys_after place key
    pub first : (l : KeyLink) (v : V) → link_at keys place ≡ Some l
        → item_at values.list l.head ≡ Some v → gives v
    pub counts : TakesOut (length (chain_of values.list place))
        (numbers_of values) (numbers_of values_after)
    pub drain : keeps ≡ true → HoldsValues values_after.list ends
        (values_at values.list (chain_of values.list place))

  -- and its row has gone, too
  pub record UnlinksEntry (table table_after : Table) (values values_after : Taped V ValueLink)
      (place : ℕ) (key : K) (ends : ChainEnds) : Type 0 where
    pub entry : UnlinksKey values values_after place key ends
    pub row : TakesRow table table_after place

  module _ (values values_after : Taped V ValueLink) (place : ℕ) where
    -- all but the last one have left
    pub record UnlinksOlder (ends : ChainEnds) : Type 0 where
      pub older : TakesOlder keys keys_after values.list values_after.list place
      pub first : (v : V) → item_at values.list older.link.head ≡ Some v → gives v
      pub counts : TakesOut older.count (numbers_of values) (numbers_of values_after)
      pub shorter : length values_after.list.order + older.count ≡ length values.list.order
      pub drain : keeps ≡ true → HoldsValues values_after.list ends
          (values_at values.list older.taking.gone)

    -- the value was put behind them, and they have left
    pub record Inserts (value : V) (ends : ChainEnds) : Type 0 where
      pub done : InsertsBehind keys keys_after values.list values_after.list place value
      pub first : (v : V) → item_at done.pushed_values done.older.link.head ≡ Some v → gives v
      pub counts : TakesOut (length (chain_of values.list place))
          (numbers_of values) (numbers_of values_after)
      pub fits : HasTapeRoomFor values_after 0
      pub drain : keeps ≡ true → HoldsValues values_after.list ends
          (values_at done.pushed_values done.older.taking.gone)

-- the value was put last, behind the others of the key at the place, and these have left
pub record ReplacesChain {K V : Type 0} (keeps : Bool) (gives : V → Type 0)
    (keys keys_after : Slots K KeyLink) (values values_after : Taped V ValueLink) (place : ℕ)
    (value : V) (ends : ChainEnds) : Type 0 where
  pub keys_pushed : Slots K KeyLink
  pub pushed_values : Taped V ValueLink
  pub pushed : PushesBehind keys keys_pushed values.list pushed_values.list place value
  pub room : KeepsTapeRoom values pushed_values
  pub older : UnlinksOlder keeps gives keys_pushed keys_after pushed_values values_after place ends

-- keys and values have other names at most, the values fit, and none was taken out
pub record KeepsNames {K V : Type 0} (keys keys_after : Slots K KeyLink)
    (values values_after : Taped V ValueLink) : Type 0 where
  pub relocated : AreRelocated keys keys_after values.list values_after.list
  pub fits : HasTapeRoomFor values_after 0
  pub counts : TakesOut 0 (numbers_of values) (numbers_of values_after)

-- no room is lower, that of the values is the same where one more fits, and doubles where it grows
pub record GrowsForOne {K V : Type 0} (keys keys_after : Slots K KeyLink)
    (values values_after : Taped V ValueLink) : Type 0 where
  pub keys_capacity : keys_after.capacity ≡ keys.capacity
  pub no_less : values.list.capacity ≤ values_after.list.capacity
  pub had_room : HasTapeRoomFor values 1 → values_after.list.capacity ≡ values.list.capacity
  pub doubles : DoublesIfGrown values.list.capacity values_after.list.capacity
