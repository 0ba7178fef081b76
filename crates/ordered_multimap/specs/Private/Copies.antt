-- Clones of keys and values in new storage, in the order of the originals. No public clause cites
-- this module.
use Rattle.std.specs.Prelude.{◌≡◌, ◌≤◌, ◌/◌, ℕ, List, set, length, Option, Some}
use Rattle.std.specs.Ordering.{nat_cmp}
use Rattle.std.specs.FinMap.{FinMap, insert}
use Rattle.multimap_slots.specs.Lists.{IsIn}
use Rattle.multimap_slots.specs.Slots.{Slots, IsSound, PushesBack, item_at, link_at}
use Rattle.multimap_slots.specs.Tapes.{Taped}
use Rattle.multimap_table.specs.Table.{Table}
use Rattle.multimap_walks.specs.declared.links.KeyLink.{KeyLink}
use Rattle.multimap_walks.specs.declared.links.ValueLink.{ValueLink}
use Rattle.multimap_walks.specs.Chained.{position_in}
use Rattle.ordered_multimap.specs.Private.KeyRelocations.{HasRows, HaveNewPlaces}
use Rattle.ordered_multimap.specs.Private.KeyRelocations.{with_new_key}
use Rattle.ordered_multimap.specs.Private.Relocations.{relocated_key, relocated_value}
use Rattle.ordered_multimap.specs.TapeNumbers.{AreUnused, numbers_of}

-- each place of the order has its rank: how many places stand before it
pub record AreRanks (order : List ℕ) (has_rank : ℕ → Type 0) (rank : ℕ → ℕ) : Type 0 where
  pub within : (q : ℕ) → IsIn q order → has_rank q
  pub each : (q : ℕ) → IsIn q order → rank q ≡ position_in order q

-- both ends that the link names have a rank
pub record HasRankedEnds (has_rank : ℕ → Type 0) (link : KeyLink) : Type 0 where
  pub head : has_rank link.head
  pub tail : has_rank link.tail

-- each neighbour that the link names has a rank
pub record HasRankedNeighbours (has_rank : ℕ → Type 0) (link : ValueLink) : Type 0 where
  pub previous : (q : ℕ) → link.previous ≡ Some q → has_rank q
  pub next : (q : ℕ) → link.next ≡ Some q → has_rank q

-- a clone of the item at the place, and its link, made of the clone and of the link of that item
pub record IsCopy {T L : Type 0} (is_clone : T → T → Type 0) (slots : Slots T L)
    (new_link : T → L → L) (place : ℕ) (item : Option T) (link : Option L) : Type 0 where
  pub original : T
  pub original_link : L
  pub copy : T
  pub was : item_at slots place ≡ Some original
  pub link_was : link_at slots place ≡ Some original_link
  pub cloned : is_clone original copy
  pub item_is : item ≡ Some copy
  pub link_is : link ≡ Some (new_link copy original_link)

module _ {K : Type 0} (is_clone : K → K → Type 0) (hash : K → ℕ) (rank : ℕ → ℕ)
    (keys : Slots K KeyLink) where
  -- a clone of the key at the place, and its link with the clone's hash and with ranks for places
  abbrev pub IsKeyCopy : ℕ → Option K → Option KeyLink → Type 0
  IsKeyCopy = IsCopy is_clone keys (λ copy l. record (relocated_key rank l) { hash = hash copy })

  -- a clone of the key at the place stands last, at the place `to`, with a row of its hash
  pub record AddsKeyCopy (copies copies_after : Slots K KeyLink)
      (rows rows_after : FinMap nat_cmp ℕ) (place to : ℕ) : Type 0 where
    pub copy : K
    pub link : KeyLink
    pub stands : IsKeyCopy place (Some copy) (Some link)
    pub pushed : PushesBack copies copies_after to copy link
    pub rows_are : rows_after ≡ insert rows to link.hash

  -- a clone of the key at the place stands last, with a row of its hash, and its place is noted
  pub record CopiesKey (copies copies_after : Slots K KeyLink) (rows rows_after : FinMap nat_cmp ℕ)
      (new_places new_places_after : List ℕ) (place : ℕ) : Type 0 where
    pub to : ℕ
    pub adds : AddsKeyCopy copies copies_after rows rows_after place to
    pub new_places_are : new_places_after ≡ set new_places place to

module _ {V : Type 0} (is_clone : V → V → Type 0) (name rank : ℕ → ℕ)
    (values : Slots V ValueLink) where
  -- a clone of the value at the place, and its link with the new place of its key and with ranks
  abbrev pub IsValueCopy : ℕ → Option V → Option ValueLink → Type 0
  IsValueCopy = IsCopy is_clone values (λ _ l. with_new_key name (relocated_value rank l))

  -- a clone of the value at the place stands last
  pub record CopiesValue (copies copies_after : Slots V ValueLink) (place to : ℕ) : Type 0 where
    pub copy : V
    pub link : ValueLink
    pub stands : IsValueCopy place (Some copy) (Some link)
    pub pushed : PushesBack copies copies_after to copy link

-- all keys and all values were cloned, each key with its row
pub record AreCopied {K V : Type 0} (key_clone : K → K → Type 0) (value_clone : V → V → Type 0)
    (hash : K → ℕ) (keys copies : Slots K KeyLink) (rows : FinMap nat_cmp ℕ)
    (values value_copies : Slots V ValueLink) : Type 0 where
  pub name : ℕ → ℕ
  pub rank : ℕ → ℕ
  pub keys_copied : HaveNewPlaces (IsKeyCopy key_clone hash rank keys) name keys.order copies
  pub rows_are : HasRows copies rows
  pub values_copied : HaveNewPlaces (IsValueCopy value_clone name rank values) rank values.order
      value_copies
  pub keys_sound : IsSound copies
  pub values_sound : IsSound value_copies

-- they were, with room for as many of both, on a tape that no change has used
pub record AreStored {K V : Type 0} (key_clone : K → K → Type 0) (value_clone : V → V → Type 0)
    (hash : K → ℕ) (keys copies : Slots K KeyLink) (table : Table) (values : Slots V ValueLink)
    (tape : Taped V ValueLink) : Type 0 where
  pub copied : AreCopied key_clone value_clone hash keys copies table.rows values tape.list
  pub key_room : length keys.order ≤ copies.capacity
  pub row_room : length keys.order ≤ table.capacity
  pub value_room : length values.order ≤ tape.list.capacity / 2
  pub unused : AreUnused (numbers_of tape)
