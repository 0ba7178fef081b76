-- How key list, table and values agree. `IsOccupiedBy` of an entry uses `HasKey`; no public clause
-- stands on the rest.
use Rattle.std.specs.Prelude.{◌≡◌, ℕ, Bool, true, false, List, [], Some, length}
use Rattle.std.specs.List.{fold, filter_map, list_any, IsDistinct}
use Rattle.std.specs.Hash.{HashWrites}
use Rattle.std.specs.Ordering.{nat_cmp}
use Rattle.std.specs.FinMap.{FinMap, get, len}
use Rattle.std.specs.declared.hash.Hasher as hasher
use Rattle.std.specs.declared.hash.BuildHasher as builder
use Rattle.multimap_slots.specs.Lists.{IsIn}
use Rattle.multimap_slots.specs.Slots.{Slots, IsSound, item_at, link_at}
use Rattle.multimap_slots.specs.Tapes.{Taped, HasTapeRoomFor}
use Rattle.multimap_walks.specs.declared.links.KeyLink.{KeyLink}
use Rattle.multimap_walks.specs.declared.links.ValueLink.{ValueLink}
use Rattle.multimap_walks.specs.Chained.{IsChained, pairs_of}
use Rattle.ordered_multimap.specs.Lists.{IsWellFormed, Lists, lists}
use Rattle.ordered_multimap.specs.Pairs.{values_where}
use Rattle.ordered_multimap.specs.TapeNumbers.{numbers_of, ArePaid}

-- what a builder makes of the writes of a key
abbrev pub hash_of : {S H : Type 0} → builder.Ghosts S H → hasher.Ghosts H → S → HashWrites → ℕ
hash_of b h state writes = h.finish (fold h.write (b.build_hasher state) writes)

-- the listed items, in order
abbrev pub items_of : {T L : Type 0} → Slots T L → List T
items_of s = filter_map (item_at s) s.order

-- What is found of the keys that a test accepts.
module _ {K : Type 0} (accepts : K → Bool) where
  -- a key that the test accepts is listed at the place
  pub record HasKeyWhere (keys : Slots K KeyLink) (place : ℕ) : Type 0 where
    pub listed : IsIn place keys.order
    pub stored : K
    pub item_is : item_at keys place ≡ Some stored
    pub equal : accepts stored ≡ true

  -- no key of well-formed lists is accepted, and so none has a value
  pub record LacksWhere {V : Type 0} (eq : K → K → Bool) (m : Lists K V) : Type 0 where
    pub well_formed : IsWellFormed eq m
    pub unlisted : list_any accepts m.keys ≡ false
    pub no_value : values_where accepts m.pairs ≡ []

  -- where the result is true, an accepted key stands at the place, and where it is false, none does
  abbrev pub SaysWhetherAccepted : Slots K KeyLink → ℕ → Bool → Type 0
  SaysWhetherAccepted keys place true = HasKeyWhere keys place
  SaysWhetherAccepted keys place false = (j : K) → item_at keys place ≡ Some j → accepts j ≡ false

  -- the table has only listed places, and with this hash the place of each accepted key
  pub record IsFoundBy (keys : Slots K KeyLink) (rows : FinMap nat_cmp ℕ) (hash : ℕ) : Type 0 where
    pub places : (place h : ℕ) → get rows place ≡ Some h → IsIn place keys.order
    pub hashed : (place : ℕ) (j : K) → IsIn place keys.order → item_at keys place ≡ Some j
        → accepts j ≡ true → get rows place ≡ Some hash

module _ {K : Type 0} (eq : K → K → Bool) where
  -- a key that is equal to k is listed at the place
  abbrev pub HasKey : Slots K KeyLink → K → ℕ → Type 0
  HasKey keys k = HasKeyWhere (eq k) keys

  -- no key of well-formed lists is equal to k, and so k has no value
  abbrev pub LacksKey : {V : Type 0} → Lists K V → K → Type 0
  LacksKey m k = LacksWhere (eq k) eq m

  -- the key at the place is accepted by a test, and the test accepts those that are equal to it
  pub record StandsAt (accepts : K → Bool) (keys : Slots K KeyLink) (place : ℕ) : Type 0 where
    pub stored : K
    pub own : HasKeyWhere (eq stored) keys place
    pub same : accepts ≡ eq stored

module _ {K V : Type 0} where
  -- the two lists that the slots mean
  abbrev pub lists_of : Slots K KeyLink → Slots V ValueLink → Lists K V
  lists_of keys values = lists (items_of keys) (pairs_of keys values)

  -- the links are chained, no two keys are equal, and the table has the place of each key with the
  -- hash of its link, which is that of the key
  pub record Agrees (eq : K → K → Bool) (hash : K → ℕ) (keys : Slots K KeyLink)
      (rows : FinMap nat_cmp ℕ) (values : Slots V ValueLink) : Type 0 where
    pub keys_sound : IsSound keys
    pub values_sound : IsSound values
    pub chained : IsChained keys values
    pub distinct : IsDistinct eq (items_of keys)
    pub hashed : (place : ℕ) (k : K) (l : KeyLink) → IsIn place keys.order
        → item_at keys place ≡ Some k → link_at keys place ≡ Some l → l.hash ≡ hash k
    pub in_table : (place : ℕ) (l : KeyLink) → IsIn place keys.order → link_at keys place ≡ Some l
        → get rows place ≡ Some l.hash
    pub listed : (place h : ℕ) → get rows place ≡ Some h → IsIn place keys.order
    pub counted : len rows ≡ length keys.order

-- key list, table and tape agree, the values fill no more than half of the slots, and moves are
-- paid for
pub record IsMap {K V : Type 0} (eq : K → K → Bool) (hash : K → ℕ) (keys : Slots K KeyLink)
    (rows : FinMap nat_cmp ℕ) (values : Taped V ValueLink) : Type 0 where
  pub agrees : Agrees eq hash keys rows values.list
  pub fits : HasTapeRoomFor values 0
  pub paid : ArePaid (numbers_of values)
