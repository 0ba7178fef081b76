-- One pass of `retain`, step by step. No public clause cites this module.
use Rattle.std.specs.Prelude.{◌≡◌, ◌≤◌, ◌-◌, ℕ, Bool, true, false, Some, length}
use Rattle.std.specs.Borrow.{MutBor}
use Rattle.std.specs.Fn.{Mut}
use Rattle.multimap_slots.specs.Lists.{IsIn}
use Rattle.multimap_slots.specs.Slots.{Slots, with_item}
use Rattle.multimap_slots.specs.Tapes.{Taped, with_list}
use Rattle.multimap_table.specs.Table.{Table}
use Rattle.multimap_walks.specs.declared.links.KeyLink.{KeyLink}
use Rattle.multimap_walks.specs.declared.links.ValueLink.{ValueLink}
use Rattle.multimap_walks.specs.Chained.{AreOwned, pair_at, pairs_of}
use Rattle.ordered_multimap.specs.Agrees.{Agrees, items_of}
use Rattle.ordered_multimap.specs.Keys.{keys_named_by}
use Rattle.ordered_multimap.specs.Private.Remove.{KeepsRoom}
use Rattle.ordered_multimap.specs.Private.RemoveOne.{LeavesPair}
use Rattle.ordered_multimap.specs.Retain.{AsksValue}
use Rattle.ordered_multimap.specs.TapeNumbers.{TakesOut, numbers_of}
use Rattle.ordered_multimap.specs.declared.list_ordered_multimap.remove.one.Taken.{Taken}

-- a value is listed at the place, and the key that the link of each value names is there
pub record IsOwnedAt {K V : Type 0} (keys : Slots K KeyLink) (values : Slots V ValueLink)
    (place : ℕ) : Type 0 where
  pub listed : IsIn place values.order
  pub owned : AreOwned keys values

module _ {K V : Type 0} (keys keys_after : Slots K KeyLink) (table table_after : Table)
    (values values_after : Taped V ValueLink) (place : ℕ) where
  -- the pair stays, and all is as it was
  pub record KeepsPair : Type 0 where
    pub keys_are : keys_after ≡ keys
    pub table_is : table_after ≡ table
    pub values_are : values_after ≡ values

  -- it stays, or has left
  abbrev pub StaysIf : Bool → Type 0
  StaysIf true = KeepsPair
  StaysIf false =
      (pair : Taken K V)
      × LeavesPair keys keys_after table table_after values values_after place pair

module _ {F K V : Type 0} (calls : F → K → V → Bool → V → F → Type 0) where
  -- a call on the pair at the place returns b, and its value is the one that the call left
  pub record Asks (keys : Slots K KeyLink) (values values_after : Taped V ValueLink) (place : ℕ)
      (f : F) (b : Bool) (g : F) : Type 0 where
    pub key : K
    pub was : V
    pub left : V
    pub pair : pair_at keys values.list place ≡ Some (key, was)
    pub called : calls f key was b left g
    pub written : values_after ≡ with_list values (with_item values.list place left)

  -- a call on the pair at the place has told whether it stays
  pub record RetainsAt (keys keys_after : Slots K KeyLink) (table table_after : Table)
      (values values_after : Taped V ValueLink) (place : ℕ) (f g : F) : Type 0 where
    pub answer : Bool
    pub asked : Taped V ValueLink
    pub asks : Asks keys values asked place f answer g
    pub rest : StaysIf keys keys_after table table_after asked values_after place answer

-- some pairs have left, and the keys that have none any more
pub record LosesSome {K V : Type 0} (eq : K → K → Bool) (keys keys_after : Slots K KeyLink)
    (table table_after : Table) (values values_after : Taped V ValueLink) : Type 0 where
  pub agrees : (hash : K → ℕ) → Agrees eq hash keys table.rows values.list
      → Agrees eq hash keys_after table_after.rows values_after.list
  pub keys_are : items_of keys_after
      ≡ keys_named_by eq (items_of keys) (pairs_of keys_after values_after.list)
  pub counts : TakesOut (length values.list.order - length values_after.list.order)
      (numbers_of values) (numbers_of values_after)
  pub fewer : length values_after.list.order ≤ length values.list.order
  pub room : KeepsRoom keys keys_after table table_after values values_after

-- a call of f on the value alone, whatever the key
abbrev pub AsksAny : {F K V : Type 0} → Mut F (MutBor V × Unit {0}) (Bool × (MutBor V × Unit {0}))
    → F → K → V → Bool → V → F → Type 0
AsksAny g f k v b w next = AsksValue g f v b w next
