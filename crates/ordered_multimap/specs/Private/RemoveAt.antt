-- A value that leaves by its index in the chain of its key, where the key has others or whatever it
-- has. No public clause cites this module.
use Rattle.std.specs.Prelude.{◌≡◌, ℕ, Option, Some, None, slice_get}
use Rattle.multimap_slots.specs.Slots.{Slots}
use Rattle.multimap_slots.specs.Tapes.{Taped}
use Rattle.multimap_table.specs.Table.{Table}
use Rattle.multimap_walks.specs.declared.links.KeyLink.{KeyLink}
use Rattle.multimap_walks.specs.declared.links.ValueLink.{ValueLink}
use Rattle.multimap_walks.specs.Chained.{chain_of}
use Rattle.ordered_multimap.specs.RemovedAt.{several}
use Rattle.ordered_multimap.specs.Private.RemoveOne.{LeavesPair, TakesOne}
use Rattle.ordered_multimap.specs.declared.list_ordered_multimap.remove.one.Taken.{Taken}

module _ {K V : Type 0} (keys keys_after : Slots K KeyLink)
    (values values_after : Slots V ValueLink) (key index : ℕ) where
  -- this value has left, from the place at the index in the chain of the key at its place
  pub record TakesIndexed (value : V) : Type 0 where
    pub place : ℕ
    pub place_is : slice_get (several (chain_of values key)) index ≡ Some place
    pub one : TakesOne keys keys_after values values_after place value

  -- there is no such place, and all is as it was
  pub record LacksIndexed : Type 0 where
    pub no_place : slice_get (several (chain_of values key)) index ≡ None
    pub keys_are : keys_after ≡ keys
    pub values_are : values_after ≡ values

  abbrev pub TakesAt : Option V → Type 0
  TakesAt None = LacksIndexed
  TakesAt (Some value) = TakesIndexed value

module _ {K V : Type 0} (keys keys_after : Slots K KeyLink) (table table_after : Table)
    (values values_after : Taped V ValueLink) (key index : ℕ) where
  -- the pair of this value has left, whatever values the key had
  pub record TakesPairIndexed (value : V) : Type 0 where
    pub place : ℕ
    pub place_is : slice_get (chain_of values.list key) index ≡ Some place
    pub taken : Taken K V
    pub value_is : taken.value ≡ value
    pub leaves : LeavesPair keys keys_after table table_after values values_after place taken

  -- there is no value at the index, and all is as it was
  pub record LacksPairIndexed : Type 0 where
    pub no_place : slice_get (chain_of values.list key) index ≡ None
    pub keys_are : keys_after ≡ keys
    pub table_is : table_after ≡ table
    pub values_are : values_after ≡ values

  abbrev pub TakesPairAt : Option V → Type 0
  TakesPairAt None = LacksPairIndexed
  TakesPairAt (Some value) = TakesPairIndexed value
