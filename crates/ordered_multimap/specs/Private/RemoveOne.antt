-- A value that leaves its chain, and the key that goes where it was the last one. No public clause
-- cites this module.
use Rattle.std.specs.Prelude.{◌≡◌, ◌≢◌, ◌-◌, ◌<◌, ℕ, List, Option, Some, None, unwrap_or}
use Rattle.std.specs.Ordering.{nat_cmp}
use Rattle.std.specs.FinMap.{FinMap, get}
use Rattle.multimap_slots.specs.Lists.{IsIn, first_of, last_of, without}
use Rattle.multimap_slots.specs.Slots.{Slots, IsSound, item_at, link_at, with_link}
use Rattle.multimap_slots.specs.Tapes.{Taped, Frees}
use Rattle.multimap_table.specs.Table.{Table}
use Rattle.multimap_walks.specs.Chained.{IsChained}
use Rattle.multimap_walks.specs.declared.End.{End}
use Rattle.multimap_walks.specs.declared.End.TheVariants.{Front, Back}
use Rattle.multimap_walks.specs.declared.links.KeyLink.{KeyLink}
use Rattle.multimap_walks.specs.declared.links.ValueLink.{ValueLink}
use Rattle.ordered_multimap.specs.Private.Remove.{KeepsRoom, TakesKey}
use Rattle.ordered_multimap.specs.declared.list_ordered_multimap.remove.one.Taken.{Taken}
use Rattle.ordered_multimap.specs.declared.list_ordered_multimap.remove.one.TakenKey.{TakenKey}
use Rattle.ordered_multimap.specs.declared.list_ordered_multimap.remove.one as steps
use steps.TakenKey.TheVariants.{Kept, Gone}

-- the item at an end, if there is one
abbrev pub end_of_list : {X : Type 0} → End → List X → Option X
end_of_list Front xs = first_of xs
end_of_list Back xs = last_of xs

-- the end of a chain, where the value that leaves had these neighbours towards it and away from it
abbrev pub end_left : Option ℕ → Option ℕ → ℕ → ℕ
end_left None away end = unwrap_or away end
end_left (Some p) away end = end

-- a key's link once the value with this link has left its chain
abbrev pub without_value : KeyLink → ValueLink → KeyLink
without_value k l = record {
  hash = k.hash;
  head = end_left l.previous l.next k.head;
  tail = end_left l.next l.previous k.tail;
  length = k.length - 1;
}

module _ {K V : Type 0} (keys : Slots K KeyLink) where
  -- a value is listed at the place, links are chained, and its key has a row with the hash of that
  -- key's link
  pub record HasPair (rows : FinMap nat_cmp ℕ) (values : Slots V ValueLink) (place : ℕ)
      : Type 0 where
    pub listed : IsIn place values.order
    pub sound : IsSound values
    pub chained : IsChained keys values
    pub row : (l : ValueLink) (k : KeyLink) → link_at values place ≡ Some l
        → link_at keys l.key ≡ Some k → get rows l.key ≡ Some k.hash

  -- a value is listed at the place, its key has this link, and links are chained
  pub record HasKeyLink (values : Slots V ValueLink) (place : ℕ) (key_link : KeyLink)
      : Type 0 where
    pub listed : IsIn place values.order
    pub key_link_is : (l : ValueLink) → link_at values place ≡ Some l
        → link_at keys l.key ≡ Some key_link
    pub sound : IsSound values
    pub chained : IsChained keys values

-- the value at the place has left the list and the chain of its key, which has others
pub record TakesOne {K V : Type 0} (keys keys_after : Slots K KeyLink)
    (values values_after : Slots V ValueLink) (place : ℕ) (value : V) : Type 0 where
  pub link : ValueLink
  pub key_link : KeyLink
  pub link_is : link_at values place ≡ Some link
  pub key_link_is : link_at keys link.key ≡ Some key_link
  pub more : 1 < key_link.length
  pub had : item_at values place ≡ Some value
  pub order : values_after.order ≡ without values.order place
  pub items : (q : ℕ) → q ≢ place → item_at values_after q ≡ item_at values q
  pub before : (q : ℕ) (l : ValueLink) → link.previous ≡ Some q → link_at values q ≡ Some l
      → link_at values_after q ≡ Some (record l { next = link.next })
  pub behind : (q : ℕ) (l : ValueLink) → link.next ≡ Some q → link_at values q ≡ Some l
      → link_at values_after q ≡ Some (record l { previous = link.previous })
  pub links : (q : ℕ) → q ≢ place → link.previous ≢ Some q → link.next ≢ Some q
      → link_at values_after q ≡ link_at values q
  pub keys_are : keys_after ≡ with_link keys link.key (without_value key_link link)
  pub capacity : values_after.capacity ≡ values.capacity

-- the value at the place was the only one of its key, and has left with it
pub record TakesLast {K V : Type 0} (keys keys_after : Slots K KeyLink)
    (rows rows_after : FinMap nat_cmp ℕ)
    (values values_after : Slots V ValueLink) (place : ℕ) (key : K) (value : V) : Type 0 where
  pub link : ValueLink
  pub link_is : link_at values place ≡ Some link
  pub had : item_at values place ≡ Some value
  pub order : values_after.order ≡ without values.order place
  pub entry : TakesKey keys keys_after rows rows_after values values_after link.key key

-- the value at the place has left, and its key with it where it was the only one
module _ {K V : Type 0} (keys keys_after : Slots K KeyLink) (rows rows_after : FinMap nat_cmp ℕ)
    (values values_after : Slots V ValueLink) (place : ℕ) (value : V) where
  -- and the key at its place, with other values
  pub record TakesOneOfSeveral (key : ℕ) : Type 0 where
    pub one : TakesOne keys keys_after values values_after place value
    pub key_is : one.link.key ≡ key
    pub rows_are : rows_after ≡ rows

  abbrev pub TakesByKey : TakenKey K → Type 0
  TakesByKey (Kept key) = TakesOneOfSeveral key
  TakesByKey (Gone key) =
      TakesLast keys keys_after rows rows_after values values_after place key value

-- the pair at the place has left
abbrev pub TakesPair : {K V : Type 0} (keys keys_after : Slots K KeyLink)
    (rows rows_after : FinMap nat_cmp ℕ) (values values_after : Slots V ValueLink)
    → ℕ → Taken K V → Type 0
TakesPair keys keys_after rows rows_after values values_after place taken =
    TakesByKey keys keys_after rows rows_after values values_after place taken.value taken.key

-- the pair at the place has left the map, its slot is a hole, and no room has changed
pub record LeavesPair {K V : Type 0} (keys keys_after : Slots K KeyLink) (table table_after : Table)
    (values values_after : Taped V ValueLink) (place : ℕ) (taken : Taken K V) : Type 0 where
  pub takes : TakesPair keys keys_after table.rows table_after.rows
      values.list values_after.list place taken
  pub frees : Frees values values_after
  pub room : KeepsRoom keys keys_after table table_after values values_after
