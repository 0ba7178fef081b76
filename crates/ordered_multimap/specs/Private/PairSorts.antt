-- The places of the values, sorted by the pairs that stand there, and values that come to another
-- tape in such an order. No public clause cites this module.
use Rattle.std.specs.Prelude.{◌≡◌, ◌+◌, ℕ, List, [], ◌∷◌, ◌++◌, length, Some, IsPermutation}
use Rattle.std.specs.Borrow.{Bor}
use Rattle.std.specs.Fn.{Mut}
use Rattle.std.specs.List.{filter_map}
use Rattle.std.specs.declared.cmp.Ordering.{Ordering}
use Rattle.multimap_slots.specs.Lists.{IsIn, first_of, last_of}
use Rattle.multimap_slots.specs.Slots.{Slots, IsSound, link_at, with_link}
use Rattle.multimap_walks.specs.declared.links.KeyLink.{KeyLink}
use Rattle.multimap_walks.specs.declared.links.ValueLink.{ValueLink}
use Rattle.multimap_walks.specs.Chained.{chain_of, pair_at, pairs_of}
use Rattle.ordered_multimap.specs.MapSlots.{MapSlots}
use Rattle.ordered_multimap.specs.PairSorts.{IsSortedByPairClosure, IsStableByPairClosure}
use Rattle.ordered_multimap.specs.Private.Append.{PushesValue}
use Rattle.ordered_multimap.specs.Private.KeySorts.{item_or}
use Rattle.ordered_multimap.specs.Private.Relocations.{AreChained}

-- the link of the key at the place has this hash
pub record HasHash {K : Type 0} (keys : Slots K KeyLink) (place hash : ℕ) : Type 0 where
  pub link : KeyLink
  pub link_is : link_at keys place ≡ Some link
  pub same : hash ≡ link.hash

-- only the links of keys differ, and no hash in them
pub record KeepsHashes {K : Type 0} (keys keys_after : Slots K KeyLink) : Type 0 where
  pub rest : keys_after ≡ record keys { links = keys_after.links }
  pub hashes : (q : ℕ) (l : KeyLink) → link_at keys_after q ≡ Some l
      → HasHash keys q l.hash

module _ {K V : Type 0} where
  -- the pair whose value is listed at the place, and another where none is
  abbrev pub pair_or : MapSlots K V → K × V → ℕ → K × V
  pair_or m = item_or (pair_at m.keys m.values) m.values.order

  -- these are the places of the values, in the order of their pairs that the function answers by
  pub record ArePlacesByPair {F : Type 0}
      (g : Mut F (Bor K × (Bor V × (Bor K × (Bor V × Unit {0})))) Ordering) (cmp : F)
      (m : MapSlots K V) (places : List ℕ) : Type 0 where
    pub permutation : IsPermutation m.values.order places
    pub sorted : IsSortedByPairClosure g cmp (filter_map (pair_at m.keys m.values) places)
    pub stable : IsStableByPairClosure g cmp (pairs_of m.keys m.values)
        (filter_map (pair_at m.keys m.values) places)

  -- where the key at the place has a value on this tape, its link names the ends and the length of
  -- the chain there
  pub record IsBegunAt (keys : Slots K KeyLink) (values : Slots V ValueLink) (place : ℕ) : Type 0
    where
      pub listed : IsIn place keys.order
      pub head : (l : KeyLink) (q : ℕ) → link_at keys place ≡ Some l
          → last_of (chain_of values place) ≡ Some q
          → first_of (chain_of values place) ≡ Some l.head
      pub tail : (l : KeyLink) (q : ℕ) → link_at keys place ≡ Some l
          → last_of (chain_of values place) ≡ Some q → q ≡ l.tail
      pub length : (l : KeyLink) (q : ℕ) → link_at keys place ≡ Some l
          → last_of (chain_of values place) ≡ Some q
          → length (chain_of values place) ≡ l.length

  -- the value has come last on the tape, behind those of the key at the place, whose link names
  -- the ends and the length of its chain there
  pub record PushesNext (keys keys_after : Slots K KeyLink)
      (values values_after : Slots V ValueLink) (place : ℕ) (value : V) : Type 0 where
    pub was : KeyLink
    pub link : KeyLink
    pub last : ℕ
    pub link_was : link_at keys place ≡ Some was
    pub keys_are : keys_after ≡ with_link keys place link
    pub hash : link.hash ≡ was.hash
    pub head : first_of (chain_of values place ++ last ∷ []) ≡ Some link.head
    pub tail : link.tail ≡ last
    pub length : link.length ≡ length (chain_of values place) + 1
    pub pushed : PushesValue values values_after last value place (last_of (chain_of values place))
    pub sound : IsSound values_after

  -- the values have come to another tape in the order of these places, and are chained with the
  -- keys there
  pub record AreResorted (keys keys_after : Slots K KeyLink) (values sorted : Slots V ValueLink)
      (places : List ℕ) : Type 0 where
    pub kept : KeepsHashes keys keys_after
    pub chains : AreChained keys_after sorted
    pub pairs : pairs_of keys_after sorted ≡ filter_map (pair_at keys values) places
    pub count : length sorted.order ≡ length places
