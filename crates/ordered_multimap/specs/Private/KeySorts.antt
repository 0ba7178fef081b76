-- The places of the keys, sorted by the keys that stand there. No public clause cites this module.
use Rattle.std.specs.Prelude.{◌==◌, ℕ, Bool, List, Option, unwrap_or, if◌then◌else◌, IsPermutation}
use Rattle.std.specs.Borrow.{Bor}
use Rattle.std.specs.Fn.{Mut}
use Rattle.std.specs.List.{list_any}
use Rattle.std.specs.List.Sorted.{IsSortedByClosure, IsStableByClosure}
use Rattle.std.specs.declared.cmp.Ordering.{Ordering}
use Rattle.multimap_slots.specs.Slots.{Slots, item_at, in_order}
use Rattle.multimap_walks.specs.declared.links.KeyLink.{KeyLink}
use Rattle.multimap_walks.specs.ChainWalk.{ChainWalk}
use Rattle.ordered_multimap.specs.Agrees.{items_of}
use Rattle.ordered_multimap.specs.KeySorts.{IsSortedByCachedKey, IsStableByCachedKey}
use Rattle.ordered_multimap.specs.Lists.{lists}
use Rattle.ordered_multimap.specs.Multimap.{Multimap}

-- whether the place is one of these
abbrev pub is_among : List ℕ → ℕ → Bool
is_among places p = list_any (λ q. p == q) places

-- what stands at the place, if it is one of these, and else another item
abbrev pub item_or : {X : Type 0} → (ℕ → Option X) → List ℕ → X → ℕ → X
item_or at places other p = if is_among places p then unwrap_or (at p) other else other

module _ {K : Type 0} where
  -- the key that is listed at the place, and another where none is
  abbrev pub key_or : Slots K KeyLink → K → ℕ → K
  key_or keys = item_or (item_at keys) keys.order

  -- these are the places of the keys, in the order that the function answers by
  pub record ArePlacesBy {F : Type 0} (g : Mut F (Bor K × (Bor K × Unit {0})) Ordering) (cmp : F)
      (keys : Slots K KeyLink) (places : List ℕ) : Type 0 where
    pub permutation : IsPermutation keys.order places
    pub sorted : IsSortedByClosure g cmp (items_of (in_order keys places))
    pub stable : IsStableByClosure g cmp (items_of keys) (items_of (in_order keys places))

-- these are the places of the keys, in the order of what the function gives of each key with its
-- values
pub record ArePlacesByKey {F K V S T : Type 0} (g : Mut F (Bor K × (ChainWalk V × Unit {0})) T)
    (cmp : T → T → Ordering) (eq : K → K → Bool) (f : F) (m : Multimap K V S) (places : List ℕ)
    : Type 0 where
  pub permutation : IsPermutation m.slots.keys.order places
  pub sorted : IsSortedByCachedKey g cmp eq f
      (lists (items_of (in_order m.slots.keys places)) m.lists.pairs)
  pub stable : IsStableByCachedKey g cmp eq f m.lists
      (lists (items_of (in_order m.slots.keys places)) m.lists.pairs)
