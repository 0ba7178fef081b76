-- What a sort of the keys leaves of the map.
use Rattle.std.specs.Prelude.{◌≡◌, Bool, List, IsPermutation}
use Rattle.std.specs.Borrow.{Bor}
use Rattle.std.specs.Fn.{AlwaysReturns, Mut}
use Rattle.std.specs.List.Sorted.{IsSortedByKey, IsStableByKey}
use Rattle.std.specs.declared.cmp.Ordering.{Ordering}
use Rattle.multimap_walks.specs.ChainWalk.{ChainWalk}
use Rattle.ordered_multimap.specs.Lists.{Lists}
use Rattle.ordered_multimap.specs.Multimap.{Multimap}
use Rattle.ordered_multimap.specs.Pairs.{values_of}
use Rattle.ordered_multimap.specs.Rooms.{SameNumbers}

-- the keys are the same in another order, and the pairs, the rooms and the tape's numbers are as
-- they were
pub record ReordersKeys {K V S : Type 0} (old new : Multimap K V S) : Type 0 where
  pub keys : IsPermutation old.lists.keys new.lists.keys
  pub pairs : new.lists.pairs ≡ old.lists.pairs
  pub numbers : SameNumbers old new

module _ {F K V T : Type 0} (g : Mut F (Bor K × (ChainWalk V × Unit {0})) T) where
  -- each call from f on, at a key and its values, answers what `key` gives of both
  abbrev pub ComputesOnKey : (K → List V → T) → F → Type 0
  ComputesOnKey key = AlwaysReturns g (λ a r. r ≡ key a.0.now a.1.0.left)

  module _ (cmp : T → T → Ordering) (eq : K → K → Bool) (f : F) where
    -- the keys ascend by what f gives of each with its values, where it gives a function's values
    abbrev pub IsSortedByCachedKey : Lists K V → Type 0
    IsSortedByCachedKey m = (key : K → List V → T) → ComputesOnKey key f
        → IsSortedByKey (λ k. key k (values_of eq m.pairs k)) cmp m.keys

    -- keys of which f gives equal values stand in the new list as they stood in the old one
    abbrev pub IsStableByCachedKey : Lists K V → Lists K V → Type 0
    IsStableByCachedKey old new = (key : K → List V → T) → ComputesOnKey key f
        → IsStableByKey (λ k. key k (values_of eq old.pairs k)) cmp old.keys new.keys
