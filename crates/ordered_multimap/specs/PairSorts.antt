-- What a sort of the pairs leaves of the map.
use Rattle.std.specs.Prelude.{◌≡◌, ◌≤◌, Bool, List, IsPermutation}
use Rattle.std.specs.Borrow.{Bor}
use Rattle.std.specs.Cmp.{IsStrictWeakOrder}
use Rattle.std.specs.Fn.{AlwaysReturns, Mut}
use Rattle.std.specs.List.Sorted.{IsSortedBy, IsStableBy}
use Rattle.std.specs.Ordering.{is_lt}
use Rattle.std.specs.declared.cmp.Ordering.{Ordering}
use Rattle.ordered_multimap.specs.Multimap.{Multimap}
use Rattle.ordered_multimap.specs.Rooms.{KeepsRooms}

-- the pairs are the same in another order, and the keys stand as they stood; no room is lower, and
-- there are no fewer slots
pub record ReordersPairs {K V S : Type 0} (old new : Multimap K V S) : Type 0 where
  pub keys : new.lists.keys ≡ old.lists.keys
  pub pairs : IsPermutation old.lists.pairs new.lists.pairs
  pub rooms : KeepsRooms old new
  pub key_room : new.key_room ≡ old.key_room
  pub slots : old.tape.slots ≤ new.tape.slots

module _ {F K V : Type 0} (g : Mut F (Bor K × (Bor V × (Bor K × (Bor V × Unit {0})))) Ordering)
  where
    -- each call from f on, at two pairs, answers `Less` exactly where lt holds of them
    abbrev pub ComparesPairsAs : (K × V → K × V → Bool) → F → Type 0
    ComparesPairsAs lt = AlwaysReturns g
        (λ a r. is_lt r ≡ lt (a.0.now, a.1.0.now) (a.1.1.0.now, a.1.1.1.0.now))

    module _ (f : F) where
      -- the pairs ascend by the order that f answers by, where it answers by one
      abbrev pub IsSortedByPairClosure : List (K × V) → Type 0
      IsSortedByPairClosure pairs = (lt : K × V → K × V → Bool) → IsStrictWeakOrder lt
          → ComparesPairsAs lt f → IsSortedBy lt pairs

      -- pairs that tie by that order stand in the new list as they stood in the old one
      abbrev pub IsStableByPairClosure : List (K × V) → List (K × V) → Type 0
      IsStableByPairClosure old new = (lt : K × V → K × V → Bool) → IsStrictWeakOrder lt
          → ComparesPairsAs lt f → IsStableBy lt old new
