-- What the contracts cite of an entry's calls whose function may fail.
use Rattle.ordered_multimap.specs.declared.list_ordered_multimap.or_insert_fault as faults
use faults.OrInsertFault as fault
pub use fault.TheVariants.{Failed, Refused}
use Rattle.std.specs.Prelude.{◌≡◌, ◌≢◌, true, Result, Ok, Err, IsOk, IfErr}
use Rattle.std.specs.Borrow.{Fml, MutBor, RattleType, RestsIfErr}
use Rattle.std.specs.Borrow.{follows_so, name_if_ok}
use Rattle.std.specs.declared.alloc.AllocError.{AllocError}
use Rattle.std.specs.declared.alloc.Allocator as allocator
use Rattle.std.specs.declared.cmp.PartialEq as equality
use Rattle.std.specs.declared.hash.Hash as hash
use Rattle.std.specs.declared.hash.Hasher as hasher
use Rattle.std.specs.declared.hash.BuildHasher as builder
use Rattle.ordered_multimap.specs.contracts.list_ordered_multimap.ListOrderedMultimap.{the_row}
use Rattle.ordered_multimap.specs.declared.list_ordered_multimap.entry.Entry.{Entry}
use Rattle.ordered_multimap.specs.declared.list_ordered_multimap.entry.OccupiedEntry.{OccupiedEntry}
use Rattle.ordered_multimap.specs.declared.list_ordered_multimap.refused.Refused as pairs
use Rattle.ordered_multimap.specs.Entries.{IsEntered, IsEntryOf, RefusesEntry}
use Rattle.ordered_multimap.specs.Entries.{entry_map, entry_map_ref, is_occupied}
use Rattle.ordered_multimap.specs.Multimap.{Multimap}
use Rattle.ordered_multimap.specs.Rooms.{HasPairRoom}

-- the function's error, or one for memory that was refused
abbrev pub IsErrorOf : {K V E : Type 0} → (AllocError → E → Type 0) → fault.OrInsertFault K V E → E
    → Type 0
IsErrorOf gives (Failed key error) result = result ≡ error
IsErrorOf gives (Refused pair) result = (none : AllocError) × gives none result

module _ {K V S A H : Type 0} {e : equality.Ghosts K} {k : hash.Ghosts K} {b : builder.Ghosts S H}
    {h : hasher.Ghosts H} where
  -- the fault has the entry's key, and what the function returned: its error, or the value for
  -- which there was no memory
  abbrev pub IsFaultOf : {E : Type 0} → (Result V E → Type 0) → Entry K V S A H e k b h
      → fault.OrInsertFault K V E → Type 0
  IsFaultOf returned x (Failed key error) =
      ((j : K) → IsEntryOf x j → key ≡ j) × returned (Err error)
  IsFaultOf returned x (Refused pair) =
      ((j : K) → IsEntryOf x j → pair.key ≡ j) × returned (Ok pair.value)

  -- the function failed, and the map is as it was; or the pair was refused
  abbrev pub LeavesEntry : {E : Type 0} → Entry K V S A H e k b h → fault.OrInsertFault K V E
      → Multimap K V S → Type 0
  LeavesEntry x (Failed key error) new = new ≡ entry_map x
  LeavesEntry x (Refused pair) new = RefusesEntry x new

  -- nothing fails where the key is present, and no pair is refused where there is room for it
  pub record FailsOnlyVacant (x : Entry K V S A H e k b h) {X E : Type 0}
      (r : Result X (fault.OrInsertFault K V E)) : Type 0 where
    pub occupied : is_occupied x ≡ true → IsOk r
    pub room : (key : K) → IsEntryOf x key → HasPairRoom e.eq (entry_map x) key
        → (pair : pairs.Refused K V) → r ≢ Err (Refused pair)

module _ (K V S A H : RattleType) {e : equality.Ghosts K.Denot} {k : hash.Ghosts K.Denot}
    {b : builder.Ghosts S.Denot H.Denot} {h : hasher.Ghosts H.Denot}
    (alloc : allocator.Ghosts A.Denot) where
  -- the first value of the entry's key ends as r did; at `Err` the map is as the fault leaves it
  abbrev pub lends_tried : {E : Type 0} → Entry K.Denot V.Denot S.Denot A.Denot H.Denot e k b h
      → Result (MutBor V.Denot) (fault.OrInsertFault K.Denot V.Denot E) → Fml
  lends_tried x r =
      follows_so (the_row K V S A H e k b h alloc) V (entry_map_ref x).ghost_name
      (name_if_ok (λ v. v.ghost_name) r) (λ v n. IsOk r → IsEntered x v n)
      (λ n. IfErr r (λ f. LeavesEntry x f n))

  -- at `Err` the map is as the fault leaves it; else it ends as what the entry leaves
  abbrev pub rests_tried : {E : Type 0} → Entry K.Denot V.Denot S.Denot A.Denot H.Denot e k b h
      → Result (OccupiedEntry K.Denot V.Denot S.Denot A.Denot H.Denot e k b h)
      (fault.OrInsertFault K.Denot V.Denot E) → Fml
  rests_tried x r =
      RestsIfErr (the_row K V S A H e k b h alloc) (entry_map_ref x) (λ o. o.map.ghost_name) r
      (λ n. IfErr r (λ f. LeavesEntry x f n))
