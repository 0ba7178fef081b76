-- What a map is where a call that lends it to a drain hands none out.
use Rattle.std.specs.Prelude.{◌≡◌, Bool, Option, Result}
use Rattle.std.specs.Borrow.{Fml, MutBor, RattleType, RestsIfErr, RestsIfNone}
use Rattle.std.specs.declared.alloc.Allocator as allocator
use Rattle.std.specs.declared.cmp.PartialEq as equality
use Rattle.std.specs.declared.hash.Hash as hash
use Rattle.std.specs.declared.hash.Hasher as hasher
use Rattle.std.specs.declared.hash.BuildHasher as builder
use Rattle.ordered_multimap.specs.contracts.list_ordered_multimap.ListOrderedMultimap.{the_row}
use Rattle.ordered_multimap.specs.declared.list_ordered_multimap.drain.EntryValuesDrain as drains
use Rattle.ordered_multimap.specs.Detaches.{KeepsListed}
use Rattle.ordered_multimap.specs.Multimap.{Multimap}
use Rattle.ordered_multimap.specs.Rooms.{HasPairRoom, KeepsRooms, RaisesNoRoom}
use Rattle.ordered_multimap.specs.TapeNumbers.{TakesOut}

-- there was no memory for room that the map still lacks; the lists are as they were, and no value
-- was taken out
pub record RefusesPair {K V S : Type 0} (eq : K → K → Bool) (key : K)
    (old new : Multimap K V S) : Type 0 where
  pub lists : new.lists ≡ old.lists
  pub rooms : KeepsRooms old new
  pub had_room : RaisesNoRoom eq key old new
  pub taken : TakesOut 0 old.tape new.tape
  pub full : ¬ HasPairRoom eq new key

module _ (K V S A H : RattleType) (e : equality.Ghosts K.Denot) (k : hash.Ghosts K.Denot)
    (b : builder.Ghosts S.Denot H.Denot) (h : hasher.Ghosts H.Denot)
    (alloc : allocator.Ghosts A.Denot)
    (m : MutBor (Multimap K.Denot V.Denot S.Denot)) where
  -- at `Err` the pair was refused; else the map ends as what the drain leaves
  abbrev pub ends_inserted : {E : Type 0} → K.Denot
      → Result (drains.EntryValuesDrain K.Denot V.Denot S.Denot A.Denot H.Denot e k b h) E → Fml
  ends_inserted key r =
      RestsIfErr (the_row K V S A H e k b h alloc) m (λ d. d.map.ghost_name) r
      (RefusesPair e.eq key m.now)

  -- at `None` lists, rooms and numbers stay; else the map ends as what the drain leaves
  abbrev pub ends_removed :
      Option (K.Denot × drains.EntryValuesDrain K.Denot V.Denot S.Denot A.Denot H.Denot e k b h)
      → Fml
  ends_removed r =
      RestsIfNone (the_row K V S A H e k b h alloc) m (λ p. p.1.map.ghost_name) r
      (KeepsListed m.now)

  -- at `None` the map ends as it is; else it ends as what the drain leaves
  abbrev pub ends_key_popped :
      Option (K.Denot × drains.EntryValuesDrain K.Denot V.Denot S.Denot A.Denot H.Denot e k b h)
      → Fml
  ends_key_popped r =
      RestsIfNone (the_row K V S A H e k b h alloc) m (λ p. p.1.map.ghost_name) r
      (λ n. n ≡ m.now)
