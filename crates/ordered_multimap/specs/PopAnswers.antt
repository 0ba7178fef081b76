-- What a pop hands out, and what it leaves.
use Rattle.std.specs.Prelude.{◌≡◌, Bool, true, false, cond, Option, Some, None, ⊤}
use Rattle.std.specs.Borrow.{Fml, RattleType, MutBor, follows_so}
use Rattle.std.specs.HashMap.Lent.{HashMembers}
use Rattle.std.specs.declared.alloc.Allocator as alloc
use Rattle.std.specs.declared.hash.Hasher as hasher
use Rattle.std.specs.declared.hash.BuildHasher as builder
use mathlib.Core.Option.{none}
use Rattle.multimap_slots.specs.Slots.{Slots, HasItem}
use Rattle.multimap_walks.specs.declared.End.{End}
use Rattle.multimap_walks.specs.declared.links.KeyLink.{KeyLink}
use Rattle.ordered_multimap.specs.Multimap.{Multimap}
use Rattle.ordered_multimap.specs.Pairs.{has_items}
use Rattle.ordered_multimap.specs.Popped.{Popped, popped}
use Rattle.ordered_multimap.specs.Rooms.{SameRooms}
use Rattle.ordered_multimap.specs.TapeNumbers.{TakesOut}
use Rattle.ordered_multimap.specs.declared.list_ordered_multimap.key_wrapper.KeyWrapper.{KeyWrapper}
use Rattle.ordered_multimap.specs.declared.list_ordered_multimap.key_wrapper as wrappers
use wrappers.KeyWrapper.TheVariants.{Borrowed, Owned}
use Rattle.ordered_multimap.specs.declared.list_ordered_multimap.remove.one.Taken.{Taken}
use Rattle.ordered_multimap.specs.declared.list_ordered_multimap.remove.one.TakenKey.{TakenKey}
use Rattle.ordered_multimap.specs.declared.list_ordered_multimap.remove.one as steps
use steps.TakenKey.TheVariants.{Kept, Gone}
use Rattle.ordered_multimap.specs.contracts.list_ordered_multimap.ListOrderedMultimap.{the_row}

-- the pair at an end has gone, if there was one, and no room has changed
pub record IsPopped {K V S : Type 0} (eq : K → K → Bool) (end : End)
    (old new : Multimap K V S) : Type 0 where
  pub lists : new.lists ≡ popped eq end old.lists
  pub rooms : SameRooms old new
  pub taken : TakesOut (cond (has_items old.lists.pairs) 1 0) old.tape new.tape

module _ {K V : Type 0} where
  -- what a pop returns, read off its result
  abbrev pub popped_of : KeyWrapper K × V → Popped K V
  popped_of (Borrowed k, v) = record { owned = false; key = k.now; value = v }
  popped_of (Owned k, v) = record { owned = true; key = k; value = v }

  -- the key of a pair that was taken out is at the place, or handed out
  abbrev pub IsTakenKey : Slots K KeyLink → Popped K V → TakenKey K → Type 0
  IsTakenKey keys p (Kept place) = (p.owned ≡ false) × HasItem keys place p.key
  IsTakenKey keys p (Gone k) = (p.owned ≡ true) × (k ≡ p.key)

  -- what a step took out is this pair, or there is none
  abbrev pub IsTaken : Slots K KeyLink → Option (Popped K V) → Option (Taken K V) → Type 0
  IsTaken keys None None = ⊤
  IsTaken keys None (Some t) = ⊥
  IsTaken keys (Some p) None = ⊥
  IsTaken keys (Some p) (Some t) = (t.value ≡ p.value) × IsTakenKey keys p t.key

module _ (K V S A H : RattleType) (key : HashMembers K.Denot)
    (build : builder.Ghosts S.Denot H.Denot) (hash : hasher.Ghosts H.Denot)
    (heap : alloc.Ghosts A.Denot) where
  -- the map's type, as the logic has it
  abbrev pub map_row : RattleType
  map_row = the_row K V S A H (record { eq = key.eq }) (record { hash_input = key.hash_input })
      build hash heap

  -- the map is as it was
  abbrev pub ends_same : MutBor (Multimap K.Denot V.Denot S.Denot) → Fml
  ends_same m = follows_so map_row map_row m.ghost_name none (λ _ _. ⊤) (λ n. n ≡ m.now)

  -- a pair was popped at an end of the map
  abbrev pub ends_popped : End → MutBor (Multimap K.Denot V.Denot S.Denot) → Fml
  ends_popped end m =
      follows_so map_row map_row m.ghost_name none (λ _ _. ⊤) (λ n. IsPopped key.eq end m.now n)
