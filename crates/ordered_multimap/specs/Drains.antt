-- What is left of a drain, and what its steps give.
use Rattle.std.specs.Prelude.{◌≡◌, Bool, List, Option, length}
use Rattle.std.specs.Map.Iter.{TakesFirst, TakesLast}
use Rattle.std.specs.declared.cmp.PartialEq as equality
use Rattle.std.specs.declared.hash.Hash as hash
use Rattle.std.specs.declared.hash.Hasher as hasher
use Rattle.std.specs.declared.hash.BuildHasher as builder
use Rattle.ordered_multimap.specs.declared.list_ordered_multimap.drain.EntryValuesDrain as drains
use Rattle.ordered_multimap.specs.Changes.{inserted, removed_where}
use Rattle.ordered_multimap.specs.Detaches.{KeepsListed, left_of}
use Rattle.ordered_multimap.specs.Multimap.{Multimap}
use Rattle.ordered_multimap.specs.Pairs.{values_of, values_where}
use Rattle.ordered_multimap.specs.Rooms.{KeepsRooms, RaisesNoRoom, SameRooms}
use Rattle.ordered_multimap.specs.TapeNumbers.{TakesOut}

module _ {K V S A H : Type 0} {e : equality.Ghosts K} {k : hash.Ghosts K} {b : builder.Ghosts S H}
    {h : hasher.Ghosts H} where
  -- the values that it has not given yet, in order
  abbrev pub drain_left : drains.EntryValuesDrain K V S A H e k b h → List V
  drain_left d = left_of d.map.now

  -- both borrow the same map, of which only what is left of the drain may differ
  pub record KeepsMap (old new : drains.EntryValuesDrain K V S A H e k b h) : Type 0 where
    pub same_map : new.map.ghost_name ≡ old.map.ghost_name
    pub kept : KeepsListed old.map.now new.map.now

  -- the first value left is given, or none
  abbrev pub DrainsFirst : drains.EntryValuesDrain K V S A H e k b h → Option V
      → drains.EntryValuesDrain K V S A H e k b h → Type 0
  DrainsFirst old given new =
      KeepsMap old new × TakesFirst (λ v. v) (drain_left old) given (drain_left new)

  -- the last value left is given, or none
  abbrev pub DrainsLast : drains.EntryValuesDrain K V S A H e k b h → Option V
      → drains.EntryValuesDrain K V S A H e k b h → Type 0
  DrainsLast old given new =
      KeepsMap old new × TakesLast (λ v. v) (drain_left old) given (drain_left new)

  -- the drain has all values of the keys that a test accepts, and the map is without them
  pub record DrainsWhere (accepts : K → Bool) (eq : K → K → Bool) (old : Multimap K V S)
      (drain : drains.EntryValuesDrain K V S A H e k b h) : Type 0 where
    pub left : drain_left drain ≡ values_where accepts old.lists.pairs
    pub lists : drain.map.now.lists ≡ removed_where eq accepts old.lists
    pub rooms : SameRooms old drain.map.now
    pub taken : TakesOut (length (values_where accepts old.lists.pairs)) old.tape
        drain.map.now.tape

  -- the drain has all values of the key, and the map is without them
  abbrev pub DrainsEntry : (eq : K → K → Bool) → Multimap K V S → K
      → drains.EntryValuesDrain K V S A H e k b h → Type 0
  DrainsEntry eq old key drain = DrainsWhere (eq key) eq old drain

  -- the drain has all old values of the key, and the map has the pair in their place
  pub record DrainsInserted (eq : K → K → Bool) (old : Multimap K V S) (key : K) (value : V)
      (drain : drains.EntryValuesDrain K V S A H e k b h) : Type 0 where
    pub left : drain_left drain ≡ values_of eq old.lists.pairs key
    pub lists : drain.map.now.lists ≡ inserted eq old.lists key value
    pub rooms : KeepsRooms old drain.map.now
    pub had_room : RaisesNoRoom eq key old drain.map.now
    pub taken : TakesOut (length (values_of eq old.lists.pairs key)) old.tape drain.map.now.tape
