-- A drain of detached values.
use Rattle.std.proofs.Common.{◌≡◌, Bool, ap, length, sym, ◌∙◌, subst}
use Rattle.std.specs.declared.cmp.PartialEq as equality
use Rattle.std.specs.declared.hash.Hash as hash
use Rattle.std.specs.declared.hash.Hasher as hasher
use Rattle.std.specs.declared.hash.BuildHasher as builder
use Rattle.ordered_multimap.specs.declared.list_ordered_multimap.drain.EntryValuesDrain as drains
use Rattle.ordered_multimap.specs.Changes.{removed_where}
use Rattle.ordered_multimap.specs.Detaches.{left_of}
use Rattle.ordered_multimap.specs.Drains.{DrainsWhere}
use Rattle.ordered_multimap.specs.Private.KeySteps.{DetachesWhere}
use Rattle.ordered_multimap.specs.Multimap.{Multimap}
use Rattle.ordered_multimap.specs.Pairs.{values_where}
use Rattle.ordered_multimap.specs.Rooms.{SameRooms}
use Rattle.ordered_multimap.specs.TapeNumbers.{TakesOut}

-- over a map whose values of the accepted keys were detached, and the keys removed
pub drains_entry : {K V S A H : Type 0} {e : equality.Ghosts K} {k : hash.Ghosts K} {b : builder.Ghosts S H} {h : hasher.Ghosts H}
    {eq : K → K → Bool} {old m : Multimap K V S} {accepts : K → Bool} (d : drains.EntryValuesDrain K V S A H e k b h)
    → DetachesWhere accepts old m (removed_where eq accepts old.lists) → SameRooms old m → d.map.now ≡ m
    → DrainsWhere accepts eq old d
drains_entry {old = old} {accepts = accepts} d detached rooms same = record {
  left = ap left_of same ∙ detached.left;
  lists = ap (λ m. m.lists) same ∙ detached.loses.lists;
  rooms = subst (SameRooms old) (sym same) rooms;
  taken = subst (λ m. TakesOut (length (values_where accepts old.lists.pairs)) old.tape m.tape) (sym same) detached.loses.taken;
}
