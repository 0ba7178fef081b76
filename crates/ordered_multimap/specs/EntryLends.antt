-- What a map ends as, where an entry lends a value of it or hands it on.
use Rattle.std.specs.Prelude.{[], Result, IsOk, OnErr}
use Rattle.std.specs.Borrow.{Fml, GName, MutBor, RattleType, RestsIfErr}
use Rattle.std.specs.Borrow.{follows, follows_so, name_if_ok}
use Rattle.std.specs.declared.alloc.Allocator as allocator
use Rattle.std.specs.declared.cmp.PartialEq as equality
use Rattle.std.specs.declared.hash.Hash as hash
use Rattle.std.specs.declared.hash.Hasher as hasher
use Rattle.std.specs.declared.hash.BuildHasher as builder
use mir.Syntax.{named}
use Rattle.ordered_multimap.specs.ValueCells.{ValueCells}
use Rattle.ordered_multimap.specs.contracts.list_ordered_multimap.ListOrderedMultimap.{the_row}
use Rattle.ordered_multimap.specs.contracts.list_ordered_multimap.entry.OccupiedEntry as occupied
use Rattle.ordered_multimap.specs.declared.list_ordered_multimap.entry.Entry.{Entry}
use Rattle.ordered_multimap.specs.declared.list_ordered_multimap.entry.OccupiedEntry.{OccupiedEntry}
use Rattle.ordered_multimap.specs.declared.list_ordered_multimap.drain as drains
use drains.EntryValuesDrain.{EntryValuesDrain}
use Rattle.ordered_multimap.specs.Entries.{IsEntered, Occupied, RefusesEntry, entry_map_ref}
use Rattle.ordered_multimap.specs.Entries.{with_entry_items, with_first_written, with_map_values}
use Rattle.multimap_slots.specs.Ownership.{final}
use Rattle.ordered_multimap.specs.ValuesLent.{EndsAs}
use Rattle.ordered_multimap.specs.Writes.{with_first}

module _ (K V S A H : RattleType) where
  -- the entry's type, as the logic holds it
  abbrev pub entry_row : equality.Ghosts K.Denot → hash.Ghosts K.Denot
      → builder.Ghosts S.Denot H.Denot → hasher.Ghosts H.Denot → allocator.Ghosts A.Denot
      → RattleType
  entry_row e k b h alloc =
      occupied.the_row (record { mir = named 1; lft = [] }) K V S A H e k b h alloc

module _ (K V S A H : RattleType) {e : equality.Ghosts K.Denot} {k : hash.Ghosts K.Denot}
    {b : builder.Ghosts S.Denot H.Denot} {h : hasher.Ghosts H.Denot}
    (alloc : allocator.Ghosts A.Denot) where
  -- the first value of the entry's key ends as r did; at `Err` the pair was refused
  abbrev pub lends_entered : {E : Type 0} → Entry K.Denot V.Denot S.Denot A.Denot H.Denot e k b h
      → Result (MutBor V.Denot) E → Fml
  lends_entered x r =
      follows_so (the_row K V S A H e k b h alloc) V (entry_map_ref x).ghost_name
      (name_if_ok (λ v. v.ghost_name) r) (λ v n. IsOk r → IsEntered x v n)
      (λ n. OnErr r (RefusesEntry x n))

  -- the first value of the occupied entry's key ends as r did
  abbrev pub lends_first : OccupiedEntry K.Denot V.Denot S.Denot A.Denot H.Denot e k b h
      → MutBor V.Denot → Fml
  lends_first o r =
      follows (the_row K V S A H e k b h alloc) V o.map.ghost_name r.ghost_name
      (with_first o.map.now o.place)

  -- the first value of the entry's key ends as r did, and the entry has it
  abbrev pub lends_to_entry : MutBor (OccupiedEntry K.Denot V.Denot S.Denot A.Denot H.Denot e k b h)
      → MutBor V.Denot → Fml
  lends_to_entry o r =
      follows (entry_row K V S A H e k b h alloc) V o.ghost_name r.ghost_name
      (with_first_written o.now)

  -- once the loan with this name ends, the entry's map is as before but for its values
  abbrev pub lends_values_to_entry
      : MutBor (OccupiedEntry K.Denot V.Denot S.Denot A.Denot H.Denot e k b h) → GName → Fml
  lends_values_to_entry o r =
      follows (entry_row K V S A H e k b h alloc) (entry_row K V S A H e k b h alloc)
      o.ghost_name r (λ n. with_map_values o.now n.map.now)

  -- the values of the entry's map are lent; once their slots end with some items, the entry's loan
  -- ends with the entry whose map has them
  abbrev pub EndsEntry : OccupiedEntry K.Denot V.Denot S.Denot A.Denot H.Denot e k b h
      → ValueCells V.Denot A.Denot → Type 0
  EndsEntry o c = EndsAs o.map.now c (final V c.cells.lender_context) (λ ws.
      (entry_row K V S A H e k b h alloc).coded.code (with_entry_items o ws))

  -- at `Err` the pair was refused; else the map ends as what the entry leaves
  abbrev pub rests_with_entry : {E : Type 0} → Entry K.Denot V.Denot S.Denot A.Denot H.Denot e k b h
      → Result (OccupiedEntry K.Denot V.Denot S.Denot A.Denot H.Denot e k b h) E → Fml
  rests_with_entry x r =
      RestsIfErr (the_row K V S A H e k b h alloc) (entry_map_ref x) (λ o. o.map.ghost_name) r
      (RefusesEntry x)

  -- at `Err` the value was refused; else the map ends as what the drain of the entry's values
  -- leaves
  abbrev pub rests_with_drain : {E : Type 0}
      → OccupiedEntry K.Denot V.Denot S.Denot A.Denot H.Denot e k b h
      → Result (EntryValuesDrain K.Denot V.Denot S.Denot A.Denot H.Denot e k b h) E → Fml
  rests_with_drain o r =
      RestsIfErr (the_row K V S A H e k b h alloc) o.map (λ d. d.map.ghost_name) r
      (RefusesEntry (Occupied o))
