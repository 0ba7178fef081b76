-- What a map ends as, once a walk for writing over its values has ended: all its values, exactly.
use Rattle.std.specs.Prelude.{◌≡◌, List, Option, Some}
use Rattle.std.specs.Borrow.{Bor, Fml, GName, MutBor, RattleType, follows}
use base.Fml.{fall, fex, fres, fsep, fwand}
use Rattle.std.specs.HashMap.Lent.{HashMembers}
use Rattle.std.specs.declared.alloc.Allocator as alloc
use Rattle.std.specs.declared.cmp.PartialEq as equality
use Rattle.std.specs.declared.hash.Hash as hashed
use Rattle.std.specs.declared.hash.Hasher as hasher
use Rattle.std.specs.declared.hash.BuildHasher as builder
use Rattle.multimap_slots.specs.CellsLends.{with_refilled}
use Rattle.multimap_slots.specs.Ended.{become, ends_with}
use Rattle.multimap_slots.specs.declared.cells.Cells.{Cells}
use Rattle.multimap_walks.specs.Walk.{end_rest}
use Rattle.multimap_walks.specs.WritingWalk.{entry_values_mut_name, entry_values_mut_values}
use Rattle.multimap_walks.specs.declared.End.{End}
use Rattle.ordered_multimap.specs.ValueCells.{EntryWalk, ValueCells}
use Rattle.ordered_multimap.specs.EntryLends.{EndsEntry, entry_row, lends_values_to_entry}
use Rattle.ordered_multimap.specs.KeysLeft.{keys_left}
use Rattle.ordered_multimap.specs.Lists.{lists}
use Rattle.ordered_multimap.specs.Multimap.{Multimap, multimap_code}
use Rattle.ordered_multimap.specs.PopAnswers.{map_row}
use Rattle.ordered_multimap.specs.ValuesLent.{EndsMap, pairs_ended, with_values_of}
use Rattle.ordered_multimap.specs.WalkLends.{EndsStepped, lends_key_values, walk_row}
use Rattle.ordered_multimap.specs.declared.list_ordered_multimap.entry.OccupiedEntry.{OccupiedEntry}
use Rattle.ordered_multimap.specs.declared.list_ordered_multimap.key_values_mut as walks
use walks.KeyValuesMut.{KeyValuesMut}

-- the map whose slots of values ended with these items: its pairs are its own, each with the item
-- of its place, under the same keys and in the same order
abbrev pub ended_map : {K V S : Type 0} → Multimap K V S → List (Option V) → Multimap K V S
ended_map m ws = record m {
  lists = lists m.lists.keys (pairs_ended m.lists.pairs m.slots.values.order ws);
  slots = record m.slots { values = with_refilled m.slots.values ws };
}

-- once the references to the values that were lent have ended, this is said of the items that they
-- ended with, and of those that stood there elsewhere
abbrev pub ends_by_items : (V : RattleType) → Cells V.Denot → (List (Option V.Denot) → Fml) → Fml
ends_by_items V c says =
    fall (List (Option V.Denot)) (λ ws. fwand (become V c.names c.items c.left ws) (says ws))

-- the map whose loan has the name γ ends with the values with which the references to those that
-- were lent ended, and with those that stood there elsewhere
abbrev pub ends_exactly : (K V S : RattleType) → Multimap K.Denot V.Denot S.Denot → GName
    → Cells V.Denot → Fml
ends_exactly K V S m γ c = ends_by_items V c
    (λ ws. fres γ ((multimap_code K.coded V.coded S.coded).code (ended_map m ws)))

module _ (K V S A H : RattleType) (key : HashMembers K.Denot)
    (build : builder.Ghosts S.Denot H.Denot) (hash : hasher.Ghosts H.Denot)
    (heap : alloc.Ghosts A.Denot) where
  -- where a map follows the loan of an iterator that has its values: once the iterator and all its
  -- references have ended, the map has ended exactly
  abbrev pub WalksAreExact : Fml
  WalksAreExact =
      fall (Multimap K.Denot V.Denot S.Denot) (λ m. fall GName (λ γ.
      fall (ValueCells V.Denot A.Denot) (λ made. fall (Cells V.Denot) (λ c.
      fall (EndsMap K V S m made) (λ _. fall (c.lender_context ≡ made.cells.lender_context) (λ _.
      fwand (follows (map_row K V S A H key build hash heap)
      (map_row K V S A H key build hash heap) γ c.lender_loan (with_values_of m))
      (fwand (ends_with V c) (ends_exactly K V S m γ c))))))))

module _ {K V S A H : Type 0} {e : equality.Ghosts K} {k : hashed.Ghosts K} {b : builder.Ghosts S H}
    {h : hasher.Ghosts H} where
  -- the entry over the map whose slots of values ended with these items
  abbrev pub ended_entry : OccupiedEntry K V S A H e k b h → List (Option V)
      → OccupiedEntry K V S A H e k b h
  ended_entry o ws = record {
    map = record o.map { now = ended_map o.map.now ws };
    place = o.place;
    first = o.first;
    listed = o.listed;
    begins = o.begins;
  }

  -- the walk over keys has given the key at the end, and its map is the one whose slots of values
  -- ended with these items
  pub record IsEndedWalk (end : End) (old : KeyValuesMut K V S A H e k b h) (ws : List (Option V))
      (new : KeyValuesMut K V S A H e k b h) : Type 0 where
    pub map : new.map.now ≡ ended_map old.map.now ws
    pub same_name : new.map.ghost_name ≡ old.map.ghost_name
    pub same_place : new.map.ref_ptr ≡ old.map.ref_ptr
    pub keys : keys_left new ≡ end_rest end (keys_left old)

module _ (K V S A H : RattleType) {e : equality.Ghosts K.Denot} {k : hashed.Ghosts K.Denot}
    {b : builder.Ghosts S.Denot H.Denot} {h : hasher.Ghosts H.Denot}
    (heap : alloc.Ghosts A.Denot) where
  -- the entry ends with the map that has the values with which the references to those that were
  -- lent ended, and those that stood there elsewhere
  abbrev pub entry_ends_exactly
      : MutBor (OccupiedEntry K.Denot V.Denot S.Denot A.Denot H.Denot e k b h) → Cells V.Denot
      → Fml
  entry_ends_exactly o c = ends_by_items V c (λ ws.
      fres o.ghost_name ((entry_row K V S A H e k b h heap).coded.code (ended_entry o.now ws)))

  -- the walk over keys ends with such a map, and has all keys left but the one that it gave
  abbrev pub walk_ends_exactly : End
      → MutBor (KeyValuesMut K.Denot V.Denot S.Denot A.Denot H.Denot e k b h) → Cells V.Denot
      → Fml
  walk_ends_exactly end w c = ends_by_items V c (λ ws.
      fex ((n : KeyValuesMut K.Denot V.Denot S.Denot A.Denot H.Denot e k b h)
      × IsEndedWalk end w.now ws n)
      (λ n. fres w.ghost_name ((walk_row K V S A H e k b h heap).coded.code n.0)))

module _ (K V S A H : RattleType) (e : equality.Ghosts K.Denot) (k : hashed.Ghosts K.Denot)
    (b : builder.Ghosts S.Denot H.Denot) (h : hasher.Ghosts H.Denot)
    (heap : alloc.Ghosts A.Denot) where
  -- where an entry follows the loan of a walk that has its values: once the walk and all its
  -- references have ended, the entry has ended exactly
  abbrev pub EntryWalksAreExact : Fml
  EntryWalksAreExact =
      fall (MutBor (OccupiedEntry K.Denot V.Denot S.Denot A.Denot H.Denot e k b h)) (λ o.
      fall (ValueCells V.Denot A.Denot) (λ made. fall (Cells V.Denot) (λ c.
      fall (EndsEntry K V S A H heap o.now made) (λ _.
      fall (c.lender_context ≡ made.cells.lender_context) (λ _.
      fwand (lends_values_to_entry K V S A H heap o c.lender_loan)
      (fwand (ends_with V c) (entry_ends_exactly K V S A H heap o c)))))))

  -- where a walk over keys follows the loan of the walk over a key's values that it gave: once that
  -- walk and all its references have ended, the walk over keys has ended exactly
  abbrev pub KeyWalksAreExact : Fml
  KeyWalksAreExact =
      fall End (λ end.
      fall (MutBor (KeyValuesMut K.Denot V.Denot S.Denot A.Denot H.Denot e k b h)) (λ w.
      fall (Bor K.Denot × EntryWalk K.Denot V.Denot A.Denot) (λ r. fall (Cells V.Denot) (λ c.
      fall (EndsStepped K V S A H heap end w.now r) (λ _.
      fall (c.lender_context ≡ (entry_values_mut_values r.1).cells.lender_context) (λ _.
      fall (c.lender_loan ≡ entry_values_mut_name r.1) (λ _.
      fwand (lends_key_values K V S A H heap end w (Some r))
      (fwand (ends_with V c) (walk_ends_exactly K V S A H heap end w c)))))))))

  -- both of these hold
  abbrev pub InnerWalksAreExact : Fml
  InnerWalksAreExact = fsep EntryWalksAreExact KeyWalksAreExact
