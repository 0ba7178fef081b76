-- What a walk over keys with their values for writing ends as, where it lends the values of one.
use Rattle.std.specs.Prelude.{◌≡◌, List, [], Option, OnSome, IfNone}
use Rattle.std.specs.Borrow.{Fml, GName, Bor, MutBor, RattleType}
use Rattle.std.specs.Borrow.{follows, follows_so, name_if_some}
use Rattle.std.specs.declared.alloc.Allocator as allocator
use Rattle.std.specs.declared.cmp.PartialEq as equality
use Rattle.std.specs.declared.hash.Hash as hash
use Rattle.std.specs.declared.hash.Hasher as hasher
use Rattle.std.specs.declared.hash.BuildHasher as builder
use mir.Syntax.{named}
use Rattle.multimap_walks.specs.Walk.{end_rest}
use Rattle.multimap_walks.specs.WritingWalk.{entry_values_mut_name, entry_values_mut_values}
use Rattle.multimap_slots.specs.Ownership.{final}
use Rattle.multimap_walks.specs.declared.End.{End}
use Rattle.ordered_multimap.specs.ValueCells.{EntryWalk, ValueCells}
use Rattle.ordered_multimap.specs.KeysLeft.{keys_left}
use Rattle.ordered_multimap.specs.Multimap.{Multimap}
use Rattle.ordered_multimap.specs.ValuesLent.{with_items, with_values_of, EndsAs}
use Rattle.ordered_multimap.specs.contracts.list_ordered_multimap.key_values_mut.KeyValuesMut as row
use Rattle.ordered_multimap.specs.declared.list_ordered_multimap.key_values_mut as walks
use walks.KeyValuesMut.{KeyValuesMut}

module _ {K V S A H : Type 0} {e : equality.Ghosts K} {k : hash.Ghosts K} {b : builder.Ghosts S H}
    {h : hasher.Ghosts H} where
  -- the walk once its map has other values
  abbrev pub with_walk_values : KeyValuesMut K V S A H e k b h → Multimap K V S
      → KeyValuesMut K V S A H e k b h
  with_walk_values w m = record {
    map = record w.map { now = with_values_of w.map.now m };
    left = w.left;
    are_left = w.are_left;
  }

  -- the walk once the slots of its map's values have these items, and nothing else changed
  abbrev pub with_walk_items : KeyValuesMut K V S A H e k b h → List (Option V)
      → KeyValuesMut K V S A H e k b h
  with_walk_items w ws = record {
    map = record w.map { now = with_items w.map.now ws };
    left = w.left;
    are_left = w.are_left;
  }

  -- the new walk has the old one's map, but for its values, and all of its keys but that at the end
  pub record IsStepped (end : End) (old : KeyValuesMut K V S A H e k b h) (m : Multimap K V S)
      (new : KeyValuesMut K V S A H e k b h) : Type 0 where
    pub values : new.map.now ≡ with_values_of old.map.now m
    pub same_name : new.map.ghost_name ≡ old.map.ghost_name
    pub same_place : new.map.ref_ptr ≡ old.map.ref_ptr
    pub keys : keys_left new ≡ end_rest end (keys_left old)

module _ (K V S A H : RattleType) where
  -- the walk's type, as the logic holds it
  abbrev pub walk_row : equality.Ghosts K.Denot → hash.Ghosts K.Denot
      → builder.Ghosts S.Denot H.Denot → hasher.Ghosts H.Denot → allocator.Ghosts A.Denot
      → RattleType
  walk_row e k b h alloc =
      row.the_row (record { mir = named 1; lft = [] }) K V S A H e k b h alloc

module _ (K V S A H : RattleType) {e : equality.Ghosts K.Denot} {k : hash.Ghosts K.Denot}
    {b : builder.Ghosts S.Denot H.Denot} {h : hasher.Ghosts H.Denot}
    (alloc : allocator.Ghosts A.Denot) where
  -- once the loan with this name ends, the walk is as before but for the values of its map
  abbrev pub lends_values_to_walk
      : MutBor (KeyValuesMut K.Denot V.Denot S.Denot A.Denot H.Denot e k b h) → GName → Fml
  lends_values_to_walk w r =
      follows (walk_row K V S A H e k b h alloc) (walk_row K V S A H e k b h alloc) w.ghost_name r
      (λ n. with_walk_values w.now n.map.now)

  -- the values of the walk's map are lent; and once their slots have ended with some items, the
  -- walk's loan has ended with the walk that has them in its map
  abbrev pub EndsWalk : KeyValuesMut K.Denot V.Denot S.Denot A.Denot H.Denot e k b h
      → ValueCells V.Denot A.Denot → Type 0
  EndsWalk w c = EndsAs w.map.now c (final V c.cells.lender_context)
      (λ ws. (walk_row K V S A H e k b h alloc).coded.code (with_walk_items w ws))

  -- an iterator has stepped, and its map's values are lent; once their slots end with some items,
  -- the loan of the iterator after the step ends with the iterator that has them
  pub record EndsStepped (end : End)
      (old : KeyValuesMut K.Denot V.Denot S.Denot A.Denot H.Denot e k b h)
      (r : Bor K.Denot × EntryWalk K.Denot V.Denot A.Denot) : Type 0 where
    pub walk : KeyValuesMut K.Denot V.Denot S.Denot A.Denot H.Denot e k b h
    pub same_map : walk.map ≡ old.map
    pub keys : keys_left walk ≡ end_rest end (keys_left old)
    pub ends : EndsWalk walk (entry_values_mut_values r.1)

  -- once the iterator over the values ends, the key at the end is no longer left; at `None` the
  -- iterator stays
  abbrev pub lends_key_values : End
      → MutBor (KeyValuesMut K.Denot V.Denot S.Denot A.Denot H.Denot e k b h)
      → Option (Bor K.Denot × EntryWalk K.Denot V.Denot A.Denot) → Fml
  lends_key_values end w r =
      follows_so (walk_row K V S A H e k b h alloc) (walk_row K V S A H e k b h alloc) w.ghost_name
      (name_if_some (λ p. entry_values_mut_name p.1) r)
      (λ v n. OnSome r (IsStepped end w.now v.map.now n)) (λ n. IfNone r (n ≡ w.now))
