-- What a caller that has given up its loan of a map says of the map.
use base.Fml.{Fml, GName, fall, fex, feq, fres, fsep, fwand}
use Rattle.std.specs.Prelude.{◌≡◌, Some}
use Rattle.std.specs.Borrow.{RattleType, MutBor}
use Rattle.std.specs.declared.alloc.Allocator as alloc
use Rattle.std.specs.declared.cmp.PartialEq as equality
use Rattle.std.specs.declared.hash.Hash as hashed
use Rattle.std.specs.declared.hash.Hasher as hasher
use Rattle.std.specs.declared.hash.BuildHasher as builder
use Rattle.multimap_walks.specs.Walk.{end_item, end_rest}
use Rattle.ordered_multimap.specs.Changes.{end_written, first_written}
use Rattle.ordered_multimap.specs.End.TheVariants.{Front}
use Rattle.ordered_multimap.specs.KeysLeft.{keys_left}
use Rattle.ordered_multimap.specs.Lists.{Lists}
use Rattle.ordered_multimap.specs.Multimap.{Multimap, multimap_code}
use Rattle.ordered_multimap.specs.WalkLends.{walk_row}
use Rattle.ordered_multimap.specs.Writes.{IsWritten}
use Rattle.ordered_multimap.specs.declared.list_ordered_multimap.key_values_mut as walks
use walks.KeyValuesMut.{KeyValuesMut}

-- the loan with this name ends, and leaves a map with these lists
abbrev pub ends_with_lists
    : (K V S : RattleType) → GName → Lists K.Denot V.Denot → Fml
ends_with_lists K V S γ wanted =
    fex (Multimap K.Denot V.Denot S.Denot) (λ m.
    fsep (feq (Lists K.Denot V.Denot) m.lists wanted)
    (fres γ ((multimap_code K.coded V.coded S.coded).code m)))

-- once the reference has ended with a value, so has the loan of the map: its lists are those that
-- it had, with that value in the first pair
abbrev pub ends_first_written
    : (K V S : RattleType) → MutBor (Multimap K.Denot V.Denot S.Denot) → MutBor V.Denot → Fml
ends_first_written K V S m r =
    fall V.Denot (λ w.
    fwand (fres r.ghost_name (V.coded.code w))
    (ends_with_lists K V S m.ghost_name (end_written Front m.now.lists w)))

-- the walk over keys has given the key, which was its first, and its map has v as the first value
-- of that key
pub record IsNextWritten {K V S A H : Type 0} {e : equality.Ghosts K} {k : hashed.Ghosts K}
    {b : builder.Ghosts S H} {h : hasher.Ghosts H} (old : KeyValuesMut K V S A H e k b h) (key : K)
    (v : V) (new : KeyValuesMut K V S A H e k b h) : Type 0 where
  pub map : IsWritten old.map.now new.map.now (first_written e.eq old.map.now.lists key v)
  pub same_name : new.map.ghost_name ≡ old.map.ghost_name
  pub same_place : new.map.ref_ptr ≡ old.map.ref_ptr
  pub keys : keys_left new ≡ end_rest Front (keys_left old)

module _ (K V S A H : RattleType) {e : equality.Ghosts K.Denot} {k : hashed.Ghosts K.Denot}
    {b : builder.Ghosts S.Denot H.Denot} {h : hasher.Ghosts H.Denot}
    (heap : alloc.Ghosts A.Denot) where
  -- the walk has a first key; and once the reference has ended with a value, so has the loan of the
  -- walk: that is the key's first value, all other pairs are as they were, and the other keys are
  -- left
  abbrev pub ends_next_written
      : MutBor (KeyValuesMut K.Denot V.Denot S.Denot A.Denot H.Denot e k b h) → MutBor V.Denot
      → Fml
  ends_next_written w r =
      fex ((key : K.Denot) × (end_item Front (keys_left w.now) ≡ Some key)) (λ x.
      fall V.Denot (λ v. fwand (fres r.ghost_name (V.coded.code v))
      (fex ((n : KeyValuesMut K.Denot V.Denot S.Denot A.Denot H.Denot e k b h)
      × IsNextWritten w.now x.0 v n)
      (λ n. fres w.ghost_name ((walk_row K V S A H e k b h heap).coded.code n.0)))))
