-- What a map ends as, where a `&mut` to one of its values is returned.
use Rattle.std.specs.Prelude.{◌≡◌, ℕ, Bool, Option, OnSome, IfNone}
use Rattle.std.specs.Borrow.{Fml, RattleType, Bor, MutBor, Lends, LendsSo, follows_so, name_if_some}
use Rattle.std.specs.HashMap.Lent.{HashMembers}
use Rattle.std.specs.declared.alloc.Allocator as alloc
use Rattle.std.specs.declared.hash.Hasher as hasher
use Rattle.std.specs.declared.hash.BuildHasher as builder
use Rattle.multimap_walks.specs.declared.End.{End}
use Rattle.ordered_multimap.specs.Changes.{first_written_where, end_written}
use Rattle.ordered_multimap.specs.Multimap.{Multimap}
use Rattle.ordered_multimap.specs.PopAnswers.{map_row}
use Rattle.ordered_multimap.specs.Writes.{with_value, with_first, with_end, IsWritten}

module _ (K V S A H : RattleType) (key : HashMembers K.Denot)
    (build : builder.Ghosts S.Denot H.Denot) (hash : hasher.Ghosts H.Denot)
    (heap : alloc.Ghosts A.Denot) (m : MutBor (Multimap K.Denot V.Denot S.Denot)) where
  -- the value at the place ends as r did
  abbrev pub lends_value : ℕ → MutBor V.Denot → Fml
  lends_value place r = Lends (map_row K V S A H key build hash heap) V m r (with_value m.now place)

  -- the first value of the key at the place ends as r did
  abbrev pub lends_first_value : ℕ → MutBor V.Denot → Fml
  lends_first_value place r =
      Lends (map_row K V S A H key build hash heap) V m r (with_first m.now place)

  -- the first value of the keys that the test accepts ends as the borrow in r did; at `None` the
  -- map stays
  abbrev pub lends_first_of : (K.Denot → Bool) → Option (MutBor V.Denot) → Fml
  lends_first_of accepts r =
      LendsSo (map_row K V S A H key build hash heap) V m r
      (λ n w. OnSome r (IsWritten m.now n (first_written_where accepts m.now.lists w)))
      (λ n. n ≡ m.now)

module _ (K V S A H : RattleType) (key : HashMembers K.Denot)
    (build : builder.Ghosts S.Denot H.Denot) (hash : hasher.Ghosts H.Denot)
    (heap : alloc.Ghosts A.Denot) (end : End) (m : MutBor (Multimap K.Denot V.Denot S.Denot)) where
  -- the value of the pair at the end ends as r did
  abbrev pub lends_end : Bor K.Denot × MutBor V.Denot → Fml
  lends_end r = Lends (map_row K V S A H key build hash heap) V m r.1 (with_end end m.now)

  -- the value of the pair at the end ends as the borrow in r did; at `None` the map stays
  abbrev pub lends_end_if : Option (Bor K.Denot × MutBor V.Denot) → Fml
  lends_end_if r =
      follows_so (map_row K V S A H key build hash heap) V m.ghost_name
      (name_if_some (λ p. p.1.ghost_name) r)
      (λ w n. OnSome r (IsWritten m.now n (end_written end m.now.lists w)))
      (λ n. IfNone r (n ≡ m.now))
