-- What a set ends as, once a call's result that borrows it has ended.
use Rattle.std.specs.Prelude.{◌≡◌, ⊤, IfNone, OnSome, Option}
use Rattle.std.specs.Borrow.{Fml, GName, Lends, MutBor, RattleType, follows, follows_so}
use Rattle.std.specs.Borrow.{name_if_some}
use Rattle.std.specs.HashMap.Lent.{HashMembers}
use Rattle.std.specs.declared.alloc.Allocator as alloc
use Rattle.std.specs.declared.hash.Hasher as hasher
use Rattle.std.specs.declared.hash.BuildHasher as builder
use mathlib.Core.Option.{none}
use Rattle.ordered_multimap.specs.End.{End}
use Rattle.ordered_multimap.specs.Multimap.{Multimap}
use Rattle.ordered_multimap.specs.PopAnswers.{IsPopped, map_row}
use Rattle.set_ordered_multimap.specs.contracts.set.SetOrderedMultimap.{the_row}

module _ (K V S A H : RattleType) (key : HashMembers K.Denot)
    (build : builder.Ghosts S.Denot H.Denot) (hash : hasher.Ghosts H.Denot)
    (heap : alloc.Ghosts A.Denot) where
  -- the set's type, as the logic has it
  abbrev pub set_row : RattleType
  set_row = the_row K V S A H (record { eq = key.eq }) (record { hash_input = key.hash_input })
      build hash heap

  -- the set ends as the map that a reference last held
  abbrev pub lends_map : MutBor (Multimap K.Denot V.Denot S.Denot)
      → MutBor (Multimap K.Denot V.Denot S.Denot) → Fml
  lends_map s r = Lends set_row (map_row K V S A H key build hash heap) s r (λ m. m)

  -- the set ends as the map whose loan has the name
  abbrev pub ends_as_map : MutBor (Multimap K.Denot V.Denot S.Denot) → GName → Fml
  ends_as_map s name =
      follows set_row (map_row K V S A H key build hash heap) s.ghost_name name (λ m. m)

  -- at `None` the set ends as it is; else it ends as the map whose loan has the name
  abbrev pub ends_set_key_popped : {D : Type 0} → (D → GName)
      → MutBor (Multimap K.Denot V.Denot S.Denot) → Option (K.Denot × D) → Fml
  ends_set_key_popped name s r =
      follows_so set_row (map_row K V S A H key build hash heap) s.ghost_name
      (name_if_some (λ p. name p.1) r) (λ x n. OnSome r (n ≡ x)) (λ n. IfNone r (n ≡ s.now))

  -- a pair was popped at an end of the set
  abbrev pub ends_set_popped : End → MutBor (Multimap K.Denot V.Denot S.Denot) → Fml
  ends_set_popped end s =
      follows_so set_row set_row s.ghost_name none (λ _ _. ⊤) (λ n. IsPopped key.eq end s.now n)
