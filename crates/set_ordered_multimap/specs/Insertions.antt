-- What a call makes of a set that inserts the pairs of an iterator.
use Rattle.std.specs.Prelude.{◌≡◌, Bool, false, List, [], ◌∷◌, ◌++◌, map, Option}
use Rattle.std.specs.Prelude.{Result, Err, IsOk, MatchResult, OnErr}
use Rattle.std.specs.Borrow.{Bor}
use Rattle.std.specs.Iterator.{Count, Drains, ExtendsWithItems, IsFinite, Yields}
use Rattle.ordered_multimap.specs.Changes.{built_from}
use Rattle.ordered_multimap.specs.Extends.{GrowsForPairs, HasRoomForGiven, StopsAt, lent_pair}
use Rattle.ordered_multimap.specs.Lists.{Lists}
use Rattle.ordered_multimap.specs.Multimap.{Multimap}
use Rattle.ordered_multimap.specs.Rooms.{DoublesRooms, HasPairRoom, KeepsRooms}
use Rattle.ordered_multimap.specs.TapeNumbers.{AreUnused, TakesOut}
use Rattle.ordered_multimap.specs.declared.list_ordered_multimap.refused.Refused.{Refused}
use Rattle.set_ordered_multimap.specs.Set.{IsSet, all_inserted, first_pairs, has_pair}

-- what comes of an iterator may be asked for an item, and ends
abbrev pub ComesToAnEnd : {I T : Type 0} → (I → T → Type 0) → (T → Type 0) → (T → Count) → I
    → Type 0
ComesToAnEnd {T = T} becomes can_next left iter =
    (it : T) → becomes iter it → can_next it × IsFinite (left it)

module _ {K V : Type 0} (eq : K → K → Bool) (value_eq : V → V → Bool) {I T : Type 0}
    (becomes : I → T → Type 0) (steps : T → Option (K × V) → T → Type 0) where
  -- each of these pairs was inserted in turn: all of the iterator's, or those before the refused
  -- one
  abbrev pub InsertsAll : I → Lists K V → Lists K V → Result (Unit {0}) (Refused K V) → Type 0
  InsertsAll iter old new r = (it : T) × (pairs : List (K × V)) × becomes iter it
      × (new ≡ all_inserted eq value_eq old pairs)
      × MatchResult r (λ _. Drains steps it pairs) (StopsAt steps it pairs)

  -- the iterator's pairs were appended to empty lists, of equal ones the first alone
  abbrev pub IsSetOf : I → Lists K V → Type 0
  IsSetOf iter new = (it : T) × (pairs : List (K × V)) × becomes iter it
      × (new ≡ built_from eq (first_pairs eq value_eq pairs)) × Drains steps it pairs

module _ {K V : Type 0} (eq : K → K → Bool) (value_eq : V → V → Bool) {I T : Type 0}
    (becomes : I → T → Type 0) (steps : T → Option (Bor K × Bor V) → T → Type 0) where
  -- a copy of each of these pairs was inserted in turn: of all the iterator's, or of those before
  -- the refused one
  abbrev pub InsertsCopied : I → Lists K V → Lists K V → Result (Unit {0}) (Refused K V) → Type 0
  InsertsCopied iter old new r = (it : T) × (items : List (Bor K × Bor V)) × becomes iter it
      × (new ≡ all_inserted eq value_eq old (map lent_pair items))
      × MatchResult r (λ _. Drains steps it items)
      (λ refused. (item : Bor K × Bor V) × (t : T) × Yields steps it (items ++ item ∷ []) t
      × (lent_pair item ≡ (refused.key, refused.value)))

module _ {K V S I T : Type 0} (becomes : I → T → Type 0) {X : Type 0}
    (steps : T → Option X → T → Type 0) where
  -- nothing is refused where all pairs that come have room, and the set has grown for them alone
  pub record GrowsForInserted (iter : I) (old new : Multimap K V S) {Y E : Type 0} (r : Result Y E)
      : Type 0 where
    pub grows : GrowsForPairs (HasRoomForGiven becomes steps iter old)
        (HasRoomForGiven becomes steps iter old) old new
    pub succeeds : HasRoomForGiven becomes steps iter old → IsOk r

-- a pair needs room for a key and a value only where no equal one is there
abbrev pub HasRoomToInsert : {K V S : Type 0} → (K → K → Bool) → (V → V → Bool) → Multimap K V S
    → K → V → Type 0
HasRoomToInsert eq value_eq m k v =
    has_pair eq value_eq m.lists.pairs k v ≡ false → HasPairRoom eq m k

module _ {K V S : Type 0} (eq : K → K → Bool) (value_eq : V → V → Bool) where
  -- each pair was inserted in turn, so that a set stays one; no room is lower, one that grows at
  -- least doubles, and no value left
  pub record InsertsPairs (old : Multimap K V S) (pairs : List (K × V)) (new : Multimap K V S)
      : Type 0 where
    pub lists : new.lists ≡ all_inserted eq value_eq old.lists pairs
    pub set : IsSet eq value_eq old.lists → IsSet eq value_eq new.lists
    pub rooms : KeepsRooms old new
    pub doubles : DoublesRooms old new
    pub taken : TakesOut 0 old.tape new.tape

  -- the set is built of the pairs, of equal ones the first alone, on a tape that was not used,
  -- with a default of the hash builder
  pub record IsCollectedSet (is_default : S → Type 0) (pairs : List (K × V)) (s : Multimap K V S)
      : Type 0 where
    pub lists : s.lists ≡ built_from eq (first_pairs eq value_eq pairs)
    pub set : IsSet eq value_eq s.lists
    pub hasher : is_default s.hasher
    pub unused : AreUnused s.tape

  module _ {I T : Type 0} (becomes : I → T → Type 0) (steps : T → Option (K × V) → T → Type 0) where
    -- there is no room to insert this pair, the last that was read, and those before it are there
    pub record StopsForRoom (iter : I) (old new : Multimap K V S) (pair : Refused K V) : Type 0
      where
        pub inserts : InsertsAll eq value_eq becomes steps iter old.lists new.lists (Err pair)
        pub full : ¬ HasRoomToInsert eq value_eq new pair.key pair.value

    -- what std says of pairs that were inserted, or of those before a refused one; which that is,
    -- and how the set has grown
    pub record ExtendsSet (iter : I) (old new : Multimap K V S) {E : Type 0}
        (r : Result (Unit {0}) E) : Type 0 where
      pub ran : ExtendsWithItems becomes steps InsertsPairs iter old new r
      pub refused : OnErr r ((pair : Refused K V) × StopsForRoom iter old new pair)
      pub grows : GrowsForInserted becomes steps iter old new r
