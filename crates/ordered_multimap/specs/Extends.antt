-- What a call makes of a map that appends the pairs of an iterator.
use Rattle.std.specs.Prelude.{◌≡◌, Bool, List, [], ◌∷◌, ◌++◌, length, map, Option, Result}
use Rattle.std.specs.Prelude.{Err, IsOk, MatchResult, OnErr}
use Rattle.std.specs.Borrow.{Bor}
use Rattle.std.specs.Iterator.{Count, Drains, ExtendsWithItems, HoldsAlong, Yields, size}
use Rattle.ordered_multimap.specs.Lists.{Lists}
use Rattle.ordered_multimap.specs.Changes.{all_appended, built_from}
use Rattle.ordered_multimap.specs.Multimap.{Multimap}
use Rattle.ordered_multimap.specs.Rooms.{DoublesRooms, HasPairRoom, HasRoomForPairs}
use Rattle.ordered_multimap.specs.Rooms.{KeepsRooms, SameRooms}
use Rattle.ordered_multimap.specs.TapeNumbers.{AreUnused, TakesOut}
use Rattle.ordered_multimap.specs.declared.list_ordered_multimap.refused.Refused.{Refused}

module _ {K V T : Type 0} (steps : T → Option (K × V) → T → Type 0) where
  -- the iterator was read so far: it gave these pairs, and last of all the refused one
  abbrev pub StopsAt : T → List (K × V) → Refused K V → Type 0
  StopsAt it pairs refused =
      (t : T) × Yields steps it (pairs ++ (refused.key, refused.value) ∷ []) t

  -- the refused pair is the last that was read of what an iterator became
  abbrev pub IsLastRead : {I : Type 0} → (I → T → Type 0) → I → Refused K V → Type 0
  IsLastRead becomes iter refused =
      (it : T) × (pairs : List (K × V)) × becomes iter it × StopsAt it pairs refused

module _ {K V : Type 0} (eq : K → K → Bool) {I T : Type 0} (becomes : I → T → Type 0)
    (steps : T → Option (K × V) → T → Type 0) where
  -- each of these pairs was appended in turn: all of the iterator's, or those before the refused
  -- one
  abbrev pub Extends : I → Lists K V → Lists K V → Result (Unit {0}) (Refused K V) → Type 0
  Extends iter old new r = (it : T) × (pairs : List (K × V)) × becomes iter it
      × (new ≡ all_appended eq old pairs)
      × MatchResult r (λ _. Drains steps it pairs) (StopsAt steps it pairs)

  -- the items are the pairs that were appended to empty lists
  abbrev pub IsBuilt : I → Lists K V → Type 0
  IsBuilt iter new = (it : T) × (pairs : List (K × V)) × becomes iter it
      × (new ≡ built_from eq pairs) × Drains steps it pairs

-- the pair that two references lend
abbrev pub lent_pair : {K V : Type 0} → Bor K × Bor V → K × V
lent_pair p = (p.0.now, p.1.now)

module _ {K V : Type 0} (eq : K → K → Bool) {I T : Type 0} (becomes : I → T → Type 0)
    (steps : T → Option (Bor K × Bor V) → T → Type 0) where
  -- a copy of each of these pairs was appended in turn: of all the iterator's, or of those before
  -- the refused one
  abbrev pub ExtendsCopied : I → Lists K V → Lists K V → Result (Unit {0}) (Refused K V) → Type 0
  ExtendsCopied iter old new r = (it : T) × (items : List (Bor K × Bor V)) × becomes iter it
      × (new ≡ all_appended eq old (map lent_pair items))
      × MatchResult r (λ _. Drains steps it items)
      (λ refused. (item : Bor K × Bor V) × (t : T) × Yields steps it (items ++ item ∷ []) t
      × (lent_pair item ≡ (refused.key, refused.value)))

module _ {K V S I T : Type 0} (becomes : I → T → Type 0) where
  -- however many pairs the iterator gives, so many more keys and values fit
  abbrev pub HasRoomForGiven : {X : Type 0} → (T → Option X → T → Type 0) → I → Multimap K V S
      → Type 0
  HasRoomForGiven steps iter m =
      (it : T) → becomes iter it → HoldsAlong steps it (λ given. HasRoomForPairs m (length given))

  -- as many more fit as the iterator says that it has left at most
  abbrev pub HasRoomForMost : (T → Count) → I → Multimap K V S → Type 0
  HasRoomForMost left iter m = (it : T) → becomes iter it → HasRoomForPairs m (size (left it))

-- no room is lower, one that grows at least doubles, and no value leaves; where there is room for
-- all pairs that come, no room for keys grows, and where there is room for as many as may come at
-- most, nothing does
pub record GrowsForPairs {K V S : Type 0} (given most : Type 0) (old new : Multimap K V S) : Type 0
  where
    pub rooms : KeepsRooms old new
    pub doubles : DoublesRooms old new
    pub taken : TakesOut 0 old.tape new.tape
    pub key_room : given → new.key_room ≡ old.key_room
    pub had_room : most → SameRooms old new

-- nothing is refused where all that come, or may come, have room, and the map has grown for them
-- alone
pub record GrowsForAll {K V S I T X Y E : Type 0} (becomes : I → T → Type 0)
    (steps : T → Option X → T → Type 0) (left : T → Count) (iter : I) (old new : Multimap K V S)
    (r : Result Y E) : Type 0 where
  pub grows : GrowsForPairs (HasRoomForGiven becomes steps iter old)
      (HasRoomForMost becomes left iter old) old new
  pub succeeds : HasRoomForGiven becomes steps iter old → IsOk r
  pub succeeds_for_most : HasRoomForMost becomes left iter old → IsOk r

-- what std says of items that were added, or of those before a refused one; and how the map has
-- grown for them
pub record ExtendsInRoom {K V S I T X E : Type 0} (becomes : I → T → Type 0)
    (steps : T → Option X → T → Type 0) (left : T → Count)
    (gives : Multimap K V S → List X → Multimap K V S → Type 0) (iter : I)
    (old new : Multimap K V S) (r : Result (Unit {0}) E) : Type 0 where
  pub ran : ExtendsWithItems becomes steps gives iter old new r
  pub grows : GrowsForAll becomes steps left iter old new r

module _ {K V S : Type 0} (eq : K → K → Bool) where
  -- a call that is refused stopped at a pair, the last that was read: those before it were
  -- appended, and there is no room for it
  abbrev pub StoppedForRoom : (Lists K V → Lists K V → Result (Unit {0}) (Refused K V) → Type 0)
      → Multimap K V S → Multimap K V S → {E : Type 0} → Result (Unit {0}) E → Type 0
  StoppedForRoom appends old new r = OnErr r ((pair : Refused K V)
      × appends old.lists new.lists (Err pair) × ¬ HasPairRoom eq new pair.key)

  -- each pair was appended in turn; no room is lower, one that grows at least doubles, and no value
  -- left
  pub record AppendsAll (old : Multimap K V S) (pairs : List (K × V)) (new : Multimap K V S)
      : Type 0 where
    pub lists : new.lists ≡ all_appended eq old.lists pairs
    pub rooms : KeepsRooms old new
    pub doubles : DoublesRooms old new
    pub taken : TakesOut 0 old.tape new.tape

  -- the map is built of the pairs, on a tape that was not used, with a default of the hash builder
  pub record IsCollected (is_default : S → Type 0) (pairs : List (K × V)) (m : Multimap K V S)
      : Type 0 where
    pub lists : m.lists ≡ built_from eq pairs
    pub hasher : is_default m.hasher
    pub unused : AreUnused m.tape
