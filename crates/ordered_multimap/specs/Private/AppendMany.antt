-- Values that are appended behind the others of a key. No public clause cites this module.
use Rattle.std.specs.Prelude.{◌≡◌, ◌++◌, ◌∷◌, [], ℕ, Bool, List, length}
use Rattle.std.specs.Prelude.{Option, Result, IsOk, MatchResult, OnErr}
use Rattle.std.specs.Iterator.{Count, Drains, HoldsAlong, Yields, size}
use Rattle.ordered_multimap.specs.Agrees.{HasKey}
use Rattle.ordered_multimap.specs.AppendMany.{GrowsBehind, HasValueRoomFor, under_key}
use Rattle.ordered_multimap.specs.Changes.{all_appended}
use Rattle.ordered_multimap.specs.Multimap.{Multimap}
use Rattle.ordered_multimap.specs.Private.KeySteps.{KeepsPlaces}
use Rattle.ordered_multimap.specs.Rooms.{HasValueRoom}
use Rattle.ordered_multimap.specs.declared.list_ordered_multimap.refused.RefusedValue.{RefusedValue}

module _ {K V S : Type 0} where
  -- these values of an iterator were appended in turn under the key at the place: all of them, or
  -- those before one for which there was no room; each key stands where it stood
  pub record AppendsRest (eq : K → K → Bool) (place : ℕ) {T : Type 0}
      (steps : T → Option V → T → Type 0) (left : T → Count) (it : T) (old new : Multimap K V S)
      (r : Result (Unit {0}) (RefusedValue V)) : Type 0 where
    pub given : List V
    pub lists : (k : K) → HasKey eq old.slots.keys k place
        → new.lists ≡ all_appended eq old.lists (under_key k given)
    pub read : MatchResult r (λ _. Drains steps it given)
        (λ refused. (t : T) × Yields steps it (given ++ refused.value ∷ []) t)
    pub full : OnErr r (¬ HasValueRoom new)
    pub places : KeepsPlaces eq old new
    pub grows : GrowsBehind (HasValueRoomFor old (size (left it))) old new
    pub succeeds : HoldsAlong steps it (λ values. HasValueRoomFor old (length values)) → IsOk r
    pub succeeds_for_most : HasValueRoomFor old (size (left it)) → IsOk r
