-- What a call on an absent key finds and leaves, and what one on a present key finds.
use Rattle.std.proofs.Common.{◌≡◌, ℕ, Bool, true, List, [], ◌∷◌, length, slice_get, option_map, Some, refl, sym, ap, ◌∙◌, subst, arith}
use Rattle.std.proofs.Common.{true≢false}
use Rattle.std.specs.Cmp.{IsEquivalence}
use Rattle.ordered_multimap.specs.Agrees.{LacksKey, LacksWhere}
use Rattle.ordered_multimap.specs.Changes.{appended, inserted, removed_where}
use Rattle.ordered_multimap.specs.Detaches.{left_of}
use Rattle.ordered_multimap.specs.Additions.{IsAppended, IsInserted}
use Rattle.ordered_multimap.specs.Private.KeySteps.{DetachesWhere}
use Rattle.ordered_multimap.specs.Removals.{IsRemovedWhere, LosesValues}
use Rattle.ordered_multimap.specs.Lists.{Lists}
use Rattle.ordered_multimap.specs.Multimap.{Multimap}
use Rattle.ordered_multimap.specs.Pairs.{has_items, is_present_where, positions_where, values_where}
use Rattle.ordered_multimap.specs.Rooms.{RaisesNoRoom, SameRooms}
use Rattle.ordered_multimap.specs.TapeNumbers.{TakesOut}
use Rattle.ordered_multimap.proofs.Append.Inserted.{inserted-absent}
use Rattle.ordered_multimap.proofs.Agreement.LookUps.{length-positions_where}
use Rattle.ordered_multimap.proofs.Remove.WholeKeys.{removed-absent}

-- keys that the lists lack have no position
pub lacks_position : {K V : Type 0} {eq : K → K → Bool} {m : Lists K V} (accepts : K → Bool) → LacksWhere accepts eq m
    → positions_where accepts m.pairs ≡ []
lacks_position {K} {V} {eq} {m} accepts lacks =
    none (positions_where accepts m.pairs) (length-positions_where accepts 0 m.pairs ∙ ap length lacks.no_value)
  where
    none : (xs : List ℕ) → length xs ≡ 0 → xs ≡ []
    none [] e = refl
    none (x ∷ xs) e = absurd (omega (arith, e))

-- a key that is present has a first value
pub has_first : {K V X : Type 0} (accepts : K → Bool) (pairs : List (K × V)) (x : X) → is_present_where accepts pairs ≡ true
    → option_map (λ _. x) (slice_get (values_where accepts pairs) 0) ≡ Some x
has_first {K} {V} {X} accepts pairs x present = some (values_where accepts pairs) present
  where
    some : (vs : List V) → has_items vs ≡ true → option_map (λ _. x) (slice_get vs 0) ≡ Some x
    some [] e = absurd (true≢false (sym e))
    some (v ∷ vs) e = refl

module _ {K V : Type 0} {eq : K → K → Bool} (laws : IsEquivalence eq) (m : Lists K V) where
  -- a removal of keys that they lack changes nothing
  pub removed_lacking : (accepts : K → Bool) → LacksWhere accepts eq m → removed_where eq accepts m ≡ m
  removed_lacking accepts lacks = removed-absent laws m accepts lacks.well_formed lacks.unlisted

  -- and an insertion is an append
  pub inserted_lacking : (k : K) → LacksKey eq m k → (v : V) → appended eq m k v ≡ inserted eq m k v
  inserted_lacking k lacks v = inserted-absent laws m k v lacks.well_formed lacks.unlisted

-- where there is no value, nothing is left for a drain
pub detaches_none : {K V S : Type 0} {eq : K → K → Bool} {old new : Multimap K V S} (accepts : K → Bool) {after : Lists K V}
    → LacksWhere accepts eq old.lists
    → left_of new ≡ [] → new.lists ≡ after → TakesOut 0 old.tape new.tape
    → DetachesWhere accepts old new after
detaches_none {old = old} {new = new} accepts lacks left lists taken = record {
  left = left ∙ sym lacks.no_value;
  loses = record { lists = lists; taken = subst (λ vs. TakesOut (length vs) old.tape new.tape) (sym lacks.no_value) taken };
}

-- a key and a value of the map were asked for room, and the room is as it was
pub same_raises_none : {K V S : Type 0} {eq : K → K → Bool} {old new : Multimap K V S} {k : K} → SameRooms old new
    → RaisesNoRoom eq k old new
same_raises_none same = record {
  keys = λ few. same.keys;
  present = λ there. same.keys;
  values = λ few. same.values;
  slots = λ few. same.slots;
  doubles = record { keys = λ more. absurd (omega (arith, more, same.keys)); values = λ more. absurd (omega (arith, more, same.values)) };
}

-- an insertion at the place of a present key
pub inserted_there : {K V S : Type 0} {eq : K → K → Bool} {old new : Multimap K V S} {k : K} {v : V}
    → LosesValues eq old new k (inserted eq old.lists k v) → SameRooms old new → IsInserted eq k v old new
inserted_there lost same = record {
  lists = lost.lists;
  rooms = record { keys = omega (arith, same.keys); values = omega (arith, same.values); hasher = same.hasher };
  had_room = record { had_room = same_raises_none same; present = λ there. same };
  taken = lost.taken;
}

-- one of an absent key is an append
pub inserted_new : {K V S : Type 0} {eq : K → K → Bool} (laws : IsEquivalence eq) {old new : Multimap K V S} {k : K} {v : V}
    → LacksKey eq old.lists k → IsAppended eq k v old new → IsInserted eq k v old new
inserted_new {eq = eq} laws {old} {new} {k} {v} lacks came = record {
  lists = came.lists ∙ inserted_lacking laws old.lists k lacks v;
  rooms = came.rooms;
  had_room = record {
    had_room = came.had_room;
    present = λ there. absurd (true≢false (sym there ∙ ap (λ vs. has_items vs) lacks.no_value));
  };
  taken = subst (λ vs. TakesOut (length vs) old.tape new.tape) (sym lacks.no_value) came.taken;
}

-- a removal of an absent key
pub removes_none : {K V S : Type 0} {eq : K → K → Bool} (laws : IsEquivalence eq) {m : Multimap K V S} (accepts : K → Bool)
    → LacksWhere accepts eq m.lists → IsRemovedWhere accepts eq m m
removes_none laws {m} accepts lacks = record {
  loses = record {
    lists = sym (removed_lacking laws m.lists accepts lacks);
    taken = subst (λ vs. TakesOut (length vs) m.tape m.tape) (sym lacks.no_value) (record { freed = omega arith; paid = omega arith });
  };
  rooms = record { keys = refl; values = refl; slots = refl; hasher = refl };
}
