-- The steps by which a map is read of a JSON value. No public clause cites this module.
use Rattle.std.specs.Prelude.{◌≡◌, ℕ, Bool, true, false, List, [], ◌∷◌, ◌++◌, length}
use Rattle.std.specs.Prelude.{Option, Some, None, Result, IfOk, IfErr, OnOk}
use Rattle.serde_json.specs.Data.{Data, Items, array}
use Rattle.ordered_multimap.specs.Lists.{Lists, lists}
use Rattle.ordered_multimap.specs.Changes.{under_listed}
use Rattle.ordered_multimap.specs.Keys.{is_listed, stored_key}
use Rattle.ordered_multimap.specs.Multimap.{Multimap}
use Rattle.ordered_multimap.specs.Popped.{Popped}
use Rattle.ordered_multimap.specs.TapeNumbers.{AreUnused}
use Rattle.multimap_tool.specs.Json.{fault_in, item_fault, pair_json, IsReadFrom, UnlessMemory}
use Rattle.multimap_tool.specs.JsonLists.{AreReadLists, AreReadPairs, IsListsFault}
use Rattle.multimap_tool.specs.declared.json.faults.ReadFault.{ReadFault}

-- what is to be read comes into the map, unless the answer is a fault; the hash builder stays, and
-- a tape that was unused is unused still
pub record ReadsInto {K V S T : Type 0} (old new : Multimap K V S) (IsDone : Type 0)
    (answer : Result T ReadFault) : Type 0 where
  pub read : OnOk answer IsDone
  pub hasher : new.hasher ≡ old.hasher
  pub unused : AreUnused old.tape → AreUnused new.tape

-- the pair goes last, under the listed key that equals its own
pub record AppendsUnder {K V : Type 0} (eq : K → K → Bool) (key : K) (value : V) (m n : Lists K V)
    : Type 0 where
  pub listed : is_listed eq m.keys key ≡ true
  pub appended : n ≡ lists m.keys (m.pairs ++ (stored_key eq m.keys key, value) ∷ [])

module _ {K V : Type 0} (key_json : K → Data) (value_json : V → Data)
    (is_key is_value : Data → Bool) (eq : K → K → Bool) where
  -- a map of this hash builder is built of the pairs of these items, on an unused tape
  pub record IsReadOfPairs {S : Type 0} (ds : Items) (state : S) (map : Multimap K V S)
      : Type 0 where
    pub read : IsReadFrom key_json value_json eq (array ds) map.lists
    pub accepted : fault_in is_key is_value (array ds) ≡ None
    pub hasher : map.hasher ≡ state
    pub unused : AreUnused map.tape

  -- the map that is answered has this hash builder and the lists of both arrays, and a pair was
  -- taken out for each key; else the answer says what is wrong with them
  pub record AnswersLists {S : Type 0} (js ds : Items) (state : S)
      (answer : Result (Multimap K V S) ReadFault) : Type 0 where
    pub read : IfOk answer (λ map.
        AreReadLists key_json value_json is_key is_value eq js ds map.lists)
    pub fault : IfErr answer
        (UnlessMemory (IsListsFault key_json value_json is_key is_value eq js ds))
    pub hasher : IfOk answer (λ map. map.hasher ≡ state)
    pub freed : IfOk answer (λ map. map.tape.freed ≡ length map.lists.keys)

  -- the pair of the item goes last, under the listed key that equals its own
  pub record AppendsPair (d : Data) (m n : Lists K V) : Type 0 where
    pub pair : K × V
    pub json : d ≡ pair_json key_json value_json pair
    pub accepted : (i : ℕ) → item_fault is_key is_value i d ≡ None
    pub under : AppendsUnder eq pair.0 pair.1 m n

  -- the same of all items, in order
  pub record AppendsPairs (ds : Items) (m n : Lists K V) : Type 0 where
    pub pairs : List (K × V)
    pub read : AreReadPairs key_json value_json is_key is_value eq m.keys ds pairs
    pub appended : n ≡ lists m.keys (m.pairs ++ under_listed eq m.keys pairs)

-- whether a pop handed the key out
abbrev pub is_owned_pop : {K V : Type 0} → Option (Popped K V) → Bool
is_owned_pop None = false
is_owned_pop (Some p) = p.owned
