-- JSON values of both lists of a map, objects with the members "keys" and "pairs": which are read,
-- as what, and what is wrong with the others.
use Rattle.std.specs.Prelude.{◌≡◌, ◌⊎◌, ℕ, suc, ◌&&◌, ◌==◌, Bool, true, false, cond, codes}
use Rattle.std.specs.Prelude.{List, [], ◌∷◌, ◌++◌, map, Option, Some, None, option_map}
use Rattle.std.specs.Prelude.{option_and_then}
use Rattle.std.specs.List.{IsDistinct}
use Rattle.std.specs.Map.{keys_of}
use Rattle.serde_json.specs.Data.{Data, array, object, Items, no_items, item, member, no_members}
use Rattle.serde_json.specs.Events.{members_len}
use Rattle.serde_json.specs.Find.{as_array, get}
use Rattle.serde_json.specs.View.{items_of}
use Rattle.ordered_multimap.specs.Lists.{Lists, IsIn}
use Rattle.ordered_multimap.specs.Changes.{under_listed}
use Rattle.ordered_multimap.specs.Keys.{is_listed}
use Rattle.multimap_tool.specs.Json.{pairs_json, IsReadFrom, item_fault, fault_in}
use Rattle.multimap_tool.specs.declared.json.faults.ReadFault.{ReadFault}
use Rattle.multimap_tool.specs.declared.json.faults.ReadFault.TheVariants.{NotVersion2}
use Rattle.multimap_tool.specs.declared.json.faults.ReadFault.TheVariants.{BadListedKey}
use Rattle.multimap_tool.specs.declared.json.faults.ReadFault.TheVariants.{RepeatedKey}
use Rattle.multimap_tool.specs.declared.json.faults.ReadFault.TheVariants.{UnlistedKey, UnusedKey}

-- the items of the array that an object has at a name
abbrev pub array_at : List ℕ → Data → Option Items
array_at name d = option_and_then as_array (get name d)

-- the items of "keys" and of "pairs", of an object with exactly these members, both arrays
abbrev pub both_arrays : Data → Option (Items × Items)
both_arrays (object ms) =
    cond (members_len ms == 2) (option_and_then
    (λ keys. option_map (λ pairs. (keys, pairs)) (array_at (codes "pairs") (object ms)))
    (array_at (codes "keys") (object ms))) None
both_arrays d = None

-- whether a JSON value is an array, or an object of both arrays
abbrev pub has_form : Data → Bool
has_form (array ds) = true
has_form d = elim (both_arrays d) [ None ↦ false | Some both ↦ true ]

-- an array of two
abbrev pub of_two : Data → Data → Data
of_two key value = array (item key (item value no_items))

-- the key and the value of an item that is an array of two
abbrev pub parts_of : Data → Option (Data × Data)
parts_of (array (item key (item value no_items))) = Some (key, value)
parts_of d = None

-- whether the first item is an array of two whose second part is a value
abbrev pub has_value : (Data → Bool) → Items → Bool
has_value is_value (item (array (item key (item value no_items))) ds) = is_value value
has_value is_value ds = false

-- whether each item passes
abbrev pub each_item : (Data → Bool) → Items → Bool
each_item test no_items = true
each_item test (item d ds) = test d && each_item test ds

-- any JSON value passes
abbrev pub any : Data → Bool
any d = true

-- the first key that none of the named keys equals, counted from a position on, is unused
abbrev pub first_unused : {K : Type 0} → (K → K → Bool) → ℕ → List K → List K → Option ReadFault
first_unused eq i [] named = None
first_unused eq i (k ∷ keys) named =
    cond (is_listed eq named k) (first_unused eq (suc i) keys named) (Some (UnusedKey i))

module _ {K V : Type 0} (key_json : K → Data) (value_json : V → Data) where
  -- an object of the keys and of the pairs, both in order
  abbrev pub lists_json : Lists K V → Data
  lists_json m = object (member (codes "keys") (array (items_of (map key_json m.keys)))
      (member (codes "pairs") (pairs_json key_json value_json m.pairs) no_members))

module _ {K : Type 0} (key_json : K → Data) (is_key : Data → Bool) (eq : K → K → Bool) where
  -- the key is what the JSON value holds
  pub record IsReadKey (d : Data) (k : K) : Type 0 where
    pub json : d ≡ key_json k
    pub accepted : is_key d ≡ true

  -- these different keys are read of the items, in order
  pub record AreReadKeys (ds : Items) (keys : List K) : Type 0 where
    pub json : ds ≡ items_of (map key_json keys)
    pub accepted : each_item is_key ds ≡ true
    pub distinct : IsDistinct eq keys

  -- what is wrong with an item of "keys" behind these keys: it is no key, or it equals one of them
  abbrev pub IsListedKeyFault : ℕ → List K → Data → ReadFault → Type 0
  IsListedKeyFault i earlier d fault =
      ((is_key d ≡ false) × (fault ≡ BadListedKey i))
      ⊎ ((k : K) × IsReadKey d k × (is_listed eq earlier k ≡ true) × (fault ≡ RepeatedKey i))

  -- what is wrong with the first bad one of the items of "keys" that stand from a position on,
  -- behind these keys
  abbrev pub IsKeysFault : ℕ → List K → Items → ReadFault → Type 0
  IsKeysFault i earlier no_items fault = ⊥
  IsKeysFault i earlier (item d ds) fault =
      IsListedKeyFault i earlier d fault
      ⊎ ((k : K) × IsReadKey d k × (is_listed eq earlier k ≡ false)
      × IsKeysFault (suc i) (earlier ++ k ∷ []) ds fault)

module _ {K : Type 0} (key_json : K → Data) (is_key is_value : Data → Bool)
    (eq : K → K → Bool) where
  -- the item is an array of this key and of a second part, and the key is listed or isn't
  pub record HasListedKey (is : Bool) (keys : List K) (d : Data) (k : K) : Type 0 where
    pub value : Data
    pub json : d ≡ of_two (key_json k) value
    pub accepted : is_key (key_json k) ≡ true
    pub listed : is_listed eq keys k ≡ is

  -- what is wrong with an item of "pairs": that it is no array of two, else that its first part is
  -- no key, else that this key isn't listed, else that its second part is no value
  abbrev pub IsPairFault : ℕ → List K → Data → ReadFault → Type 0
  IsPairFault i keys d fault =
      (item_fault is_key any i d ≡ Some fault)
      ⊎ (((k : K) × HasListedKey false keys d k × (fault ≡ UnlistedKey i))
      ⊎ ((k : K) × HasListedKey true keys d k × (item_fault is_key is_value i d ≡ Some fault)))

  -- what is wrong with the first bad one of the items of "pairs" that stand from a position on
  abbrev pub IsPairsFault : ℕ → List K → Items → ReadFault → Type 0
  IsPairsFault i keys no_items fault = ⊥
  IsPairsFault i keys (item d ds) fault =
      IsPairFault i keys d fault
      ⊎ ((k : K) × HasListedKey true keys d k × (item_fault is_key is_value i d ≡ None)
      × IsPairsFault (suc i) keys ds fault)

module _ {K V : Type 0} (key_json : K → Data) (value_json : V → Data)
    (is_key is_value : Data → Bool) (eq : K → K → Bool) where
  -- these pairs are read of the items, in order, and each of their keys is listed
  pub record AreReadPairs (keys : List K) (ds : Items) (pairs : List (K × V)) : Type 0 where
    pub json : array ds ≡ pairs_json key_json value_json pairs
    pub accepted : fault_in is_key is_value (array ds) ≡ None
    pub listed : (k : K) → IsIn k (keys_of pairs) → is_listed eq keys k ≡ true

  -- what is wrong with both arrays: an item of "keys", else an item of "pairs", else a key that no
  -- pair names
  abbrev pub IsListsFault : Items → Items → ReadFault → Type 0
  IsListsFault js ds fault =
      IsKeysFault key_json is_key eq 0 [] js fault
      ⊎ ((keys : List K) × AreReadKeys key_json is_key eq js keys
      × (IsPairsFault key_json is_key is_value eq 0 keys ds fault
      ⊎ ((pairs : List (K × V)) × AreReadPairs keys ds pairs
      × (first_unused eq 0 keys (keys_of (under_listed eq keys pairs)) ≡ Some fault))))

  -- the lists are those of both arrays: the keys in their order, and the pairs in theirs, each with
  -- the listed key that equals its own; nothing is wrong with them
  pub record AreReadLists (js ds : Items) (m : Lists K V) : Type 0 where
    pub keys_are : AreReadKeys key_json is_key eq js m.keys
    pub pairs : List (K × V)
    pub pairs_are : AreReadPairs m.keys ds pairs
    pub stored : m.pairs ≡ under_listed eq m.keys pairs
    pub used : first_unused eq 0 m.keys (keys_of m.pairs) ≡ None

  -- the same where both arrays were to be found
  abbrev pub AreReadOf : Option (Items × Items) → Lists K V → Type 0
  AreReadOf None m = ⊥
  AreReadOf (Some both) m = AreReadLists both.0 both.1 m

  abbrev pub IsFaultOf : Option (Items × Items) → ReadFault → Type 0
  IsFaultOf None fault = fault ≡ NotVersion2
  IsFaultOf (Some both) fault = IsListsFault both.0 both.1 fault

  -- the lists are those of a JSON value: of an array they are built of its pairs, in order
  abbrev pub IsRead : Data → Lists K V → Type 0
  IsRead (array ds) m = IsReadFrom key_json value_json eq (array ds) m
  IsRead d m = AreReadOf (both_arrays d) m

  -- what is wrong with a JSON value
  abbrev pub IsFaultIn : Data → ReadFault → Type 0
  IsFaultIn (object ms) fault = IsFaultOf (both_arrays (object ms)) fault
  IsFaultIn d fault = fault_in is_key is_value d ≡ Some fault

-- nothing is wrong with the keys that these arrays hold, nor with the pairs by themselves
pub record AreAccepted (is_key is_value : Data → Bool) (both : Items × Items) : Type 0 where
  pub keys : each_item is_key both.0 ≡ true
  pub pairs : fault_in is_key is_value (array both.1) ≡ None
