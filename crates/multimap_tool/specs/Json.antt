-- JSON values of keys, values and maps: which are read, as what, and what is wrong with the others.
use Rattle.std.specs.Prelude.{◌≡◌, ℕ, suc, ◌^◌, ◌&&◌, ◌==◌, neg_ℤ, pos, Bool, true, false, cond}
use Rattle.std.specs.Prelude.{List, map, length, nat_lt, int_lt, int_le, Option, Some, None}
use Rattle.std.specs.Cmp.Lexicographic.{pointwise}
use Rattle.std.specs.Option.{option_or}
use Rattle.std.specs.Str.{chars}
use Rattle.serde_json.specs.Data.{Data, number, unsigned, negative, boolean, string, array}
use Rattle.serde_json.specs.Data.{Items, no_items, item}
use Rattle.serde_json.specs.View.{items_of}
use Rattle.ordered_multimap.specs.Lists.{Lists}
use Rattle.ordered_multimap.specs.Changes.{appended, built_from}
use Rattle.ordered_multimap.specs.Pairs.{same_pairs}
use Rattle.multimap_tool.specs.declared.json.faults.ReadFault.{ReadFault}
use Rattle.multimap_tool.specs.declared.json.faults.ReadFault.TheVariants.{NotArray, NotPair}
use Rattle.multimap_tool.specs.declared.json.faults.ReadFault.TheVariants.{BadKey, BadValue}
use Rattle.multimap_tool.specs.declared.json.faults.ReadFault.TheVariants.{OutOfMemory}

-- a whole number of so many bits, and one with a sign beside so many bits
abbrev pub is_unsigned : ℕ → Data → Bool
is_unsigned bits (number (unsigned n)) = nat_lt n (2 ^ bits)
is_unsigned bits d = false

abbrev pub is_signed : ℕ → Data → Bool
is_signed bits (number (unsigned n)) = nat_lt n (2 ^ bits)
is_signed bits (number (negative z)) = int_le (neg_ℤ (pos (2 ^ bits))) z && int_lt z (pos 0)
is_signed bits d = false

abbrev pub is_truth : Data → Bool
is_truth (boolean b) = true
is_truth d = false

-- a text of one character
abbrev pub is_character : Data → Bool
is_character (string s) = length (chars s) == 1
is_character d = false

abbrev pub is_text : Data → Bool
is_text (string s) = true
is_text d = false

module _ {K V : Type 0} (key_json : K → Data) (value_json : V → Data) where
  -- an array of the key and the value
  abbrev pub pair_json : K × V → Data
  pair_json p = array (item (key_json p.0) (item (value_json p.1) no_items))

  -- an array with one such array for each pair, in order
  abbrev pub pairs_json : List (K × V) → Data
  pairs_json pairs = array (items_of (map pair_json pairs))

  -- different keys have different JSON values, and different values too
  pub record DifferAsJson : Type 0 where
    pub keys : (k j : K) → key_json k ≡ key_json j → k ≡ j
    pub values : (v w : V) → value_json v ≡ value_json w → v ≡ w

  -- the lists are built of the pairs of this JSON value, in order
  abbrev pub IsReadFrom : (K → K → Bool) → Data → Lists K V → Type 0
  IsReadFrom eq d m = (pairs : List (K × V)) × (d ≡ pairs_json pairs) × (m ≡ built_from eq pairs)

  -- the pair of this JSON value is appended
  abbrev pub AppendsRead : (K → K → Bool) → Data → Lists K V → Lists K V → Type 0
  AppendsRead eq d m n = (pair : K × V) × (d ≡ pair_json pair) × (n ≡ appended eq m pair.0 pair.1)

-- unequal keys, or unequal values, have different JSON values
abbrev pub UnequalDiffer : {X : Type 0} → (X → Data) → (X → X → Bool) → Type 0
UnequalDiffer {X} json eq = (x y : X) → json x ≡ json y → eq x y ≡ true

-- as many keys and as many pairs, and at each position equal ones
pub record AreEqualLists {K V : Type 0} (eq : K → K → Bool) (value_eq : V → V → Bool)
    (m n : Lists K V) : Type 0 where
  pub keys : pointwise eq m.keys n.keys ≡ true
  pub pairs : same_pairs eq value_eq m.pairs n.pairs ≡ true

module _ (is_key is_value : Data → Bool) where
  -- what is wrong with the item at a position: that it is no array of two, else that its first part
  -- is no key, else that its second is no value
  abbrev pub item_fault : ℕ → Data → Option ReadFault
  item_fault i (array (item key (item value no_items))) =
      cond (is_key key) (cond (is_value value) None (Some (BadValue i))) (Some (BadKey i))
  item_fault i d = Some (NotPair i)

  -- what is wrong with the first bad one of items that stand from a position on
  abbrev pub first_fault : ℕ → Items → Option ReadFault
  first_fault i no_items = None
  first_fault i (item d ds) = option_or (item_fault i d) (first_fault (suc i) ds)

  -- what is wrong with a JSON value; nothing if it is one of pairs
  abbrev pub fault_in : Data → Option ReadFault
  fault_in (array ds) = first_fault 0 ds
  fault_in d = Some NotArray

-- a fault of this kind, or out of memory
abbrev pub UnlessMemory : (ReadFault → Type 0) → ReadFault → Type 0
UnlessMemory IsFault OutOfMemory = Unit {0}
UnlessMemory IsFault fault = IsFault fault

-- a fault is the one that was to be found, unless memory was wanting
abbrev pub IsFound : Option ReadFault → ReadFault → Type 0
IsFound found = UnlessMemory (λ fault. found ≡ Some fault)
