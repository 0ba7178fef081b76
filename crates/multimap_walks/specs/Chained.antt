-- What the links of keys and values must name, and the pairs that the two slot lists mean.
use Rattle.std.specs.Prelude.{◌≡◌, ◌==◌, ℕ, suc, Bool, true, false, List, [], ◌∷◌, length, filter}
use Rattle.std.specs.Prelude.{map, Option, Some, IsSome, option_and_then, option_map, unwrap_or}
use Rattle.std.specs.Prelude.{if◌then◌else◌}
use Rattle.std.specs.List.{filter_map}
use Rattle.multimap_slots.specs.Lists.{IsIn, first_of, last_of, next_of, previous_of}
use Rattle.multimap_slots.specs.Slots.{Slots, IsDetached, item_at, link_at}
use Rattle.multimap_walks.specs.declared.links.KeyLink.{KeyLink}
use Rattle.multimap_walks.specs.declared.links.ValueLink.{ValueLink}
use Rattle.multimap_walks.specs.Path.{path, IsPath}

-- how many places of the list stand before the place
abbrev pub position_in : List ℕ → ℕ → ℕ
position_in [] p = 0
position_in (q ∷ order) p = if q == p then 0 else suc (position_in order p)

module _ {V : Type 0} (values : Slots V ValueLink) where
  -- whether the value at the place is one of the key's
  abbrev pub is_value_of : ℕ → ℕ → Bool
  is_value_of key place = unwrap_or (option_map (λ l. l.key == key) (link_at values place)) false

  -- the places of a key's values, in order: its chain
  abbrev pub chain_of : ℕ → List ℕ
  chain_of key = filter (is_value_of key) values.order

  -- the items at places
  abbrev pub values_at : List ℕ → List V
  values_at places = filter_map (item_at values) places

  -- the positions of places among all of the list
  abbrev pub positions_at : List ℕ → List ℕ
  positions_at places = map (position_in values.order) places

  -- the place of the next value of the same key, by the link of a place
  abbrev pub next_place : ℕ → Option ℕ
  next_place place = option_and_then (λ l. l.next) (link_at values place)

  -- and of the value before it
  abbrev pub previous_place : ℕ → Option ℕ
  previous_place place = option_and_then (λ l. l.previous) (link_at values place)

  -- n places from the front on, along the links
  abbrev pub places_along : ℕ → ℕ → List ℕ
  places_along front n = path next_place front n

  -- their positions, where they are listed; detached places have none
  abbrev pub positions_left : Bool → List ℕ → List ℕ
  positions_left detached places = if detached then [] else positions_at places

  -- an item stands at the place, which is detached or else listed
  abbrev pub Stands : Bool → ℕ → Type 0
  Stands true place = IsDetached values place
  Stands false place = IsIn place values.order × IsSome (item_at values place)

  -- n places that links join from the front to the back, all detached or all listed
  abbrev pub IsChain : Bool → ℕ → ℕ → ℕ → Type 0
  IsChain detached front back n = IsPath (Stands detached) next_place previous_place front back n

  -- detached values, each of which names its neighbours among them
  abbrev pub IsDetachedChain : ℕ → ℕ → ℕ → Type 0
  IsDetachedChain front back n = IsPath (IsDetached values) next_place previous_place front back n

module _ {K V : Type 0} (keys : Slots K KeyLink) (values : Slots V ValueLink) where
  -- the key whose value stands at the place
  abbrev pub key_of : ℕ → Option K
  key_of place = option_and_then (λ l. item_at keys l.key) (link_at values place)

  -- the key and the value at the place
  abbrev pub pair_at : ℕ → Option (K × V)
  pair_at place =
      option_and_then (λ k. option_map (λ v. (k, v)) (item_at values place)) (key_of place)

  -- all pairs, in the order of the values
  abbrev pub pairs_of : List (K × V)
  pairs_of = filter_map pair_at values.order

  -- each value's key is listed
  abbrev pub AreOwned : Type 0
  AreOwned = (place : ℕ) (l : ValueLink) → IsIn place values.order
      → link_at values place ≡ Some l → IsIn l.key keys.order

  -- each value's key is listed; a key's link names the ends and the length of its chain, a value's
  -- link its neighbours there
  pub record IsChained : Type 0 where
    pub owned : AreOwned
    pub head : (key : ℕ) (l : KeyLink) → IsIn key keys.order
        → link_at keys key ≡ Some l → first_of (chain_of values key) ≡ Some l.head
    pub tail : (key : ℕ) (l : KeyLink) → IsIn key keys.order
        → link_at keys key ≡ Some l → last_of (chain_of values key) ≡ Some l.tail
    pub length : (key : ℕ) (l : KeyLink) → IsIn key keys.order
        → link_at keys key ≡ Some l → length (chain_of values key) ≡ l.length
    pub previous : (place : ℕ) (l : ValueLink) → IsIn place values.order
        → link_at values place ≡ Some l → previous_of (chain_of values l.key) place ≡ l.previous
    pub next : (place : ℕ) (l : ValueLink) → IsIn place values.order
        → link_at values place ≡ Some l → next_of (chain_of values l.key) place ≡ l.next
