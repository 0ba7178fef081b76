-- Each listed value has a pair.
use Rattle.std.proofs.Common.{◌≡◌, ℕ, Option, Some, None, refl, ap, ◌∙◌}
use Rattle.std.specs.Prelude.{IsSome, option_and_then, option_map}
use Rattle.multimap_slots.specs.Lists.{IsIn}
use Rattle.multimap_slots.specs.Slots.{Slots, item_at, link_at, IsSound}
use Rattle.multimap_walks.specs.declared.links.KeyLink.{KeyLink}
use Rattle.multimap_walks.specs.declared.links.ValueLink.{ValueLink}
use Rattle.multimap_walks.specs.Chained.{key_of, pair_at, AreOwned}

module _ {K V : Type 0} (keys : Slots K KeyLink) (values : Slots V ValueLink) where
  -- a key and a value that are both there make a pair
  pair_there : (k : Option K) (v : Option V) → IsSome k → IsSome v
      → IsSome (option_and_then (λ (x : K). option_map (λ (y : V). let pair : K × V = (x, y) in pair) v) k)
  pair_there None v key value = absurd (cc)
  pair_there (Some x) None key value = absurd (cc)
  pair_there (Some x) (Some y) key value = refl

  key_there : (l : Option ValueLink) → IsSome l → ((m : ValueLink) → l ≡ Some m → IsSome (item_at keys m.key))
      → IsSome (option_and_then (λ (m : ValueLink). item_at keys m.key) l)
  key_there None some each = absurd (cc)
  key_there (Some m) some each = each m refl

  -- each listed value has a pair
  pub pair_some : IsSound keys → IsSound values → AreOwned keys values → (p : ℕ) → IsIn p values.order → IsSome (pair_at keys values p)
  pair_some sound_keys sound_values owned p is_listed =
      pair_there (key_of keys values p) (item_at values p)
      (key_there (link_at values p) (sound_values.linked p is_listed) (λ m is. sound_keys.filled m.key (owned p m is_listed is)))
      (sound_values.filled p is_listed)

  -- the key and the value of a place are its pair
  pub pair_is : (place : ℕ) (l : ValueLink) (k : K) (v : V) → link_at values place ≡ Some l → item_at keys l.key ≡ Some k
      → item_at values place ≡ Some v → pair_at keys values place ≡ Some (k, v)
  pair_is place l k v link key value =
      let pair : Option K → Option V → Option (K × V) =
      λ o w. option_and_then (λ (x : K). option_map (λ (y : V). let both : K × V = (x, y) in both) w) o in
      ap (λ o. pair (option_and_then (λ (m : ValueLink). item_at keys m.key) o) (item_at values place)) link
      ∙ ap (λ o. pair o (item_at values place)) key ∙ ap (pair (Some k)) value
