-- A step of the iterator that takes a map apart. No public clause cites this module.
use Rattle.std.specs.Prelude.{◌≡◌, ◌-◌, ◌<◌, ◌≤◌, ℕ, Option, Some, MatchOption}
use Rattle.multimap_slots.specs.Lists.{IsIn}
use Rattle.multimap_slots.specs.Slots.{HasSlot, IsSound, Removes, Slots, with_link}
use Rattle.multimap_walks.specs.declared.links.KeyLink.{KeyLink}
use Rattle.multimap_walks.specs.declared.links.ValueLink.{ValueLink}
use Rattle.ordered_multimap.specs.IntoIters.{IsCounted}

-- a value is listed at the place, among values of keys that are counted
pub record IsCountedAt {K V : Type 0} (keys : Slots K KeyLink) (values : Slots V ValueLink)
    (place : ℕ) : Type 0 where
  pub listed : IsIn place values.order
  pub sound : IsSound values
  pub counted : IsCounted keys values

-- a key with one value has left; one with several has one less, and is cloned if memory allows
pub record GivesKey {K : Type 0} (is_clone : K → K → Type 0) (is_infallible : K → Type 0)
    (old new : Slots K KeyLink) (place : ℕ) (given : Option K) : Type 0 where
  pub key : K
  pub link : KeyLink
  pub was : HasSlot old place key link
  pub last : link.length < 2 → Removes old new place key × (given ≡ Some key)
  pub more : 2 ≤ link.length
      → (new ≡ with_link old place (record link { length = link.length - 1 }))
      × MatchOption given (¬ is_infallible key) (is_clone key)
