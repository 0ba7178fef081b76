-- The place of a key's first value. No public clause cites this module.
use Rattle.std.specs.Prelude.{◌≡◌, ℕ, Bool}
use Rattle.multimap_slots.specs.Lists.{IsIn}
use Rattle.multimap_slots.specs.Slots.{Slots}
use Rattle.multimap_walks.specs.declared.links.KeyLink.{KeyLink}
use Rattle.ordered_multimap.specs.Agrees.{HasKey}
use Rattle.ordered_multimap.specs.Writes.{head_at}

-- the first value of a listed key is at this place
pub record IsHead {K : Type 0} (keys : Slots K KeyLink) (head : ℕ) : Type 0 where
  pub place : ℕ
  pub listed : IsIn place keys.order
  pub head_is : head ≡ head_at keys place

-- the first value of a key that is equal to this one is at this place
pub record HasHead {K : Type 0} (eq : K → K → Bool) (keys : Slots K KeyLink) (k : K) (head : ℕ)
    : Type 0 where
  pub place : ℕ
  pub has : HasKey eq keys k place
  pub head_is : head ≡ head_at keys place
