-- Values that leave the list together and are kept in their slots, for a drain to take. Of the
-- slots that a drain names, clauses on contents show the values alone.
use Rattle.std.specs.Prelude.{◌≡◌, ℕ, List, [], None, reverse, IfSome}
use Rattle.multimap_slots.specs.Lists.{AreDistinct, IsIn, last_of}
use Rattle.multimap_slots.specs.Slots.{IsDetached, Slots, item_at, link_at}
use Rattle.multimap_walks.specs.declared.links.ChainEnds.{ChainEnds}
use Rattle.multimap_walks.specs.declared.links.ValueLink.{ValueLink}
use Rattle.multimap_walks.specs.Chained.{next_place, places_along}
use Rattle.multimap_walks.specs.Chained.{previous_place, values_at}
use Rattle.multimap_walks.specs.Path.{Leads}
use Rattle.ordered_multimap.specs.Multimap.{Multimap}

-- the places of detached values, in order
abbrev pub drained_places : {V : Type 0} → Slots V ValueLink → ChainEnds → List ℕ
drained_places values ends = places_along values ends.first ends.length

-- detached values from the first place to the last, each at a place of its own, and each names its
-- neighbours among them
pub record IsDrained {V : Type 0} (values : Slots V ValueLink) (ends : ChainEnds) : Type 0 where
  pub onward : Leads (next_place values) (drained_places values ends)
  pub backward : Leads (previous_place values) (reverse (drained_places values ends))
  pub last : IfSome (last_of (drained_places values ends)) (λ p. p ≡ ends.last)
  pub distinct : AreDistinct (drained_places values ends)
  pub there : (p : ℕ) → IsIn p (drained_places values ends) → IsDetached values p

-- those values, in order
abbrev pub drained : {V : Type 0} → Slots V ValueLink → ChainEnds → List V
drained values ends = values_at values (drained_places values ends)

module _ {K V S : Type 0} where
  -- the values that are left of a drain that borrows the map
  abbrev pub left_of : Multimap K V S → List V
  left_of m = drained m.slots.values m.slots.left

  -- and that they stand where the map keeps that they do
  abbrev pub HoldsDrain : Multimap K V S → Type 0
  HoldsDrain m = IsDrained m.slots.values m.slots.left

-- only what is left of a drain may differ
pub record KeepsListed {K V S : Type 0} (old new : Multimap K V S) : Type 0 where
  pub lists : new.lists ≡ old.lists
  pub key_room : new.key_room ≡ old.key_room
  pub value_room : new.value_room ≡ old.value_room
  pub hasher : new.hasher ≡ old.hasher
  pub tape : new.tape ≡ old.tape

-- the map still keeps where the values stand that are left of a drain, and only these may differ
pub record LeavesDrain {K V S : Type 0} (old new : Multimap K V S) : Type 0 where
  pub holds : HoldsDrain new
  pub kept : KeepsListed old new

-- only what was left of a drain may differ, and nothing is left of it now
pub record EndsDrain {K V S : Type 0} (old new : Multimap K V S) : Type 0 where
  pub drain : LeavesDrain old new
  pub none : left_of new ≡ []

-- no item stands at the places of detached values any more
abbrev pub AreDropped : {V : Type 0} → Slots V ValueLink → ChainEnds → Slots V ValueLink → Type 0
AreDropped old ends new = (p : ℕ) → IsIn p (drained_places old ends) → item_at new p ≡ None

-- no item is at a place that the drain still held
abbrev pub DropsRest : {K V S : Type 0} → Multimap K V S → Multimap K V S → Type 0
DropsRest old new = AreDropped old.slots.values old.slots.left new.slots.values

-- the list is the same, with each item and each link of it; what is detached may differ
pub record KeepsSlots {V : Type 0} (old new : Slots V ValueLink) : Type 0 where
  pub order : new.order ≡ old.order
  pub items : (q : ℕ) → IsIn q old.order → item_at new q ≡ item_at old q
  pub links : (q : ℕ) → IsIn q old.order → link_at new q ≡ link_at old q
