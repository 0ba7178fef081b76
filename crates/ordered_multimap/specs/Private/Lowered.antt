-- Values that all go down by one distance, with the links that name them. No public clause cites
-- this module.
use Rattle.std.specs.Prelude.{◌≡◌, ◌≢◌, ℕ, zero, suc, ◌+◌, ◌-◌, ◌≤◌, ◌<◌, List, [], ◌∷◌, ◌++◌}
use Rattle.std.specs.Prelude.{map, length, option_map, Some, IfSome}
use Rattle.multimap_slots.specs.Lists.{IsIn, places_below}
use Rattle.multimap_slots.specs.Slots.{Slots, item_at, link_at, with_link}
use Rattle.multimap_walks.specs.declared.links.KeyLink.{KeyLink}
use Rattle.multimap_walks.specs.declared.links.ValueLink.{ValueLink}
use Rattle.ordered_multimap.specs.Private.Relocations.{relocated, relocated_key, relocated_value}

-- so many places in a row, from this one on
abbrev pub places_on : ℕ → ℕ → List ℕ
places_on first zero = []
places_on first (suc n) = first ∷ places_on (suc first) n

module _ (by : ℕ) where
  -- the place that is so much lower
  abbrev pub lowered : ℕ → ℕ
  lowered p = p - by

  -- the places that the link names are so high
  pub record NamesHigh (l : ValueLink) : Type 0 where
    pub previous : IfSome l.previous (λ p. by ≤ p)
    pub next : IfSome l.next (λ p. by ≤ p)

  pub record NamesHighEnds (l : KeyLink) : Type 0 where
    pub head : by ≤ l.head
    pub tail : by ≤ l.tail

  -- what the link names is lower
  abbrev pub lowered_previous : ValueLink → ValueLink
  lowered_previous l = record l { previous = option_map lowered l.previous }

  abbrev pub lowered_next : ValueLink → ValueLink
  lowered_next l = record l { next = option_map lowered l.next }

  -- one value has gone down to the place, and its link names lower places
  pub record LowersValue {V : Type 0} (old new : Slots V ValueLink) (to : ℕ) : Type 0 where
    pub order : new.order ≡ map (relocated (by + to) to) old.order
    pub item_is : item_at new to ≡ item_at old (by + to)
    pub link_is : (l : ValueLink) → link_at old (by + to) ≡ Some l
        → link_at new to ≡ Some (relocated_value lowered l)
    pub items : (q : ℕ) → q ≢ by + to → q ≢ to → item_at new q ≡ item_at old q
    pub links : (q : ℕ) → q ≢ to → link_at new q ≡ link_at old q

  -- the first n values have, to the first places, and the others are as they were
  pub record LowersFirst {V : Type 0} (old new : Slots V ValueLink) (n : ℕ) : Type 0 where
    pub left : ℕ
    pub counted : n + left ≡ length old.order
    pub order : new.order ≡ places_below n ++ places_on (by + n) left
    pub items : (k : ℕ) → k < n → item_at new k ≡ item_at old (by + k)
    pub links : (k : ℕ) (l : ValueLink) → k < n → link_at old (by + k) ≡ Some l
        → link_at new k ≡ Some (relocated_value lowered l)
    pub items_left : (q : ℕ) → by + n ≤ q → item_at new q ≡ item_at old q
    pub links_left : (q : ℕ) → by + n ≤ q → link_at new q ≡ link_at old q

  -- the key's link names lower places
  pub record LowersKey {K : Type 0} (old new : Slots K KeyLink) (place : ℕ) : Type 0 where
    pub link : (l : KeyLink) → link_at old place ≡ Some l
        → new ≡ with_link old place (relocated_key lowered l)
    pub capacity : new.capacity ≡ old.capacity

  -- each key's link does
  pub record LowersKeys {K : Type 0} (old new : Slots K KeyLink) : Type 0 where
    pub rest : new ≡ record old { links = new.links }
    pub links : (q : ℕ) (l : KeyLink) → IsIn q old.order → link_at old q ≡ Some l
        → link_at new q ≡ Some (relocated_key lowered l)
