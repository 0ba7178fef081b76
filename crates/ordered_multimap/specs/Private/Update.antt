-- One pass over a key's values that writes them, step by step. No public clause cites this module.
use Rattle.std.specs.Prelude.{◌≡◌, ℕ, Bool, List, Option, Some}
use Rattle.std.specs.Borrow.{MutBor}
use Rattle.std.specs.Fn.{Mut}
use Rattle.std.specs.Ordering.{nat_cmp}
use Rattle.std.specs.FinMap.{FinMap}
use Rattle.multimap_slots.specs.Slots.{Slots, item_at, link_at, with_item}
use Rattle.multimap_slots.specs.Tapes.{Taped, with_list}
use Rattle.multimap_walks.specs.declared.links.KeyLink.{KeyLink}
use Rattle.multimap_walks.specs.declared.links.ValueLink.{ValueLink}
use Rattle.multimap_walks.specs.Chained.{chain_of, pairs_of, positions_at, values_at}
use Rattle.ordered_multimap.specs.Agrees.{Agrees}
use Rattle.ordered_multimap.specs.Private.Append.{KeepsTapeRoom}
use Rattle.ordered_multimap.specs.Updates.{Rewrites, RewritesEach, with_values_at}

-- keys, rows and values still agree where they did, and order, slots and counts are as they were
pub record KeepsAgreed {K V : Type 0} (eq : K → K → Bool) (keys : Slots K KeyLink)
    (rows : FinMap nat_cmp ℕ) (old new : Taped V ValueLink) : Type 0 where
  pub agrees : (hash : K → ℕ) → Agrees eq hash keys rows old.list
      → Agrees eq hash keys rows new.list
  pub order : new.list.order ≡ old.list.order
  pub room : KeepsTapeRoom old new

module _ {F V : Type 0} (g : Mut F (MutBor V × Unit {0}) (Unit {0} × (MutBor V × Unit {0}))) where
  -- a call on the value at the place has written it, and the next place is that of its link
  pub record RewritesOne (values values_after : Taped V ValueLink) (place : ℕ) (f f' : F)
      (next : Option ℕ) : Type 0 where
    pub link : ValueLink
    pub link_is : link_at values.list place ≡ Some link
    pub next_is : next ≡ link.next
    pub was : V
    pub was_is : item_at values.list place ≡ Some was
    pub left : V
    pub called : Rewrites g f was left f'
    pub written : values_after ≡ with_list values (with_item values.list place left)

  module _ {K : Type 0} (keys : Slots K KeyLink) (old : Slots V ValueLink) (key : ℕ) where
    -- one call on each value of the key at the place, and what it left stands at its position
    pub record RewritesAt (f : F) (new : List (K × V)) (last : F) : Type 0 where
      pub values : List V
      pub each : RewritesEach g f (values_at old (chain_of old key)) values last
      pub pairs : new
          ≡ with_values_at (pairs_of keys old) (positions_at old (chain_of old key)) values
