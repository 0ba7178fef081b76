-- What a walk over the keys with their values shows.
use Rattle.std.specs.Prelude.{ℕ, Option, option_map}
use Rattle.std.specs.Borrow.{Bor}
use Rattle.multimap_slots.specs.Slots.{Slots, item_at}
use Rattle.multimap_walks.specs.declared.links.ChainEnds.{ChainEnds}
use Rattle.multimap_walks.specs.declared.links.KeyLink.{KeyLink}
use Rattle.multimap_walks.specs.declared.links.ValueLink.{ValueLink}
use Rattle.multimap_walks.specs.Along.{IsAlong}
use Rattle.multimap_walks.specs.ChainWalk.{ChainWalk}
use Rattle.multimap_walks.specs.Chained.{IsChained, chain_of, positions_at, values_at}

-- a walk over all values of the key at a place, which has read none of them yet
abbrev pub whole_walk : {V : Type 0} → Slots V ValueLink → ℕ → ChainWalk V
whole_walk values key = record {
  left = values_at values (chain_of values key);
  positions = positions_at values (chain_of values key);
  reads = 0;
}

-- what a `&K` next to another value shows
abbrev pub deref_key : {K X : Type 0} → Bor K × X → K × X
deref_key p = (p.0.now, p.1)

module _ {K V : Type 0} (keys : Slots K KeyLink) (values : Slots V ValueLink) where
  -- the key at the place, with the iterator over its values
  abbrev pub key_values_at : ℕ → Option (K × ChainWalk V)
  key_values_at place = option_map (λ k. (k, whole_walk values place)) (item_at keys place)

  -- a walk along the list of keys of two slot lists whose links are chained
  pub record IsKeyWalk (left : ChainEnds) : Type 0 where
    pub chained : IsChained keys values
    pub along : IsAlong keys.order key_values_at left
