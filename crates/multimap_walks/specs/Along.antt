-- What a walk along the order of a list has left, from both ends.
use Rattle.std.specs.Prelude.{ℕ, List, Option, IsSome, length, unwrap_or}
use Rattle.std.specs.List.{filter_map}
use Rattle.multimap_slots.specs.Lists.{IsIn, first_of, last_of, next_of, previous_of}
use Rattle.multimap_walks.specs.declared.End.{End}
use Rattle.multimap_walks.specs.declared.links.ChainEnds.{ChainEnds}
use Rattle.multimap_walks.specs.Ends.{step_from}
use Rattle.multimap_walks.specs.Path.{path, IsPath}

module _ (order : List ℕ) where
  -- all places of the order
  abbrev pub all_places : ChainEnds
  all_places = record {
    first = unwrap_or (first_of order) 0;
    last = unwrap_or (last_of order) 0;
    length = length order;
  }

  -- the place that a step from an end reaches
  abbrev pub neighbour_of : End → ℕ → Option ℕ
  neighbour_of end = step_from end (next_of order) (previous_of order)

  -- the places of the order that are left
  abbrev pub places_left : ChainEnds → List ℕ
  places_left left = path (next_of order) left.first left.length

  -- so many places of the order are left, from the first to the last
  abbrev pub AreLeft : ChainEnds → Type 0
  AreLeft left = IsPath (λ place. IsIn place order) (next_of order) (previous_of order)
      left.first left.last left.length

  module _ {X : Type 0} (item_of : ℕ → Option X) where
    -- what is shown at the places that are left
    abbrev pub items_left : ChainEnds → List X
    items_left left = filter_map item_of (places_left left)

    -- places of the order are left, and each place of it shows an item
    pub record IsAlong (left : ChainEnds) : Type 0 where
      pub shown : (place : ℕ) → IsIn place order → IsSome (item_of place)
      pub are_left : AreLeft left
