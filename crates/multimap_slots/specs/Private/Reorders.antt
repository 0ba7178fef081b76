-- Places that are put in another order. No public clause cites this module.
use Rattle.std.specs.Prelude.{◌≡◌, ℕ, List, Option, None, get_or}
use Rattle.multimap_slots.specs.declared.order.node.Node.{Node}
use Rattle.multimap_slots.specs.Lists.{IsIn}
use Rattle.multimap_slots.specs.Private.Paths.{after, IsPath}
use Rattle.multimap_slots.specs.Private.ListLayout.{nexts, previouses, states, links}

-- the places are linked in this order, and nothing changes but what stands around them
pub record LinksInOrder {L : Type 0} (old new : List (Node L)) (front back : Option ℕ)
    (places : List ℕ) : Type 0 where
  pub path : IsPath (after front (nexts new)) (after back (previouses new)) None places
  pub others : (p : ℕ) → ¬ IsIn p places → get_or (nexts new) p None ≡ get_or (nexts old) p None
  pub states : states new ≡ states old
  pub links : links new ≡ links old
