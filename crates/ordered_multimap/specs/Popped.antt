-- A pop: the first or the last pair goes.
use Rattle.std.specs.Prelude.{Bool, not, cond, List, Option, option_map}
use Rattle.std.specs.Map.{keys_of}
use Rattle.multimap_walks.specs.declared.End.{End}
use Rattle.multimap_walks.specs.Walk.{end_item, end_rest}
use Rattle.ordered_multimap.specs.Lists.{Lists}
use Rattle.ordered_multimap.specs.Pairs.{has_items}
use Rattle.ordered_multimap.specs.Keys.{is_listed}
use Rattle.ordered_multimap.specs.Changes.{kept}

-- what a pop returns: the pair, and whether its key went with its last value
pub record Popped (K V : Type 0) : Type 0 where
  pub owned : Bool
  pub key : K
  pub value : V

module _ {K : Type 0} (eq : K → K → Bool) {V : Type 0} where
  -- the result of a pop at an end, or none where there is no pair
  abbrev pub popped_pair : End → List (K × V) → Option (Popped K V)
  popped_pair end pairs =
      let owned : K → Bool = λ k. not (is_listed eq (keys_of (end_rest end pairs)) k) in
      option_map (λ p. record { owned = owned p.0; key = p.0; value = p.1 }) (end_item end pairs)

  -- the lists after a pop at an end: without a pair nothing changes
  abbrev pub popped : End → Lists K V → Lists K V
  popped end m = cond (has_items m.pairs) (kept eq m (end_rest end m.pairs)) m
