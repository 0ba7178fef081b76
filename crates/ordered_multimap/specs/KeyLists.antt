-- The keys of a map, each with a walk over its values.
use Rattle.std.specs.Prelude.{Bool, List, map}
use Rattle.multimap_walks.specs.ChainWalk.{ChainWalk}
use Rattle.ordered_multimap.specs.Lists.{Lists}
use Rattle.ordered_multimap.specs.Pairs.{positions_of, values_of}

module _ {K : Type 0} (eq : K → K → Bool) {V : Type 0} where
  -- a key with the walk over its values, which has read none of them yet
  abbrev pub with_values : List (K × V) → K → K × ChainWalk V
  with_values pairs k = (
    k,
    record {
      left = values_of eq pairs k;
      positions = positions_of eq pairs k;
      reads = 0;
    },
  )

  -- each of some keys with the iterator over its values
  abbrev pub each_with_values : List (K × V) → List K → List (K × ChainWalk V)
  each_with_values pairs keys = map (with_values pairs) keys

  -- all keys, in their order
  abbrev pub keys_with_values : Lists K V → List (K × ChainWalk V)
  keys_with_values m = each_with_values m.pairs m.keys
