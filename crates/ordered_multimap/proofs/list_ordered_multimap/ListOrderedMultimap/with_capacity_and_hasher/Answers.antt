use Rattle.std.proofs.Common.{refl, arith}
use Rattle.ordered_multimap.proofs.Agreement.Agreed.{empty_map, lists_of-empty}
use Rattle.ordered_multimap.proofs.list_ordered_multimap.ListOrderedMultimap.with_capacity_and_hasher.Goals as goal

pub invariant_of-result : goal.invariant_of-result
invariant_of-result g c =
    let v = c.in_ok-values.ensures.unused in
    empty_map _ _ _ _ _ c.in_ok-keys.ensures.empty v.empty c.in_ok-table.ensures.empty v.moved v.holes

pub returns-clause-starts : goal.returns-clause-starts
returns-clause-starts g c =
    let v = c.in_ok-values.ensures.unused in
    record {
      new = record {
        new = record {
          empty = lists_of-empty _ _ c.in_ok-keys.ensures.empty v.empty;
          unused = record { moved = v.moved; freed = v.freed; holes = v.holes };
        };
        key_room = omega (arith, c.in_ok-keys.ensures.room, c.in_ok-table.ensures.room);
        value_room = c.in_ok-values.ensures.room;
      };
      succeeds = λ no_key no_value. refl;
    }
