use Rattle.ordered_multimap.proofs.Agreement.Agreed.{empty_map, lists_of-empty}
use Rattle.ordered_multimap.proofs.list_ordered_multimap.ListOrderedMultimap.with_hasher.Goals as goal

pub invariant_of-result : goal.invariant_of-result
invariant_of-result g c =
    let v = c.with_form.ensures.unused in empty_map _ _ _ _ _ c.new.ensures.empty v.empty c.new-2.ensures.empty v.moved v.holes

pub returns-clause-new : goal.returns-clause-new
returns-clause-new g c =
    let v = c.with_form.ensures.unused in
    record {
      empty = lists_of-empty _ _ c.new.ensures.empty v.empty;
      unused = record { moved = v.moved; freed = v.freed; holes = v.holes };
    }
