use Rattle.std.proofs.Common.{arith}
use Rattle.ordered_multimap.proofs.list_ordered_multimap.clone.steps.cloned_by_ranks.Goals as goal

pub clone_into-requires-clause-new_places : goal.clone_into-requires-clause-new_places
clone_into-requires-clause-new_places g c =
    λ q listed. omega (arith, c.used_slots.ensures.above q listed, c.in_ok-storage.ensures.new_places)
