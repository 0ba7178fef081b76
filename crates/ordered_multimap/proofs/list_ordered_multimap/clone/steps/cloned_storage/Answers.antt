use Rattle.std.proofs.Common.{arith}
use Rattle.ordered_multimap.proofs.Clone.NoHoles.{all_dense, no_holes}
use Rattle.ordered_multimap.proofs.list_ordered_multimap.clone.steps.cloned_storage.Goals as goal

pub cloned_by_ranks-requires-clause-ranks : goal.cloned_by_ranks-requires-clause-ranks
cloned_by_ranks-requires-clause-ranks g c =
    no_holes c.args.values.now.list.order c.len.ensures.rises
    (λ q i. omega (arith, c.push_place.ensures.within q i, c.if-push_place-len.true, c.len.ensures.len))

pub cloned_in_place-requires-clause-keys_dense : goal.cloned_in_place-requires-clause-keys_dense
cloned_in_place-requires-clause-keys_dense g c = c.is_dense.ensures.0 c.if-is_dense.true

pub cloned_in_place-requires-clause-values_dense : goal.cloned_in_place-requires-clause-values_dense
cloned_in_place-requires-clause-values_dense g c =
    all_dense c.args.values.now.list.order c.len.ensures.rises
    (λ q i. omega (arith, c.push_place.ensures.within q i, c.if-push_place-len.true, c.len.ensures.len))
