use Rattle.std.proofs.Common.{sym, ap, ◌∙◌}
use Rattle.ordered_multimap.specs.Lists.{empty_lists}
use Rattle.set_ordered_multimap.proofs.Callers.FirstPairs.{all_inserted-push}
use Rattle.set_ordered_multimap.specs.Set.{set_inserted}
use Rattle.set_ordered_multimap_tests.proofs.tests.callers.gathered.Goals as goal

pub loop-key-preserved : goal.loop-key-preserved
loop-key-preserved g c =
    let eq = g.K.PartialEq.eq in let value_eq = g.V.PartialEq.eq in
    let key = c.in-Some.key in let value = c.in-Some.value in
    let e = c.in_ok-insert.ensures in (
      e.lists ∙ ap (λ m. set_inserted eq value_eq m key value) c.loop-key.invariant.0
          ∙ sym (all_inserted-push eq value_eq empty_lists c.loop-key.yielded key value),
      e.set c.loop-key.invariant.1,
    )
