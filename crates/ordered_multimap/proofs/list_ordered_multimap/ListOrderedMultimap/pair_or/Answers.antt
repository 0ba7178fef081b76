use Rattle.std.proofs.Common.{sym, ◌∙◌, true≢false}
use Rattle.multimap_walks.specs.Chained.{pair_at}
use Rattle.ordered_multimap.proofs.Agreement.Agreed.{pair_at-is}
use Rattle.ordered_multimap.proofs.KeySorts.Reordered.{item_or-listed, item_or-absent, same_item}
use Rattle.ordered_multimap.proofs.list_ordered_multimap.ListOrderedMultimap.pair_or.Goals.{then-is_listed, else-is_listed}
use Rattle.ordered_multimap.proofs.list_ordered_multimap.ListOrderedMultimap.pair_or.Goals as goal

pub returns : goal.returns
returns g c = λ p is.
    let keys = c.self.inside.keys in
    let values = c.self.inside.values.list in
    let at = c.value_at.ensures.slot in
    let here = pair_at-is keys values _ c.value_at.result.1 c.slot_at.result.0.now c.value_at.result.0.now at.link_is
    c.slot_at.ensures.item_is at.item_is in
    rw (← c.self.view_is) (elim c.if-is_listed.branch [
      | then-is_listed w ↦
          sym (item_or-listed (pair_at keys values) values.order p c.args.place _ (rw w.place-is at at.listed) (rw w.place-is at here))
      | else-is_listed w ↦
          same_item (rw w.place-is at here) (rw (← c.self.view_is) at is)
          ∙ sym (item_or-absent (pair_at keys values) values.order p c.args.place
          (λ i. true≢false (sym (c.is_listed.ensures.1 i) ∙ w.if-is_listed.false)))
    ])
