use Rattle.std.proofs.Common.{sym, ◌∙◌}
use Rattle.multimap_slots.specs.Slots.{item_at}
use Rattle.ordered_multimap.proofs.KeySorts.Reordered.{item_or-listed, item_or-absent, same_item, has-key}
use Rattle.ordered_multimap.proofs.list_ordered_multimap.ListOrderedMultimap.entry_or.Goals.{in-Some, in-None}
use Rattle.ordered_multimap.proofs.list_ordered_multimap.ListOrderedMultimap.entry_or.Goals as goal

pub returns-clause-key : goal.returns-clause-key
returns-clause-key g c = λ k is.
    let at = c.slot_at.ensures in
    let keys = c.self.inside.keys in
    let is' = rw (← c.self.view_is) at is in
    rw (← c.self.view_is) (elim c.match-get.branch [
      | in-Some w ↦
          let found = rw w.place-is at at in
          sym (item_or-listed (item_at keys) keys.order k c.args.place _ found.listed found.item_is)
      | in-None w ↦
          let found = rw w.place-is at at in
          same_item found.item_is is' ∙ sym (item_or-absent (item_at keys) keys.order k c.args.place w.in-None.ensures.absent)
    ])

pub returns-clause-values : goal.returns-clause-values
returns-clause-values g c =
    let at = c.slot_at.ensures in
    c.values_at.ensures.values c.slot_at.result.0.now
    (rw (← c.self.view_is) (has-key g.met.K.Eq.laws at.listed at.item_is))
