use Rattle.std.proofs.Common.{◌≡◌, subst}
use Rattle.ordered_multimap.specs.Agrees.{HasKey}
use Rattle.ordered_multimap.specs.Keys.{stored_key}
use Rattle.ordered_multimap.proofs.Agreement.LookUps.{stored_at}
use Rattle.ordered_multimap.proofs.list_ordered_multimap.ListOrderedMultimap.key_at.Goals as goal

pub returns-clause-own : goal.returns-clause-own
returns-clause-own g c =
    subst (λ m. HasKey g.K.PartialEq.eq m.slots.keys c.slot_at.result.0.now c.args.place) c.self.view_is
    (record {
      listed = c.slot_at.ensures.listed;
      stored = c.slot_at.result.0.now;
      item_is = c.slot_at.ensures.item_is;
      equal = g.met.K.Eq.laws.refl c.slot_at.result.0.now;
    })

pub returns-clause-stored : goal.returns-clause-stored
returns-clause-stored g c =
    subst (λ m. (k : g.row.K.Denot) → HasKey g.K.PartialEq.eq m.slots.keys k c.args.place
    → c.slot_at.result.0.now ≡ stored_key g.K.PartialEq.eq m.lists.keys k) c.self.view_is
    (λ k has. stored_at g.met.K.Eq.laws c.self.invariant.agrees k c.args.place c.slot_at.result.0.now has c.slot_at.ensures.item_is)
