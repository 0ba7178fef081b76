use Rattle.std.proofs.Common.{◌≡◌, slice_get, subst}
use Rattle.ordered_multimap.specs.Agrees.{HasKey, lists_of}
use Rattle.ordered_multimap.specs.OneValue.{index_removed}
use Rattle.ordered_multimap.specs.Pairs.{values_of}
use Rattle.ordered_multimap.proofs.Append.Appended.{stays_paid}
use Rattle.ordered_multimap.proofs.Remove.OneValueOut.{agrees-out, fits-out, lists_of-out, value_is-out}
use Rattle.ordered_multimap.proofs.list_ordered_multimap.ListOrderedMultimap.take_index_at.Goals as goal

pub invariant_of-self : goal.invariant_of-self
invariant_of-self g c =
    let t = c.take_indexed.ensures in let laws = g.met.K.Eq.laws in let agrees = c.self.invariant.agrees in
    record {
      agrees = agrees-out laws _ _ _ agrees c.args.place c.args.index _ _ _ c.take_indexed.result t.taken;
      fits = fits-out laws _ _ _ agrees c.args.place c.args.index _ _ _ c.take_indexed.result t.taken c.self.invariant.fits;
      paid = stays_paid t.counts c.self.invariant.paid;
    }

pub returns-clause-value : goal.returns-clause-value
returns-clause-value g c =
    subst (λ m. (k : g.row.K.Denot) → HasKey g.K.PartialEq.eq m.slots.keys k c.args.place
    → c.take_indexed.result ≡ slice_get (values_of g.K.PartialEq.eq m.lists.pairs k) c.args.index) c.self.view_is
    (λ k has. value_is-out g.met.K.Eq.laws _ _ _ c.self.invariant.agrees c.args.place c.args.index _ _ _ k has c.take_indexed.result
    c.take_indexed.ensures.taken)

pub returns-clause-lists : goal.returns-clause-lists
returns-clause-lists g c =
    subst (λ m. (k : g.row.K.Denot) → HasKey g.K.PartialEq.eq m.slots.keys k c.args.place
    → lists_of c.take_indexed.new.keys c.take_indexed.new.values.list
    ≡ index_removed g.K.PartialEq.eq (g.K.PartialEq.eq k) m.lists c.args.index) c.self.view_is
    (λ k has. lists_of-out g.met.K.Eq.laws _ _ _ c.self.invariant.agrees c.args.place c.args.index _ _ _ k has c.take_indexed.result
    c.take_indexed.ensures.taken)
