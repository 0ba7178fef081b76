use Rattle.std.proofs.Common.{◌≡◌, sym, ◌∙◌, subst}
use Rattle.ordered_multimap.specs.Agrees.{HasKey}
use Rattle.ordered_multimap.specs.Pairs.{positions_of, values_of}
use Rattle.ordered_multimap.proofs.Agreement.LookUps.{values_of-chain, positions_of-chain}
use Rattle.ordered_multimap.proofs.list_ordered_multimap.ListOrderedMultimap.values_at.Goals as goal

pub returns-clause-values : goal.returns-clause-values
returns-clause-values g c =
    subst (λ m. (k : g.row.K.Denot) → HasKey g.K.PartialEq.eq m.slots.keys k c.args.place
    → c.new.result.left ≡ values_of g.K.PartialEq.eq m.lists.pairs k) c.self.view_is
    (λ k has. c.new.ensures.values ∙ sym (values_of-chain g.met.K.Eq.laws c.self.invariant.agrees k c.args.place has))

pub returns-clause-positions : goal.returns-clause-positions
returns-clause-positions g c =
    subst (λ m. (k : g.row.K.Denot) → HasKey g.K.PartialEq.eq m.slots.keys k c.args.place
    → c.new.result.positions ≡ positions_of g.K.PartialEq.eq m.lists.pairs k) c.self.view_is
    (λ k has. c.new.ensures.positions ∙ sym (positions_of-chain g.met.K.Eq.laws c.self.invariant.agrees k c.args.place has))
