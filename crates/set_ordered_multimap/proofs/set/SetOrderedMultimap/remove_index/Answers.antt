use Rattle.std.proofs.Common.{sym, subst}
use Rattle.set_ordered_multimap.proofs.Callers.Sets.{IsSet-index_removed}
use Rattle.set_ordered_multimap.specs.Set.{IsSet}
use Rattle.set_ordered_multimap.proofs.set.SetOrderedMultimap.remove_index.Goals as goal

pub returns-clause-set : goal.returns-clause-set
returns-clause-set g c = λ set.
    let eq = g.K.PartialEq.eq in let value_eq = g.V.PartialEq.eq in
    subst (IsSet eq value_eq) (sym c.remove_index.ensures.lists)
    (IsSet-index_removed g.met.K.Eq.laws g.met.V.Eq.laws (g.Q.KeyQuery.equivalent c.args.key) c.self.inside.map.lists c.args.index
    (subst (λ m. IsSet eq value_eq m.lists) (sym c.self.view_is) set))
