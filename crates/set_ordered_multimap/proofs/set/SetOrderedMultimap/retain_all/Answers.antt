use Rattle.std.proofs.Common.{subst}
use Rattle.ordered_multimap.specs.Retain.{Retains}
use Rattle.set_ordered_multimap.proofs.Retained.{IsDistinct-retained, filters_accepted, value_stays}
use Rattle.set_ordered_multimap.specs.Asked.{AskedOnValue, AsksOfAccepted}
use Rattle.set_ordered_multimap.specs.Set.{same_pair}
use Rattle.set_ordered_multimap.specs.SetChanges.{LosesPairs}
use Rattle.set_ordered_multimap.proofs.set.SetOrderedMultimap.retain_all.Goals as goal

pub returns-clause-retained : goal.returns-clause-retained
returns-clause-retained g c =
    let r = c.retain_values.ensures.retained in
    let asks = AsksOfAccepted (AskedOnValue g.F.FnMut) (g.Q.KeyQuery.equivalent c.args.key) in
    (r.0, subst (λ m. Retains asks c.args.f m.lists.pairs c.retain_values.new.map.lists.pairs r.0) c.self.view_is r.1)

pub returns-clause-stepwise : goal.returns-clause-stepwise
returns-clause-stepwise g c = λ keep always.
    let r = returns-clause-retained g c in
    filters_accepted (AskedOnValue g.F.FnMut) (g.Q.KeyQuery.equivalent c.args.key) keep c.args.f always _ _ r.0 r.1

pub returns-clause-loses : goal.returns-clause-loses
returns-clause-loses g c =
    let eq = g.K.PartialEq.eq in let value_eq = g.V.PartialEq.eq in let e = c.retain_values.ensures in let loses = e.loses in
    let accepts = g.Q.KeyQuery.equivalent c.args.key in let asked = AskedOnValue g.F.FnMut in
    subst (λ m. LosesPairs eq value_eq m c.retain_values.new.map) c.self.view_is (record {
      keys = loses.keys;
      set = IsDistinct-retained (AsksOfAccepted asked accepts) (λ f k v b w h t. value_stays asked (accepts k) f v b w h t)
          (same_pair eq value_eq) _ _ _ _ e.retained.1;
      rooms = loses.rooms;
      taken = loses.taken;
      fewer = loses.fewer;
    })
