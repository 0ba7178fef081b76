use Rattle.std.proofs.Common.{sym, subst}
use Rattle.std.specs.List.{FoldsTo}
use Rattle.ordered_multimap.specs.Pairs.{values_where}
use Rattle.set_ordered_multimap.proofs.Callers.Sets.{IsSet-removed}
use Rattle.set_ordered_multimap.specs.Set.{IsSet}
use Rattle.set_ordered_multimap.specs.SetChanges.{LosesKeyWhere}
use Rattle.set_ordered_multimap.proofs.set.SetOrderedMultimap.remove_all_with.Goals as goal

pub returns-clause-called : goal.returns-clause-called
returns-clause-called g c =
    let step : g.row.F.Denot → g.row.V.Denot → g.row.F.Denot → Type 0 = λ p v q. goal.F-step g p v tt q in
    let called = c.hand_out.ensures.called in (
      called.0,
      subst (λ m. FoldsTo step c.args.f (values_where (g.Q.KeyQuery.equivalent c.args.key) m.lists.pairs) called.0) c.self.view_is
          called.1,
    )

pub returns-clause-removed : goal.returns-clause-removed
returns-clause-removed g c =
    let eq = g.K.PartialEq.eq in let value_eq = g.V.PartialEq.eq in let removed = c.hand_out.ensures.removed in
    let accepts = g.Q.KeyQuery.equivalent c.args.key in
    subst (λ m. LosesKeyWhere eq value_eq m c.hand_out.new.map accepts) c.self.view_is (record {
      removed = removed;
      set = λ set. subst (IsSet eq value_eq) (sym removed.loses.lists)
          (IsSet-removed g.met.K.Eq.laws g.met.V.Eq.laws accepts c.self.inside.map.lists set);
    })
