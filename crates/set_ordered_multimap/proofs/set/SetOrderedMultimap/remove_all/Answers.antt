use Rattle.std.proofs.Common.{refl, sym, subst}
use Rattle.ordered_multimap.specs.Drains.{DrainsWhere}
use Rattle.set_ordered_multimap.proofs.Callers.Sets.{IsSet-removed}
use Rattle.set_ordered_multimap.specs.Set.{IsSet}
use Rattle.set_ordered_multimap.proofs.set.SetOrderedMultimap.remove_all.Goals as goal

pub returns : goal.returns
returns g c =
    let eq = g.K.PartialEq.eq in let accepts = g.Q.KeyQuery.equivalent c.args.key in
    let drain = subst (λ m. DrainsWhere accepts eq m c.remove_all.result) c.lend-map.ensures.same c.remove_all.ensures.drain in (
      (sym c.remove_all.ensures.same_map, λ w. refl),
      record {
        rest = tt;
        drain = drain;
        set = λ set. subst (IsSet eq g.V.PartialEq.eq) (sym drain.lists)
            (IsSet-removed g.met.K.Eq.laws g.met.V.Eq.laws accepts c.args.self.now.lists set);
      },
    )
