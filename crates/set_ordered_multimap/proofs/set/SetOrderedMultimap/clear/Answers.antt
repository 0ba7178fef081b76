use Rattle.std.proofs.Common.{sym, subst}
use Rattle.set_ordered_multimap.proofs.Callers.Sets.{IsSet-empty}
use Rattle.set_ordered_multimap.specs.Set.{IsSet}
use Rattle.set_ordered_multimap.specs.SetChanges.{IsClearedSet}
use Rattle.set_ordered_multimap.proofs.set.SetOrderedMultimap.clear.Goals as goal

pub returns : goal.returns
returns g c =
    let eq = g.K.PartialEq.eq in let value_eq = g.V.PartialEq.eq in let e = c.clear.ensures in
    record {
      cleared = subst (λ m. IsClearedSet eq value_eq m c.clear.new.self) c.self.view_is (record {
        lists = e.lists;
        set = subst (IsSet eq value_eq) (sym e.lists) (IsSet-empty eq value_eq);
        rooms = e.rooms;
        taken = e.taken;
        holes = e.holes;
      });
    }
