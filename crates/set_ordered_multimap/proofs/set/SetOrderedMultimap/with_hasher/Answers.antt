use Rattle.std.proofs.Common.{sym, subst}
use Rattle.set_ordered_multimap.proofs.Callers.Sets.{IsSet-empty}
use Rattle.set_ordered_multimap.specs.Set.{IsSet}
use Rattle.set_ordered_multimap.proofs.set.SetOrderedMultimap.with_hasher.Goals as goal

pub returns : goal.returns
returns g c =
    let eq = g.K.PartialEq.eq in let value_eq = g.V.PartialEq.eq in let e = c.with_hasher.ensures in
    record {
      new = record {
        new = record { empty = e.new; set = subst (IsSet eq value_eq) (sym e.new.empty) (IsSet-empty eq value_eq) };
        hasher = e.hasher;
      };
    }
