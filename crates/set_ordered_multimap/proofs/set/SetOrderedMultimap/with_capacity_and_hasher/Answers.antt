use Rattle.std.proofs.Common.{rules, sym, subst}
use Rattle.set_ordered_multimap.proofs.Callers.Sets.{IsSet-empty}
use Rattle.set_ordered_multimap.specs.Set.{IsSet}
use Rattle.set_ordered_multimap.proofs.set.SetOrderedMultimap.with_capacity_and_hasher.Goals as goal

pub returns-clause-set : goal.returns-clause-set
returns-clause-set g c =
    let eq = g.K.PartialEq.eq in let value_eq = g.V.PartialEq.eq in
    subst (IsSet eq value_eq) (sym c.in_ok-map.ensures.starts.new.new.empty) (IsSet-empty eq value_eq)

pub returns-clause-starts : goal.returns-clause-starts
returns-clause-starts g c = search rules
