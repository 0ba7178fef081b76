use Rattle.std.proofs.Common.{ap, refl}
use Rattle.ordered_multimap.specs.Writes.{with_value}
use Rattle.ordered_multimap.proofs.Append.Entered.{has_head, is_head, written_first}
use Rattle.ordered_multimap.proofs.list_ordered_multimap.entry.OccupiedEntry.into_mut.Goals as goal

pub first_mut_from-requires : goal.first_mut_from-requires
first_mut_from-requires g c = is_head c.args.self

pub returns : goal.returns
returns g c =
    let o = c.args.self in let from = c.first_mut_from.ensures in (
      (refl, λ w. ap (λ head. with_value o.map.now head w) o.begins),
      record {
        writes_back = tt;
        value = λ k is. from.value k (has_head o k is);
        written = λ k is v. written_first o v _ (from.written k (has_head o k is) v);
      },
    )
