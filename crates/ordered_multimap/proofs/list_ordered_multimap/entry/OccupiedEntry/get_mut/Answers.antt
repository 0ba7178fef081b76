use Rattle.std.proofs.Common.{refl}
use Rattle.ordered_multimap.proofs.Append.Entered.{has_head, is_head, same_written, written_first}
use Rattle.ordered_multimap.proofs.list_ordered_multimap.entry.OccupiedEntry.get_mut.Goals as goal

pub first_mut_from-requires : goal.first_mut_from-requires
first_mut_from-requires g c = is_head c.args.self.now

pub returns : goal.returns
returns g c =
    let o = c.args.self.now in let from = c.first_mut_from.ensures in (
      (refl, λ w. same_written o w _ _),
      record {
        writes_back = tt;
        value = λ k is. from.value k (has_head o k is);
        written = λ k is v. written_first o v _ (from.written k (has_head o k is) v);
      },
    )
