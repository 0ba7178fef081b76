use Rattle.std.proofs.Common.{ap, refl, subst}
use Rattle.ordered_multimap.specs.Changes.{first_written}
use Rattle.ordered_multimap.specs.Writes.{head_at, with_value, IsWritten}
use Rattle.ordered_multimap.proofs.list_ordered_multimap.ListOrderedMultimap.first_mut_at.Goals as goal

pub first_mut_from-requires : goal.first_mut_from-requires
first_mut_from-requires g c = record { place = c.args.place; listed = c.requires; head_is = c.first_place-first.ensures }

pub returns : goal.returns
returns g c =
    let m = c.args.self.now in let place = c.args.place in let head_is = c.first_place-first.ensures in
    let from = c.first_mut_from.ensures in (
      (refl {a = c.first_mut_from.result.ghost_name}, λ w. ap (λ head. with_value m head w) {y = head_at m.slots.keys place} head_is),
      record {
        writes_back = tt;
        value = λ k has. from.value k (record { place = place; has = has; head_is = head_is });
        written = λ k has v.
            subst (λ head. IsWritten m (with_value m head v) (first_written g.K.PartialEq.eq m.lists k v)) head_is
            (from.written k (record { place = place; has = has; head_is = head_is }) v);
      },
    )
