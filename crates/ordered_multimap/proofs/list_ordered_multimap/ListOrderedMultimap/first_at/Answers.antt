use Rattle.ordered_multimap.proofs.list_ordered_multimap.ListOrderedMultimap.first_at.Goals as goal

pub first_from-requires : goal.first_from-requires
first_from-requires g c = record { place = c.args.place; listed = c.requires; head_is = c.first_place.ensures }

pub returns : goal.returns
returns g c = λ k has. c.first_from.ensures k (record { place = c.args.place; has = has; head_is = c.first_place.ensures })
