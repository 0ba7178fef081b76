use Rattle.std.proofs.Common.{◌≡◌, sym, subst}
use Rattle.ordered_multimap.specs.Writes.{head_at}
use Rattle.ordered_multimap.proofs.Callers.Writes.{head_at-is}
use Rattle.ordered_multimap.proofs.list_ordered_multimap.ListOrderedMultimap.first_place.Goals as goal

pub returns : goal.returns
returns g c =
    let link = c.listed_link-link.result in
    subst (λ m. link.head ≡ head_at m.slots.keys c.args.place) c.self.view_is
    (sym (head_at-is c.self.inside.keys c.args.place link c.listed_link-link.ensures.link_is))
