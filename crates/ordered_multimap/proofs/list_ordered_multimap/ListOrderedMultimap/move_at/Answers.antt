use Rattle.std.proofs.Common.{◌≡◌, ap, ◌∙◌, subst}
use Rattle.ordered_multimap.specs.Agrees.{HasKey, lists_of}
use Rattle.ordered_multimap.specs.Private.KeyMoves.{moved_to_end}
use Rattle.ordered_multimap.proofs.Agreement.LookUps.{listed_inside, own_key}
use Rattle.ordered_multimap.proofs.Agreement.MovedKeys.{Agrees-moved, lists_of-moved}
use Rattle.ordered_multimap.proofs.list_ordered_multimap.ListOrderedMultimap.move_at.Goals as goal

pub invariant_of-self : goal.invariant_of-self
invariant_of-self g c =
    let keys = c.self.inside.keys in let is_map = c.self.invariant in
    let own = own_key g.met.K.Eq.laws is_map.agrees c.args.place (listed_inside _ c.self.view_is c.requires) in
    record {
      agrees = rw c.move_place.ensures (Agrees-moved g.met.K.Eq.laws keys is_map.agrees own.0 c.args.place own.1 c.args.end);
      fits = is_map.fits;
      paid = is_map.paid;
    }

pub returns-clause-lists : goal.returns-clause-lists
returns-clause-lists g c =
    subst (λ m. (k : g.row.K.Denot) → HasKey g.K.PartialEq.eq m.slots.keys k c.args.place
    → lists_of c.move_place.new.keys c.self.inside.values.list ≡ moved_to_end c.args.end (g.K.PartialEq.eq k) m.lists) c.self.view_is
    (λ k has. ap (λ keys. lists_of keys c.self.inside.values.list) c.move_place.ensures
    ∙ lists_of-moved g.met.K.Eq.laws c.self.inside.keys c.self.invariant.agrees k c.args.place has c.args.end)
