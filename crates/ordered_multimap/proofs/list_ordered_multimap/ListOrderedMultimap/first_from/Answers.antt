use Rattle.std.proofs.Common.{◌≡◌, Some, slice_get, sym, subst}
use Rattle.ordered_multimap.specs.Pairs.{values_of}
use Rattle.ordered_multimap.specs.Private.Heads.{HasHead, IsHead}
use Rattle.ordered_multimap.proofs.Agreement.Heads.{IsHead-listed, first_value-head}
use Rattle.ordered_multimap.proofs.list_ordered_multimap.ListOrderedMultimap.first_from.Goals as goal

pub value_at-requires : goal.value_at-requires
value_at-requires g c =
    IsHead-listed g.met.K.Eq.laws c.self.invariant.agrees c.args.first
    (subst (λ m. IsHead m.slots.keys c.args.first) (sym c.self.view_is) c.requires)

pub returns : goal.returns
returns g c =
    subst (λ m. (k : g.row.K.Denot) → HasHead g.K.PartialEq.eq m.slots.keys k c.args.first
    → slice_get (values_of g.K.PartialEq.eq m.lists.pairs k) 0 ≡ Some c.value_at.result.0.now) c.self.view_is
    (λ k has. first_value-head g.met.K.Eq.laws c.self.invariant.agrees k c.args.first c.value_at.result.0.now has
    c.value_at.ensures.slot.item_is)
