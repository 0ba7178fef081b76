use Rattle.std.proofs.Common.{◌≡◌, ◌/◌, Some, slice_get, sym, ap, ◌∙◌, min, subst, refl}
use Rattle.multimap_slots.specs.Lists.{IsIn}
use Rattle.ordered_multimap.specs.Changes.{first_written}
use Rattle.ordered_multimap.specs.Lists.{lists}
use Rattle.ordered_multimap.specs.Pairs.{values_of}
use Rattle.ordered_multimap.specs.Private.Heads.{HasHead, IsHead}
use Rattle.ordered_multimap.specs.TapeNumbers.{numbers_of}
use Rattle.ordered_multimap.specs.Writes.{with_value, IsWritten}
use Rattle.ordered_multimap.proofs.Agreement.Heads.{IsHead-listed, first_value-head, with_first_value-head}
use Rattle.ordered_multimap.proofs.Callers.Writes.{multimap-with_item, IsMap-with_item}
use Rattle.ordered_multimap.proofs.list_ordered_multimap.ListOrderedMultimap.first_mut_from.Goals as goal

pub get_listed_mut-requires : goal.get_listed_mut-requires
get_listed_mut-requires g c =
    IsHead-listed g.met.K.Eq.laws c.self.invariant.agrees c.args.first
    (subst (λ m. IsHead m.slots.keys c.args.first) (sym c.self.view_is) c.requires)

pub invariant_of-self-lent : goal.invariant_of-self-lent
invariant_of-self-lent g c w =
    IsMap-with_item c.self.invariant c.args.first
    (IsHead-listed g.met.K.Eq.laws c.self.invariant.agrees c.args.first
    (subst (λ m. IsHead m.slots.keys c.args.first) (sym c.self.view_is) c.requires)) w

pub returns : goal.returns
returns g c =
    let i = c.self.inside in let first = c.args.first in let eq = g.K.PartialEq.eq in let laws = g.met.K.Eq.laws in
    let agrees = c.self.invariant.agrees in let lent = c.get_listed_mut in
    let listed : IsIn first i.values.list.order = IsHead-listed laws agrees first
    (subst (λ m. IsHead m.slots.keys first) (sym c.self.view_is) c.requires) in (
      (
        refl {a = lent.result.ghost_name},
        λ w.
            multimap-with_item agrees first listed (min i.keys.capacity i.table.capacity) (i.values.list.capacity / 2) i.state
            (numbers_of i.values) i.left w
            ∙ ap (λ m. with_value m first w) c.self.view_is,
      ),
      record {
        writes_back = tt;
        value = λ k. subst (λ m. HasHead eq m.slots.keys k first → slice_get (values_of eq m.lists.pairs k) 0 ≡ Some lent.result.now)
            c.self.view_is (λ has. first_value-head laws agrees k first lent.result.now has lent.ensures.value.item_is);
        written = λ k. subst (λ m. HasHead eq m.slots.keys k first → (v : g.row.V.Denot)
            → IsWritten m (with_value m first v) (first_written eq m.lists k v)) c.self.view_is
            (λ has v. record {
              lists = ap (lists _) (with_first_value-head laws agrees k first has v);
              rooms = record { keys = refl; values = refl; slots = refl; hasher = refl };
              tape = refl;
            });
      },
    )
