use Rattle.std.proofs.Common.{sym, ap, ◌∙◌, refl, min, ◌/◌}
use Rattle.multimap_walks.specs.Chained.{pair_at}
use Rattle.ordered_multimap.specs.TapeNumbers.{numbers_of}
use Rattle.ordered_multimap.specs.Writes.{with_value}
use Rattle.ordered_multimap.proofs.Agreement.Agreed.{pair_at-is}
use Rattle.ordered_multimap.proofs.Callers.Writes.{multimap-with_item, IsMap-with_item}
use Rattle.ordered_multimap.proofs.list_ordered_multimap.ListOrderedMultimap.pair_mut_at.Goals as goal

pub slot_at-requires : goal.slot_at-requires
slot_at-requires g c = c.self.invariant.agrees.chained.owned c.args.place c.value_at.result.1 c.value_at.ensures.slot.listed
    c.value_at.ensures.slot.link_is

pub invariant_of-self-lent : goal.invariant_of-self-lent
invariant_of-self-lent g c w = IsMap-with_item c.self.invariant c.args.place c.value_at.ensures.slot.listed w

pub returns : goal.returns
returns g c =
    let i = c.self.inside in let at = c.args.place in (
      (
        refl {a = c.get_listed_mut.result.ghost_name},
        λ w.
            multimap-with_item c.self.invariant.agrees at c.value_at.ensures.slot.listed (min i.keys.capacity i.table.capacity)
            (i.values.list.capacity / 2) i.state (numbers_of i.values) i.left w
            ∙ ap (λ m. with_value m at w) c.self.view_is,
      ),
      record {
        writes_back = tt;
        pair = ap (λ m. pair_at m.slots.keys m.slots.values at) (sym c.self.view_is)
            ∙ pair_at-is i.keys i.values.list at c.value_at.result.1 c.slot_at.result.0.now c.get_listed_mut.result.now
            c.value_at.ensures.slot.link_is c.slot_at.ensures.item_is c.get_listed_mut.ensures.value.item_is;
      },
    )
