use Rattle.std.proofs.Common.{◌≡◌, sym, ap, ◌∙◌, subst, refl, length, ◌<◌, [], Some, None, arith}
use Rattle.multimap_slots.specs.Lists.{IsIn}
use Rattle.multimap_walks.specs.Chained.{pair_at, pairs_of}
use Rattle.multimap_walks.specs.Walk.{end_item}
use Rattle.ordered_multimap.specs.Private.RemoveOne.{end_of_list}
use Rattle.ordered_multimap.specs.Writes.{with_value, with_end}
use Rattle.ordered_multimap.proofs.Agreement.Agreed.{length-pairs}
use Rattle.ordered_multimap.proofs.Remove.AtEnds.{end_listed, at_end, none_at_end}
use Rattle.ordered_multimap.proofs.Callers.Writes.{with_value-end}
use Rattle.ordered_multimap.proofs.list_ordered_multimap.ListOrderedMultimap.end_mut.Goals as goal

pub pair_mut_at-requires : goal.pair_mut_at-requires
pair_mut_at-requires g c =
    subst (λ m. IsIn c.in-Some.place m.slots.values.order) c.self.view_is
    (end_listed c.args.end c.self.inside.values.list.order c.in-Some.place (sym (c.in-Some.ensures {u = tt})))

pub unreachable-requires : goal.unreachable-requires
unreachable-requires g c =
    let i = c.self.inside in
    let at : end_of_list c.args.end i.values.list.order ≡ None = sym {b = end_of_list c.args.end i.values.list.order}
    (c.in-None.ensures {u = tt}) in
    let none : pairs_of i.keys i.values.list ≡ [] = none_at_end (pair_at i.keys i.values.list) c.args.end i.values.list.order at in
    let some : 0 < length (pairs_of i.keys i.values.list) = subst (λ m. 0 < length m.lists.pairs) (sym c.self.view_is) c.requires in
    omega (arith, some, ap length none)

pub returns : goal.returns
returns g c =
    let i = c.self.inside in let end = c.args.end in let place = c.in-Some.place in let agrees = c.self.invariant.agrees in
    let at : end_of_list end i.values.list.order ≡ Some place = sym {b = end_of_list end i.values.list.order}
    (c.in-Some.ensures {u = tt}) in
    let pair = c.pair_mut_at.result in
    let here : pair_at i.keys i.values.list place ≡ Some (pair.0.now, pair.1.now) = ap
    (λ m. pair_at m.slots.keys m.slots.values place) c.self.view_is ∙ c.pair_mut_at.ensures.pair in (
      (
        refl {a = pair.1.ghost_name},
        λ w. subst (λ m. with_value m place w ≡ with_end end m w) c.self.view_is
            (with_value-end _ end place agrees.values_sound.distinct (length-pairs agrees) at w),
      ),
      record {
        writes_back = tt;
        pair = ap (λ m. end_item end m.lists.pairs) (sym c.self.view_is)
            ∙ (at_end (pair_at i.keys i.values.list) end i.values.list.order place
            (pair.0.now, pair.1.now) agrees.values_sound.distinct at here).item;
      },
    )
