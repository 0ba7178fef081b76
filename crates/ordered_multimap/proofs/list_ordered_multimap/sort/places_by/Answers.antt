use Rattle.std.proofs.Common.{Bool}
use Rattle.std.proofs.lemmas.Fn.{always_returns_same}
use Rattle.std.specs.Cmp.{IsStrictWeakOrder}
use Rattle.std.specs.Fn.{ComparesAs}
use Rattle.multimap_slots.specs.Slots.{item_at}
use Rattle.ordered_multimap.proofs.KeySorts.Reordered.{closure-places}
use Rattle.ordered_multimap.proofs.list_ordered_multimap.sort.places_by.Goals as goal

pub returns : goal.returns
returns g c =
    let keys = c.args.keys.now in
    let sorts = c.in_ok-sort_by.ensures in
    let order_is = c.in_ok-places.ensures in
    let sorted = λ (lt : g.row.K.Denot → g.row.K.Denot → Bool) (o : IsStrictWeakOrder lt) (by : ComparesAs g.F.Fn lt c.args.cmp).
    closure-places (item_at keys) keys.order c.len-len.ensures.sound.filled c.slot_at.result.0.now (rw order_is at sorts.permutation)
    sorts.sorted (rw order_is at sorts.stable) lt o
    (always_returns_same _ _ _ (λ a r f' k. (k.met.1 lt by, λ i. (k.met.0.0 i, k.met.0.1 i, k.met.0.2 i)))) in
    record {
      permutation = rw order_is at sorts.permutation;
      sorted = λ lt o by. (sorted lt o by).0;
      stable = λ lt o by. (sorted lt o by).1;
    }
