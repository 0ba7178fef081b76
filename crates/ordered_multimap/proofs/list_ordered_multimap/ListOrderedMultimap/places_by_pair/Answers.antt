use denote.Param.Always.{mut_by}
use Rattle.std.proofs.Common.{◌≡◌, ℕ, Bool, IsSome, refl, sym, ap, ◌∙◌, subst}
use Rattle.std.specs.Cmp.{IsStrictWeakOrder}
use Rattle.std.specs.Ordering.{is_lt}
use Rattle.multimap_slots.specs.Lists.{IsIn}
use Rattle.multimap_walks.specs.Chained.{pair_at}
use Rattle.ordered_multimap.specs.PairSorts.{ComparesPairsAs}
use Rattle.ordered_multimap.specs.Private.PairSorts.{pair_or}
use Rattle.ordered_multimap.proofs.Callers.Places.{held}
use Rattle.ordered_multimap.proofs.KeySorts.Mapped.{always_returns_kept}
use Rattle.ordered_multimap.proofs.KeySorts.Reordered.{closure-places}
use Rattle.ordered_multimap.proofs.PairSorts.Resorted.{has_pair}
use Rattle.ordered_multimap.proofs.list_ordered_multimap.ListOrderedMultimap.places_by_pair.Goals as goal

pub sort_by-requires : goal.sort_by-requires
sort_by-requires g c =
    mut_by _ (λ f. (f.0.now ≡ c.args.self.now) × (f.1.now ≡ c.args.front) × (f.2.now ≡ c.args.cmp))
    (λ f a is. (rw is.2 c.requires.callable, rw (is.0, is.1) c.requires.listed))
    (λ f a r f' is k. (ap (λ b. b.now) k.met.0.0 ∙ is.0, ap (λ b. b.now) k.met.0.1 ∙ is.1, ap (λ b. b.now) k.met.0.2 ∙ is.2))
    _ (refl, refl, refl)

pub returns : goal.returns
returns g c =
    let m = c.args.self.now in
    let sorts = c.in_ok-sort_by.ensures in
    let order_is = c.in_ok-places.ensures ∙ ap (λ n. n.slots.values.order) c.self.view_is in
    let pairs = pair_at m.slots.keys m.slots.values in
    let filled : (p : ℕ) → IsIn p m.slots.values.order → IsSome (pairs p) = rw (← c.self.view_is) (has_pair c.self.invariant.agrees) in
    let first = held (pairs c.args.front) (filled c.args.front c.requires.listed) in
    let near = pair_or m.slots first.value in
    let sorted = λ (lt : g.row.K.Denot × g.row.V.Denot → g.row.K.Denot × g.row.V.Denot → Bool) (o : IsStrictWeakOrder lt)
    (by : ComparesPairsAs g.F.Fn lt c.args.cmp).
    closure-places pairs m.slots.values.order filled first.value (rw order_is at sorts.permutation) sorts.sorted
    (rw order_is at sorts.stable) lt o
    (always_returns_kept _ _ (λ f. (f.0.now ≡ m) × (f.1.now ≡ c.args.front) × (f.2.now ≡ c.args.cmp))
    (λ f a r f' is k. (
      subst (λ n. is_lt r ≡ lt (pair_or n.slots first.value a.0.now) (pair_or n.slots first.value a.1.0.now)) is.0
          (k.met.1 lt (subst (λ f. ComparesPairsAs g.F.Fn lt f) (sym is.2) by) first.value
          ((λ i. pair_at (is.0 i).slots.keys (is.0 i).slots.values (is.1 i)) ∙ first.is)),
      (ap (λ b. b.now) k.met.0.0 ∙ is.0, ap (λ b. b.now) k.met.0.1 ∙ is.1, ap (λ b. b.now) k.met.0.2 ∙ is.2),
    )) _ (refl, refl, refl)) in
    record {
      permutation = rw order_is at sorts.permutation;
      sorted = λ lt o by. (sorted lt o by).0;
      stable = λ lt o by. (sorted lt o by).1;
    }
