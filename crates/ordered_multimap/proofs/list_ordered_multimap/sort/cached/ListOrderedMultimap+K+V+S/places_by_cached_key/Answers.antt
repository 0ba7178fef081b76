use Rattle.std.proofs.Common.{◌≡◌, refl, sym, subst, ap, ◌∙◌}
use Rattle.std.proofs.lemmas.List.MinMax.{ranks_by}
use Rattle.std.specs.List.Sorted.{IsStableByKey}
use Rattle.std.specs.Ordering.{is_lt}
use Rattle.multimap_slots.specs.Slots.{IsSound, in_order, item_at}
use Rattle.ordered_multimap.specs.Agrees.{items_of}
use Rattle.ordered_multimap.specs.KeySorts.{ComputesOnKey}
use Rattle.ordered_multimap.specs.Pairs.{values_of}
use Rattle.ordered_multimap.specs.Private.KeySorts.{key_or}
use Rattle.ordered_multimap.proofs.Callers.Places.{held}
use Rattle.ordered_multimap.proofs.KeySorts.Mapped.{always_returns_kept}
use Rattle.ordered_multimap.proofs.KeySorts.Reordered.{sorted-places, stable-places}
use Rattle.ordered_multimap.proofs.list_ordered_multimap.sort.cached.ListOrderedMultimap+K+V+S.places_by_cached_key.Goals as goal

pub returns : goal.returns
returns g c =
    let m = c.args.self.now in
    let sorts = c.in_ok-sort_by_cached_key.ensures in
    let order_is = subst (λ m. c.in_ok-places.places.items ≡ m.slots.keys.order) c.self.view_is c.in_ok-places.ensures in
    let sound = subst (λ m. IsSound m.slots.keys) c.self.view_is c.self.invariant.agrees.keys_sound in
    let keys_are = subst (λ m. items_of m.slots.keys ≡ m.lists.keys) c.self.view_is refl in
    let first = held (item_at m.slots.keys c.args.front) (sound.filled c.args.front c.requires.listed) in
    let same = rw order_is at sorts.permutation in
    let near = key_or m.slots.keys first.value in
    let values = values_of g.K.PartialEq.eq m.lists.pairs in
    record {
      permutation = same;
      sorted = λ key by.
          let of = λ (k : g.row.K.Denot). key k (values k) in
          sorted-places (item_at m.slots.keys) m.slots.keys.order sound.filled first.value same (λ j k. is_lt (g.T.Ord.cmp (of j) (of k)))
          (sorts.sorted (λ p. of (near p)) (always_returns_kept _ _ (λ f. (f.0.now ≡ m) × (f.1.now ≡ c.args.front) × (f.2.now ≡ c.args.f))
          (λ f a r f' is k. (
            subst (λ n. r ≡ key (near a.0.now) (values_of g.K.PartialEq.eq n.lists.pairs (near a.0.now))) is.0
                (k.met.1 key (subst (λ f. ComputesOnKey g.F.Fn key f) (sym is.2) by) first.value
                ((λ i. item_at (is.0 i).slots.keys (is.1 i)) ∙ first.is) (near a.0.now)
                (ap (λ n. key_or n.slots.keys first.value a.0.now) (sym is.0))),
            (ap (λ b. b.now) k.met.0.0 ∙ is.0, ap (λ b. b.now) k.met.0.1 ∙ is.1, ap (λ b. b.now) k.met.0.2 ∙ is.2),
          )) _ (refl, refl, refl)));
      stable = λ key by.
          let of = λ (k : g.row.K.Denot). key k (values k) in
          subst (λ ks. IsStableByKey of g.T.Ord.cmp ks (items_of (in_order m.slots.keys c.sort_by_cached_key.new.self.items))) keys_are
          (stable-places (item_at m.slots.keys) m.slots.keys.order sound.filled first.value same (λ j k. is_lt (g.T.Ord.cmp (of j) (of k))) (ranks_by g.met.T.Ord.total of)
          (subst (λ ps. IsStableByKey (λ p. of (near p)) g.T.Ord.cmp ps c.sort_by_cached_key.new.self.items) order_is
          (sorts.stable (λ p. of (near p)) (always_returns_kept _ _ (λ f. (f.0.now ≡ m) × (f.1.now ≡ c.args.front) × (f.2.now ≡ c.args.f))
          (λ f a r f' is k. (
            subst (λ n. r ≡ key (near a.0.now) (values_of g.K.PartialEq.eq n.lists.pairs (near a.0.now))) is.0
                (k.met.1 key (subst (λ f. ComputesOnKey g.F.Fn key f) (sym is.2) by) first.value
                ((λ i. item_at (is.0 i).slots.keys (is.1 i)) ∙ first.is) (near a.0.now)
                (ap (λ n. key_or n.slots.keys first.value a.0.now) (sym is.0))),
            (ap (λ b. b.now) k.met.0.0 ∙ is.0, ap (λ b. b.now) k.met.0.1 ∙ is.1, ap (λ b. b.now) k.met.0.2 ∙ is.2),
          )) _ (refl, refl, refl)))));
    }
