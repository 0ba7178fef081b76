use Rattle.std.proofs.Common.{◌≡◌, IfNone, IfSome, refl, sym, subst}
use Rattle.ordered_multimap.specs.Detaches.{KeepsListed}
use Rattle.ordered_multimap.specs.Drains.{DrainsEntry}
use Rattle.ordered_multimap.specs.End.TheVariants.{Front}
use Rattle.ordered_multimap.specs.Walk.{end_item}
use Rattle.set_ordered_multimap.proofs.KeyPops.{drained_set}
use Rattle.set_ordered_multimap.proofs.set.SetOrderedMultimap.pop_front_key_with_all.Goals as goal

pub returns : goal.returns
returns g c =
    let p = c.pop_front_key_with_all.ensures in let same = c.lend-map.ensures.same in
    let key = c.pop_front_key_with_all.new.stored in
    let drain = subst (λ m. IfSome key (λ k. DrainsEntry g.K.PartialEq.eq m k c.pop_front_key_with_all.result)) same p.drain in
    let kept = subst (λ m. IfNone key (KeepsListed m c.pop_front_key_with_all.result.map.now)) same p.unchanged in (
      (sym p.same_map, λ w. refl),
      record {
        rest = tt;
        key = subst (λ m. key ≡ end_item Front m.lists.keys) same p.key;
        drain = drain;
        empty = p.empty;
        unchanged = kept;
        set = drained_set g.met.K.Eq.laws g.met.V.Eq.laws c.args.self.now c.pop_front_key_with_all.result key drain kept;
      },
    )
