use Rattle.std.proofs.Common.{sym, subst}
use Rattle.multimap_walks.specs.Chained.{pairs_of}
use Rattle.ordered_multimap.specs.Agrees.{HasKey}
use Rattle.ordered_multimap.specs.Pairs.{values_of}
use Rattle.ordered_multimap.specs.Updates.{CallableOnEach, UpdatesKey}
use Rattle.ordered_multimap.proofs.Update.OneKey.{chain_callable, chain_updated}
use Rattle.ordered_multimap.proofs.Update.Updates.{map_kept, absent_updated, key_stepwise}
use Rattle.ordered_multimap.proofs.list_ordered_multimap.ListOrderedMultimap.update_all.Goals as goal

pub rewrite_chain-requires-clause-callable : goal.rewrite_chain-requires-clause-callable
rewrite_chain-requires-clause-callable g c =
    let eq = g.K.PartialEq.eq in let k = c.args.key.now in
    let has = subst (λ m. HasKey eq m.slots.keys k c.in-Some.place) (sym c.self.view_is) (rw c.in-Some.is at c.look_up.ensures.found) in
    chain_callable g.met.K.Eq.laws c.self.invariant.agrees k c.in-Some.place has
    (subst (λ m. CallableOnEach g.F.FnMut c.args.f (values_of eq m.lists.pairs k)) (sym c.self.view_is) c.requires)

pub invariant_of-self : goal.invariant_of-self
invariant_of-self g c = map_kept c.self.invariant c.rewrite_chain.ensures.kept

pub returns-in-Some-clause-updated : goal.returns-in-Some-clause-updated
returns-in-Some-clause-updated g c =
    let eq = g.K.PartialEq.eq in let k = c.args.key.now in let r = c.rewrite_chain.ensures.rewritten in
    let has = subst (λ m. HasKey eq m.slots.keys k c.in-Some.place) (sym c.self.view_is) (rw c.in-Some.is at c.look_up.ensures.found) in (
      r.0,
      subst (λ m. UpdatesKey g.F.FnMut eq m.lists.pairs k c.args.f (pairs_of c.self.inside.keys c.rewrite_chain.new.values.list) r.0)
          c.self.view_is
          (chain_updated g.met.K.Eq.laws c.self.invariant.agrees k c.in-Some.place has r.1),
    )

pub returns-in-Some-clause-stepwise : goal.returns-in-Some-clause-stepwise
returns-in-Some-clause-stepwise g c =
    λ step always. key_stepwise g.F.FnMut step c.args.f always g.K.PartialEq.eq c.args.self.now.lists.pairs c.args.key.now _ _
    (returns-in-Some-clause-updated g c).1

pub returns-in_default-clause-updated : goal.returns-in_default-clause-updated
returns-in_default-clause-updated g c = (
  c.args.f,
  absent_updated g.F.FnMut g.K.PartialEq.eq c.args.self.now.lists c.args.key.now c.args.f
      (rw c.in_default.is at c.look_up.ensures.absent),
)

pub returns-in_default-clause-stepwise : goal.returns-in_default-clause-stepwise
returns-in_default-clause-stepwise g c =
    λ step always. key_stepwise g.F.FnMut step c.args.f always g.K.PartialEq.eq c.args.self.now.lists.pairs c.args.key.now _ _
    (returns-in_default-clause-updated g c).1
