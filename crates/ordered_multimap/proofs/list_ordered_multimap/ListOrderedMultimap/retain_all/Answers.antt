use Rattle.std.proofs.Common.{◌≡◌, ◌-◌, Bool, true, cond, length, sym, ap, ◌∙◌, subst, arith}
use Rattle.multimap_walks.specs.Chained.{pairs_of}
use Rattle.ordered_multimap.specs.Agrees.{HasKey}
use Rattle.ordered_multimap.specs.Pairs.{values_of, values_where}
use Rattle.ordered_multimap.specs.Retain.{MayAskEach, kept_stepwise}
use Rattle.ordered_multimap.specs.TapeNumbers.{TakesOut, numbers_of}
use Rattle.ordered_multimap.proofs.Agreement.LookUps.{values_of-chain}
use Rattle.ordered_multimap.proofs.Callers.OneValue.{kept-all}
use Rattle.ordered_multimap.proofs.Callers.Retained.{retained_of_some}
use Rattle.ordered_multimap.proofs.Remove.PassedOver.{none_asked}
use Rattle.ordered_multimap.proofs.Remove.SomePairs.{map_fewer, pairs_fewer, pairs_taken}
use Rattle.ordered_multimap.proofs.list_ordered_multimap.ListOrderedMultimap.retain_all.Goals as goal

pub retain_chain-requires-clause-callable : goal.retain_chain-requires-clause-callable
retain_chain-requires-clause-callable g c =
    let eq = g.K.PartialEq.eq in let place = c.in-Some.place in let f = c.args.f in
    let stands = rw c.in-Some.is at c.look_up.ensures.stored in let k = stands.stored in
    let has = subst (λ m. HasKey eq m.slots.keys k place) (sym c.self.view_is) stands.own in
    subst (MayAskEach g.F.FnMut f) (values_of-chain g.met.K.Eq.laws c.self.invariant.agrees k place has)
    (subst (λ m. MayAskEach g.F.FnMut f (values_of eq m.lists.pairs k)) (sym c.self.view_is)
    (subst (λ (t : g.row.K.Denot → Bool). MayAskEach g.F.FnMut f (values_where t c.args.self.now.lists.pairs)) stands.same c.requires))

pub invariant_of-self : goal.invariant_of-self
invariant_of-self g c = map_fewer c.self.invariant c.retain_chain.ensures.loses

pub returns-in-Some-clause-taken : goal.returns-in-Some-clause-taken
returns-in-Some-clause-taken g c =
    subst (λ m. TakesOut (length m.lists.pairs - length (pairs_of c.retain_chain.new.keys c.retain_chain.new.values.list)) m.tape
    (numbers_of c.retain_chain.new.values)) c.self.view_is (pairs_taken c.self.invariant c.retain_chain.ensures.loses)

pub returns-in-Some-clause-fewer : goal.returns-in-Some-clause-fewer
returns-in-Some-clause-fewer g c =
    omega (arith, pairs_fewer c.self.invariant c.retain_chain.ensures.loses, ap (λ m. length m.lists.pairs) c.self.view_is)

pub returns-in_default-clause-retained : goal.returns-in_default-clause-retained
returns-in_default-clause-retained g c = (
  c.args.f,
  none_asked g.F.FnMut (g.Q.KeyQuery.equivalent c.args.key) c.args.self.now.lists.pairs c.args.f
      (ap length (rw c.in_default.is at c.look_up.ensures.absent).no_value),
)

pub returns-in_default-clause-keys : goal.returns-in_default-clause-keys
returns-in_default-clause-keys g c =
    sym (ap (λ m. m.keys) (kept-all g.met.K.Eq.laws c.args.self.now.lists (rw c.in_default.is at c.look_up.ensures.absent).well_formed))

pub returns-in-Some-clause-stepwise : goal.returns-in-Some-clause-stepwise
returns-in-Some-clause-stepwise g c =
    let eq = g.K.PartialEq.eq in let place = c.in-Some.place in
    let stands = rw c.in-Some.is at c.look_up.ensures.stored in let k = stands.stored in
    let has = subst (λ m. HasKey eq m.slots.keys k place) (sym c.self.view_is) stands.own in
    let r = c.retain_chain.ensures.retained k has in
    λ keep step always. subst (λ (t : g.row.K.Denot → Bool). pairs_of c.retain_chain.new.keys c.retain_chain.new.values.list
    ≡ kept_stepwise (λ k v. cond (t k) (keep v) true) (λ k v. cond (t k) (step v) v) c.args.self.now.lists.pairs) (sym stands.same)
    (retained_of_some g.F.FnMut (eq k) keep step c.args.f always _ _ r.0 r.1
    ∙ ap (λ m. kept_stepwise (λ k' v. cond (eq k k') (keep v) true) (λ k' v. cond (eq k k') (step v) v) m.lists.pairs) c.self.view_is)

pub returns-in_default-clause-stepwise : goal.returns-in_default-clause-stepwise
returns-in_default-clause-stepwise g c =
    λ keep step always. retained_of_some g.F.FnMut (g.Q.KeyQuery.equivalent c.args.key) keep step c.args.f always _ _ c.args.f
    (none_asked g.F.FnMut (g.Q.KeyQuery.equivalent c.args.key) c.args.self.now.lists.pairs c.args.f
    (ap length (rw c.in_default.is at c.look_up.ensures.absent).no_value))
