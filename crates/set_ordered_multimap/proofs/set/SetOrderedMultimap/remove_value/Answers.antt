use Rattle.std.proofs.Common.{rules, ◌≡◌, ◌+◌, ◌&&◌, true, not, cond, length, sym, ap, ◌∙◌, subst}
use Rattle.set_ordered_multimap.proofs.Callers.Sets.{IsSet-kept}
use Rattle.set_ordered_multimap.proofs.Removals.{one_goes}
use Rattle.ordered_multimap.specs.Changes.{kept}
use Rattle.set_ordered_multimap.specs.Set.{IsSet, has_pair_where, pairs_but_where}
use Rattle.set_ordered_multimap.specs.SetChanges.{LosesValueWhere}
use Rattle.set_ordered_multimap.proofs.set.SetOrderedMultimap.remove_value.Goals as goal

pub returns-clause-loses : goal.returns-clause-loses
returns-clause-loses g c =
    let eq = g.K.PartialEq.eq in let value_eq = g.V.PartialEq.eq in
    let accepts = g.Q.KeyQuery.equivalent c.args.key in let value = c.args.value.now in let m = c.self.inside.map.lists in
    let there = subst (λ m. has_pair_where accepts value_eq m.lists.pairs value ≡ true) (sym c.self.view_is)
    (sym c.contains.ensures ∙ c.if-not-contains.false) in
    subst (λ m. LosesValueWhere eq value_eq m c.take_equal.new.map accepts value) c.self.view_is (record {
      lists = c.take_equal.ensures.lists ∙ ap (λ b. cond b (kept eq m (pairs_but_where accepts value_eq m.pairs value)) m) (sym there);
      set = λ set. subst (IsSet eq value_eq) (sym c.take_equal.ensures.lists)
          (IsSet-kept g.met.K.Eq.laws g.met.V.Eq.laws m (λ p. not (accepts p.0 && value_eq value p.1)) set);
      rooms = c.take_equal.ensures.rooms;
    })

pub returns-clause-one : goal.returns-clause-one
returns-clause-one g c = λ set.
    let eq = g.K.PartialEq.eq in let value_eq = g.V.PartialEq.eq in
    let accepts = g.Q.KeyQuery.equivalent c.args.key in let value = c.args.value.now in
    let seen = subst (λ m. IsSet eq value_eq m.lists) (sym c.self.view_is) set in
    let there = subst (λ m. has_pair_where accepts value_eq m.lists.pairs value ≡ true) (sym c.self.view_is)
    (sym c.contains.ensures ∙ c.if-not-contains.false) in
    ap (λ m. length m.lists.pairs) (sym c.self.view_is)
    ∙ one_goes g.met.V.Eq.laws accepts (g.met.Q.KeyQuery.respects_eq c.args.key) c.self.inside.map.lists.pairs value seen there
    ∙ ap (λ l. length l.pairs + 1) (sym c.take_equal.ensures.lists)

pub returns-then-not-contains-clause-there : goal.returns-then-not-contains-clause-there
returns-then-not-contains-clause-there g c = search rules

pub returns-then-not-contains-clause-one : goal.returns-then-not-contains-clause-one
returns-then-not-contains-clause-one g c = search rules

pub returns-then-not-contains-clause-taken : goal.returns-then-not-contains-clause-taken
returns-then-not-contains-clause-taken g c = search rules
