use Rattle.std.proofs.Common.{◌≡◌, ◌<◌, Some, length, slice_get, sym, ap, subst, arith}
use Rattle.std.proofs.lemmas.Option.{slice_get_within}
use Rattle.std.proofs.lemmas.Grind.{common_steps}
use Rattle.ordered_multimap.specs.Agrees.{HasKey}
use Rattle.ordered_multimap.specs.Lists.{lists}
use Rattle.ordered_multimap.specs.Pairs.{values_of}
use Rattle.ordered_multimap.specs.Sets.{LeavesOnly}
use Rattle.ordered_multimap.proofs.Agreement.LookUps.{count_of_values, listed_inside, own_key}
use Rattle.ordered_multimap.proofs.Append.Appended.{stays_paid}
use Rattle.ordered_multimap.proofs.Append.Rooms.{map_of}
use Rattle.ordered_multimap.proofs.Callers.OnlyValue.{with_only-itself}
use Rattle.ordered_multimap.proofs.Remove.LaterValues.{agrees-later, count-later, fits-later, lists_of-later}
use Rattle.ordered_multimap.proofs.list_ordered_multimap.ListOrderedMultimap.drop_others.Goals as goal

pub invariant_of-self : goal.invariant_of-self
invariant_of-self g c =
    let t = c.drop_later.ensures in
    let own = own_key g.met.K.Eq.laws c.self.invariant.agrees c.args.place (listed_inside _ c.self.view_is c.requires) in
    record {
      agrees = agrees-later g.met.K.Eq.laws c.self.invariant.agrees own.0 c.args.place own.1 t.later;
      fits = fits-later c.self.inside.values c.drop_later.new.values t.later c.self.invariant.fits;
      paid = stays_paid t.counts c.self.invariant.paid;
    }

pub returns-then-listed_link-gt1-clause-only : goal.returns-then-listed_link-gt1-clause-only
returns-then-listed_link-gt1-clause-only g c =
    let t = c.drop_later.ensures in
    let n = c.drop_later.new in
    subst (λ m. (k : g.row.K.Denot) (first : g.row.V.Denot) → HasKey g.K.PartialEq.eq m.slots.keys k c.args.place
    → slice_get (values_of g.K.PartialEq.eq m.lists.pairs k) 0 ≡ Some first
    → LeavesOnly g.K.PartialEq.eq k first m (map_of n.keys c.self.inside.table.capacity n.values c.self.inside.state c.self.inside.left))
    c.self.view_is
    (λ k first has first_is.
    let fewer = count-later g.met.K.Eq.laws c.self.invariant.agrees k c.args.place has t.later in
    record {
      lists = lists_of-later g.met.K.Eq.laws c.self.invariant.agrees k c.args.place has t.later first first_is;
      taken = record { freed = omega (arith, t.counts.freed, fewer); paid = omega (arith, t.counts.paid, fewer) };
    })

pub returns-else-listed_link-gt1-clause-only : goal.returns-else-listed_link-gt1-clause-only
returns-else-listed_link-gt1-clause-only g c =
    subst (λ m. (k : g.row.K.Denot) (first : g.row.V.Denot) → HasKey g.K.PartialEq.eq m.slots.keys k c.args.place
    → slice_get (values_of g.K.PartialEq.eq m.lists.pairs k) 0 ≡ Some first → LeavesOnly g.K.PartialEq.eq k first m m) c.self.view_is
    (λ k first has first_is.
    let was =
    (map_of c.self.inside.keys c.self.inside.table.capacity c.self.inside.values c.self.inside.state c.self.inside.left).lists in
    let pairs = was.pairs in
    let link = c.listed_link.result in
    let count = count_of_values g.met.K.Eq.laws c.self.invariant.agrees k c.args.place link has c.listed_link.ensures.link_is in
    let some = slice_get_within (values_of g.K.PartialEq.eq pairs k) 0 first first_is in
    let few : link.length < 2 = grind (arith, common_steps) in
    let one : length (values_of g.K.PartialEq.eq pairs k) ≡ 1 = omega (arith, count, some, few) in
    record {
      lists = ap (λ ps. lists was.keys ps) (sym (with_only-itself (g.K.PartialEq.eq k) pairs first first_is one));
      taken = record { freed = omega (arith, one); paid = omega (arith, one) };
    })
