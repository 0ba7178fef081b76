use Rattle.std.proofs.Common.{◌/◌, Some, None, refl, sym, ap, ◌∙◌, subst, min}
use Rattle.multimap_walks.specs.Chained.{pair_at, pairs_of}
use Rattle.ordered_multimap.specs.Pairs.{has_items}
use Rattle.ordered_multimap.specs.Popped.{popped_pair}
use Rattle.ordered_multimap.specs.PopAnswers.{IsPopped, IsTaken}
use Rattle.ordered_multimap.specs.TapeNumbers.{numbers_of}
use Rattle.ordered_multimap.specs.Agrees.{lists_of}
use Rattle.ordered_multimap.proofs.Append.Appended.{stays_paid}
use Rattle.ordered_multimap.proofs.Append.Rooms.{map_of}
use Rattle.ordered_multimap.proofs.Remove.OnePair.{has_pair}
use Rattle.ordered_multimap.proofs.Remove.AtEnds.{end_listed, none_at_end, popped-none, popped_pair-none, leaves, takes_one_out}
use Rattle.ordered_multimap.proofs.Remove.AtEnds.{takes_none_out}
use Rattle.ordered_multimap.proofs.Remove.AtEnds.{fits-pair}
use Rattle.ordered_multimap.proofs.list_ordered_multimap.ListOrderedMultimap.take_end.Goals as goal

pub take_pair_at-requires : goal.take_pair_at-requires
take_pair_at-requires g c =
    has_pair c.self.invariant.agrees c.in-Some.place
    (end_listed c.args.end c.self.inside.values.list.order c.in-Some.place (sym c.place_at_end.ensures ∙ c.in-Some.is))

-- a pair at the end

pub invariant_of-self : goal.invariant_of-self
invariant_of-self g c =
    let t = c.take_pair_at.ensures in
    let left = leaves g.met.K.Eq.laws c.self.invariant.agrees c.args.end c.in-Some.place
    (sym c.place_at_end.ensures ∙ c.in-Some.is) c.take_pair_at.result t.takes in
    record {
      agrees = left.agrees;
      fits = fits-pair c.self.inside.keys c.take_pair_at.new.keys c.self.inside.table.rows c.take_pair_at.new.table.rows
          c.self.inside.values c.take_pair_at.new.values c.in-Some.place c.take_pair_at.result t.takes t.room.value_room
          c.self.invariant.fits;
      paid = stays_paid (takes_one_out c.self.inside.values c.take_pair_at.new.values t.frees _ left.some) c.self.invariant.paid;
    }

pub returns-in-Some-clause-popped : goal.returns-in-Some-clause-popped
returns-in-Some-clause-popped g c =
    let t = c.take_pair_at.ensures in
    let left = leaves g.met.K.Eq.laws c.self.invariant.agrees c.args.end c.in-Some.place
    (sym c.place_at_end.ensures ∙ c.in-Some.is) c.take_pair_at.result t.takes in
    subst (λ m. IsPopped g.K.PartialEq.eq c.args.end m
    (map_of c.take_pair_at.new.keys c.take_pair_at.new.table.capacity c.take_pair_at.new.values c.self.inside.state c.self.inside.left))
    c.self.view_is
    (record {
      lists = left.lists_are;
      rooms = record {
        keys = λ i. min (t.room.key_room i) (t.room.row_room i);
        values = ap (λ n. n / 2) t.room.value_room;
        slots = t.room.value_room;
        hasher = refl;
      };
      taken = takes_one_out c.self.inside.values c.take_pair_at.new.values t.frees _ left.some;
    })

pub returns-in-Some-clause-taken : goal.returns-in-Some-clause-taken
returns-in-Some-clause-taken g c =
    let t = c.take_pair_at.ensures in
    let left = leaves g.met.K.Eq.laws c.self.invariant.agrees c.args.end c.in-Some.place
    (sym c.place_at_end.ensures ∙ c.in-Some.is) c.take_pair_at.result t.takes in
    subst (λ m. IsTaken c.take_pair_at.new.keys (popped_pair g.K.PartialEq.eq c.args.end m.lists.pairs) (Some c.take_pair_at.result))
    c.self.view_is left.is_taken

-- no pair

pub returns-in-None-clause-popped : goal.returns-in-None-clause-popped
returns-in-None-clause-popped g c =
    let none = none_at_end (pair_at c.self.inside.keys c.self.inside.values.list) c.args.end c.self.inside.values.list.order
    (sym c.place_at_end.ensures ∙ c.in-None.is) in
    subst (λ m. IsPopped g.K.PartialEq.eq c.args.end m m) c.self.view_is
    (record {
      lists = sym (popped-none g.K.PartialEq.eq c.args.end (lists_of c.self.inside.keys c.self.inside.values.list) none);
      rooms = record { keys = refl; values = refl; slots = refl; hasher = refl };
      taken = takes_none_out (numbers_of c.self.inside.values) _ (ap has_items none);
    })

pub returns-in-None-clause-taken : goal.returns-in-None-clause-taken
returns-in-None-clause-taken g c =
    let none = none_at_end (pair_at c.self.inside.keys c.self.inside.values.list) c.args.end c.self.inside.values.list.order
    (sym c.place_at_end.ensures ∙ c.in-None.is) in
    subst (λ m. IsTaken m.slots.keys (popped_pair g.K.PartialEq.eq c.args.end m.lists.pairs) None) c.self.view_is
    (subst (λ p. IsTaken c.self.inside.keys p None)
    (sym (popped_pair-none g.K.PartialEq.eq c.args.end (pairs_of c.self.inside.keys c.self.inside.values.list) none)) tt)
