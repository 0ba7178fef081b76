use Rattle.std.proofs.Common.{◌≤◌, ◌<◌, ◌+◌, ◌/◌, IsOk, OnErr, OnOk, ap, length, refl, arith, subst}
use Rattle.std.proofs.lemmas.Result.{on_ok_weaker}
use Rattle.ordered_multimap.specs.Agrees.{lists_of}
use Rattle.ordered_multimap.specs.Rooms.{OnlyGrows, SameRooms}
use Rattle.ordered_multimap.proofs.Pack.Capacities.{agrees-widened, fits_values, values_fit, same_value_rooms}
use Rattle.ordered_multimap.proofs.Append.Rooms.{half_doubles, keeps_rooms, map_of, short_on_err}
use Rattle.ordered_multimap.proofs.list_ordered_multimap.ListOrderedMultimap.reserve_values.Goals as goal

pub invariant_of-self : goal.invariant_of-self
invariant_of-self g c =
    let same = c.reserve.ensures.unchanged in
    record {
      agrees = agrees-widened c.self.invariant.agrees refl (ap (λ t. t.list) same) (omega arith) c.reserve.ensures.capacity;
      fits = omega (arith, c.self.invariant.fits, ap (λ t. length t.list.order) same, c.reserve.ensures.capacity);
      paid = omega (arith, c.self.invariant.paid, ap (λ t. t.moved) same, ap (λ t. t.freed) same, ap (λ t. t.holes) same);
    }

pub returns-clause-room : goal.returns-clause-room
returns-clause-room g c =
    subst (λ m. OnOk c.reserve.result (length m.lists.pairs + c.args.additional ≤
    (map_of c.self.inside.keys c.self.inside.table.capacity c.reserve.new.self c.self.inside.state c.self.inside.left).value_room))
    c.self.view_is
    (on_ok_weaker c.reserve.result (values_fit c.self.inside.keys c.self.inside.values c.self.invariant.agrees c.self.inside.table.capacity
    c.self.inside.state c.self.inside.left c.args.additional c.reserve.ensures.unchanged) c.reserve.ensures.room)

pub returns-clause-succeeds : goal.returns-clause-succeeds
returns-clause-succeeds g c =
    subst (λ m. length m.lists.pairs + c.args.additional ≤ m.value_room → IsOk c.reserve.result) c.self.view_is
    (λ few. c.reserve.ensures.succeeds (fits_values c.self.inside.keys c.self.inside.values c.self.invariant.agrees
    c.self.inside.table.capacity c.self.inside.state c.self.inside.left c.args.additional few))

pub returns-clause-had_room : goal.returns-clause-had_room
returns-clause-had_room g c =
    subst (λ m. length m.lists.pairs + c.args.additional ≤ m.value_room
    → SameRooms m (map_of c.self.inside.keys c.self.inside.table.capacity c.reserve.new.self c.self.inside.state c.self.inside.left))
    c.self.view_is
    (same_value_rooms c.self.inside.keys c.self.inside.values c.self.invariant.agrees c.self.inside.table.capacity c.self.inside.state
    c.self.inside.left c.args.additional c.reserve.ensures.had_room)

pub returns-clause-grows : goal.returns-clause-grows
returns-clause-grows g c =
    subst (λ m. OnlyGrows m (map_of c.self.inside.keys c.self.inside.table.capacity c.reserve.new.self c.self.inside.state
    c.self.inside.left)) c.self.view_is
    (record {
      lists = ap (λ t. lists_of c.self.inside.keys t.list) c.reserve.ensures.unchanged;
      rooms = keeps_rooms _ _ _ _ _ _ _ _ _ _ _ _ _ (omega arith) (omega arith) c.reserve.ensures.capacity;
      doubles = record { keys = λ more. absurd (omega (arith, more)); values = half_doubles _ _ c.reserve.ensures.doubles };
    })

pub returns-clause-full : goal.returns-clause-full
returns-clause-full g c =
    subst (λ m. OnErr c.reserve.result (c.reserve.new.self.list.capacity / 2 < length m.lists.pairs + c.args.additional)) c.self.view_is
    (short_on_err (λ capacity. capacity / 2) c.reserve.new.self.list.capacity c.self.inside.values.list.capacity _ c.reserve.result c.reserve.ensures.refused
    (λ few. c.reserve.ensures.succeeds (fits_values c.self.inside.keys c.self.inside.values c.self.invariant.agrees
    c.self.inside.table.capacity c.self.inside.state c.self.inside.left c.args.additional few)))
