use Rattle.std.proofs.Common.{◌≤◌, ◌<◌, ◌+◌, min, IsOk, OnErr, OnOk, ap, arith, length, subst}
use Rattle.std.proofs.lemmas.Result.{on_ok_weaker}
use Rattle.ordered_multimap.specs.Agrees.{lists_of}
use Rattle.ordered_multimap.specs.Rooms.{OnlyGrows, SameRooms}
use Rattle.ordered_multimap.proofs.Pack.Capacities.{fits_keys, keys_fit, same_key_rooms}
use Rattle.ordered_multimap.proofs.Append.Rooms.{keeps_rooms, map_of, short_on_err}
use Rattle.ordered_multimap.proofs.list_ordered_multimap.ListOrderedMultimap.reserve_keys.Goals as goal

pub returns-clause-room : goal.returns-clause-room
returns-clause-room g c =
    subst (λ m. OnOk c.make_key_room.result (length m.lists.keys + c.args.additional ≤
    (map_of c.make_key_room.new.keys c.make_key_room.new.table.capacity c.self.inside.values c.self.inside.state
    c.self.inside.left).key_room)) c.self.view_is
    (on_ok_weaker c.make_key_room.result (keys_fit c.self.inside.keys c.self.inside.values c.self.invariant.agrees
    c.self.inside.table.capacity c.self.inside.state c.self.inside.left c.args.additional c.make_key_room.ensures.same_keys)
    c.make_key_room.ensures.room)

pub returns-clause-succeeds : goal.returns-clause-succeeds
returns-clause-succeeds g c =
    subst (λ m. length m.lists.keys + c.args.additional ≤ m.key_room → IsOk c.make_key_room.result) c.self.view_is
    (λ few. c.make_key_room.ensures.succeeds (fits_keys c.self.inside.keys c.self.inside.values c.self.invariant.agrees
    c.self.inside.table.capacity c.self.inside.state c.self.inside.left c.args.additional few))

pub returns-clause-had_room : goal.returns-clause-had_room
returns-clause-had_room g c =
    subst (λ m. length m.lists.keys + c.args.additional ≤ m.key_room
    → SameRooms m (map_of c.make_key_room.new.keys c.make_key_room.new.table.capacity c.self.inside.values c.self.inside.state
    c.self.inside.left)) c.self.view_is
    (same_key_rooms c.self.inside.keys c.self.inside.values c.self.invariant.agrees c.self.inside.table.capacity c.self.inside.state
    c.self.inside.left c.args.additional c.make_key_room.ensures.grows)

pub returns-clause-grows : goal.returns-clause-grows
returns-clause-grows g c =
    subst (λ m. OnlyGrows m (map_of c.make_key_room.new.keys c.make_key_room.new.table.capacity c.self.inside.values c.self.inside.state
    c.self.inside.left)) c.self.view_is
    (record {
      lists = ap (λ s. lists_of s c.self.inside.values.list) c.make_key_room.ensures.same_keys;
      rooms = keeps_rooms _ _ _ _ _ _ _ _ _ _ _ _ _ c.make_key_room.ensures.grows.more_keys c.make_key_room.ensures.grows.more_rows
          (omega arith);
      doubles = record { keys = c.make_key_room.ensures.grows.doubles; values = λ more. absurd (omega (arith, more)) };
    })

pub returns-clause-full : goal.returns-clause-full
returns-clause-full g c =
    let n = c.make_key_room.new in
    subst (λ m. OnErr c.make_key_room.result (min n.keys.capacity n.table.capacity < length m.lists.keys + c.args.additional)) c.self.view_is
    (short_on_err (λ room. room) (min n.keys.capacity n.table.capacity) (min c.self.inside.keys.capacity c.self.inside.table.capacity) _
    c.make_key_room.result c.make_key_room.ensures.refused
    (λ few. c.make_key_room.ensures.succeeds (fits_keys c.self.inside.keys c.self.inside.values c.self.invariant.agrees
    c.self.inside.table.capacity c.self.inside.state c.self.inside.left c.args.additional few)))
