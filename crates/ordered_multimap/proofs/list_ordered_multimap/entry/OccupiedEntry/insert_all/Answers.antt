use Rattle.std.proofs.Common.{ap, length, refl, sym, ◌∙◌, subst}
use mathlib.Core.Option.{some}
use Rattle.ordered_multimap.specs.Detaches.{left_of}
use Rattle.ordered_multimap.specs.Pairs.{values_of}
use Rattle.ordered_multimap.specs.Rooms.{KeepsRooms, RaisesNoRoom}
use Rattle.ordered_multimap.specs.TapeNumbers.{TakesOut}
use Rattle.ordered_multimap.proofs.list_ordered_multimap.entry.OccupiedEntry.insert_all.Goals as goal

pub returns-in-Ok : goal.returns-in-Ok
returns-in-Ok g c =
    let m = c.args.self.map.now in
    let d = c.insert_detaching_at.ensures in
    let ok = c.in-Ok.ensures in
    let same = c.lend_to_drain.ensures.same in (
      (ap some (sym c.lend_to_drain.ensures.same_map), (λ w. refl), tt),
      record {
        rest = tt;
        drain = λ k is. record {
          left = ap left_of same ∙ (ok.ok k is).left;
          lists = ap (λ n. n.lists) same ∙ (ok.ok k is).loses.lists;
          rooms = subst (KeepsRooms m) (sym same) d.rooms;
          had_room = subst (RaisesNoRoom g.K.PartialEq.eq k m) (sym same) (d.had_room k is);
          taken = subst (λ n. TakesOut (length (values_of g.K.PartialEq.eq m.lists.pairs k)) m.tape n.tape) (sym same)
              (ok.ok k is).loses.taken;
        };
        same_map = c.lend_to_drain.ensures.same_map;
        refused = tt;
        succeeds = λ room. refl;
      },
    )

pub returns-in-Err : goal.returns-in-Err
returns-in-Err g c =
    let d = c.insert_detaching_at.ensures in
    let e = c.in-Err.ensures in (
      (
        refl,
        (λ w. tt),
        record {
          lists = e.unchanged.lists;
          rooms = d.rooms;
          had_room = d.had_room;
          taken = e.unchanged.taken;
          full = λ key is room. e.full room.value;
        },
      ),
      record { rest = tt; drain = tt; same_map = tt; refused = e.refused; succeeds = e.succeeds },
    )
