use Rattle.std.proofs.Common.{true≢false, sym, ap, subst}
use Rattle.ordered_multimap.specs.Extends.{AppendsAll}
use Rattle.set_ordered_multimap.proofs.Lacked.{room_for_lacked, cleared-then}
use Rattle.set_ordered_multimap.proofs.set.append_set.append_lacked.Goals as goal

pub unreachable-requires : goal.unreachable-requires
unreachable-requires g c = true≢false (sym (c.in-Err.ensures.succeeds (room_for_lacked g.K.PartialEq.eq g.V.PartialEq.eq c.args.map.now
    c.args.other.now c.drop_present.new.other c.requires.room c.drop_present.ensures.lists)))

pub returns-clause-appends : goal.returns-clause-appends
returns-clause-appends g c =
    let eq = g.K.PartialEq.eq in
    let dropped = c.drop_present.ensures in
    let moved = c.in-Ok.ensures.ok in
    record {
      appended = subst (λ ps. AppendsAll eq c.args.map.now ps c.append_map.new.self) (ap (λ m. m.pairs) dropped.lists) moved.appended;
      cleared = cleared-then eq g.V.PartialEq.eq dropped.rooms dropped.taken dropped.fewer moved.cleared;
    }

pub returns-clause-rooms : goal.returns-clause-rooms
returns-clause-rooms g c = c.in-Ok.ensures.had_room (room_for_lacked g.K.PartialEq.eq g.V.PartialEq.eq c.args.map.now
    c.args.other.now c.drop_present.new.other c.requires.room c.drop_present.ensures.lists)
