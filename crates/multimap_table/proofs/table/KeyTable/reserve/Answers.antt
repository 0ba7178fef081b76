use Rattle.std.proofs.lemmas.Result.{on_ok_weaker}
use Rattle.std.proofs.Common.{ap, ◌∙◌, arith}
use Rattle.std.specs.FinMap as map
use Rattle.multimap_table.specs.Table.{Table}
use Rattle.multimap_table.proofs.TableLemmas.{len_of}
use Rattle.multimap_table.proofs.table.KeyTable.reserve.Goals as goal

pub returns-then-additional-room-clause-room : goal.returns-then-additional-room-clause-room
returns-then-additional-room-clause-room g c =
    let len = len_of _ _ _ c.self.invariant ∙ ap (λ (t : Table). map.len t.rows) c.self.view_is in
    omega (arith, len, c.capacity.ensures.capacity, c.capacity.ensures.fits)

pub grow_to-requires : goal.grow_to-requires
grow_to-requires g c =
    let len = len_of _ _ _ c.self.invariant ∙ ap (λ (t : Table). map.len t.rows) c.self.view_is in
    omega (arith, len, c.capacity.ensures.capacity, c.capacity.ensures.fits, c.in-Some.ensures)

pub returns-clause-succeeds : goal.returns-clause-succeeds
returns-clause-succeeds g c = λ room.
    let len = len_of _ _ _ c.self.invariant ∙ ap (λ (t : Table). map.len t.rows) c.self.view_is in
    absurd (omega (arith, len, c.capacity.ensures.capacity, c.capacity.ensures.fits, room))

pub returns-clause-had_room : goal.returns-clause-had_room
returns-clause-had_room g c = λ room.
    let len = len_of _ _ _ c.self.invariant ∙ ap (λ (t : Table). map.len t.rows) c.self.view_is in
    absurd (omega (arith, len, c.capacity.ensures.capacity, c.capacity.ensures.fits, room))

pub returns-clause-room : goal.returns-clause-room
returns-clause-room g c =
    let len = len_of _ _ _ c.self.invariant ∙ ap (λ (t : Table). map.len t.rows) c.self.view_is in
    on_ok_weaker c.grow_to.result (λ room. omega (arith, len, room, c.in-Some.ensures)) c.grow_to.ensures.room
