use Rattle.std.proofs.Common.{arith, ap, rules, sym, unwrap_or}
use Rattle.multimap_slots.specs.SlotCells.{lent_slots}
use Rattle.multimap_walks.specs.Ends.{end_place}
use Rattle.multimap_walks.proofs.Callers.Along.{left_after, neighbour_stands, takes_end}
use Rattle.multimap_walks.proofs.WritingLemmas.{end_is_left, neighbour_is_left}
use Rattle.multimap_walks.proofs.writing.rest_after.Goals as goal

pub neighbour-requires-clause-left : goal.neighbour-requires-clause-left
neighbour-requires-clause-left g c =
    rw c.place_at-place.ensures (end_is_left c.args.cells.now c.args.left (omega (arith, c.if-left-gt1.true)) c.requires c.args.end)

pub neighbour-requires-clause-neighbour : goal.neighbour-requires-clause-neighbour
neighbour-requires-clause-neighbour g c =
    rw c.place_at-place.ensures
    (neighbour_is_left c.args.cells.now c.args.left (omega (arith, c.if-left-gt1.true)) c.requires c.args.end
    (omega (arith, c.if-left-gt1.true)))

pub neighbour-requires-clause-more : goal.neighbour-requires-clause-more
neighbour-requires-clause-more g c =
    rw c.place_at-place.ensures
    (neighbour_stands (lent_slots c.args.cells.now).order c.args.left (omega (arith, c.if-left-gt1.true)) c.requires.are_left
    c.args.end (omega (arith, c.if-left-gt1.true)))

pub returns-then-left-gt1-clause-are_left : goal.returns-then-left-gt1-clause-are_left
returns-then-left-gt1-clause-are_left g c =
    let order = (lent_slots c.args.cells.now).order in
    let told = rw c.place_at-place.ensures at c.neighbour.ensures in
    rw c.after.ensures
    (left_after order c.args.left (omega (arith, c.if-left-gt1.true)) c.requires.are_left c.args.end _
    (ap (λ o. unwrap_or o (end_place c.args.end c.args.left)) (sym told)))

pub returns-then-left-gt1-clause-taken : goal.returns-then-left-gt1-clause-taken
returns-then-left-gt1-clause-taken g c =
    let order = (lent_slots c.args.cells.now).order in
    let told = rw c.place_at-place.ensures at c.neighbour.ensures in
    rw c.after.ensures
    (record {
      places_are =
          takes_end order c.args.left (omega (arith, c.if-left-gt1.true)) c.requires.are_left c.args.end _
          (ap (λ o. unwrap_or o (end_place c.args.end c.args.left)) (sym told));
      count = search rules;
    })
