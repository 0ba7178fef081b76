use Rattle.ordered_multimap.proofs.Append.Extended.{appends_all, grows_for_all-with, Yields-before}
use Rattle.ordered_multimap.proofs.list_ordered_multimap.ListOrderedMultimap.extend_in_room.Goals as goal

pub returns-in-Ok-clause-extends : goal.returns-in-Ok-clause-extends
returns-in-Ok-clause-extends g c =
    let e = c.in-Ok.ensures in
    let r = e.extends in
    record { ran = (r.0, r.1, r.2, appends_all r.3 e.grows.grows, r.4); grows = grows_for_all-with (λ ok. ok) e.grows }

pub returns-in-Err-clause-extends : goal.returns-in-Err-clause-extends
returns-in-Err-clause-extends g c =
    let e = c.in-Err.ensures in
    let r = e.extends in
    let before = Yields-before g.I.IntoIter.Iterator.next_gives r.0 r.1 r.4.0 r.4.1 r.4.2 in
    record { ran = (r.0, r.1, r.2, appends_all r.3 e.grows.grows, before); grows = grows_for_all-with (λ ok. ok) e.grows }

pub returns-in-Err-clause-stopped : goal.returns-in-Err-clause-stopped
returns-in-Err-clause-stopped g c = let e = c.in-Err.ensures in (c.in-Err.refused, e.extends, e.full)
