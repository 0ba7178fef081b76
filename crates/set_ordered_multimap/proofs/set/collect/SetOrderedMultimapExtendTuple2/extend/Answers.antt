use Rattle.ordered_multimap.proofs.Append.Extended.{Yields-before}
use Rattle.set_ordered_multimap.proofs.Insertions.{inserts_pairs}
use Rattle.set_ordered_multimap.proofs.set.collect.SetOrderedMultimapExtendTuple2.extend.Goals as goal

pub returns-in-Ok : goal.returns-in-Ok
returns-in-Ok g c =
    let e = c.in-Ok.ensures in let i = e.inserts in let grows = e.grows.grows in
    record {
      ran = (i.0, i.1, i.2, inserts_pairs i.3 e.set grows, i.4);
      refused = tt;
      grows = record { grows = grows; succeeds = λ room. e.grows.succeeds room };
    }

pub returns-in-Err : goal.returns-in-Err
returns-in-Err g c =
    let e = c.in-Err.ensures in let i = e.inserts in let grows = e.grows.grows in
    record {
      ran = (i.0, i.1, i.2, inserts_pairs i.3 e.set grows, Yields-before g.I.IntoIter.Iterator.next_gives i.0 i.1 _ i.4.0 i.4.1);
      refused = (_, record { inserts = i; full = e.full });
      grows = record { grows = grows; succeeds = λ room. e.grows.succeeds room };
    }
