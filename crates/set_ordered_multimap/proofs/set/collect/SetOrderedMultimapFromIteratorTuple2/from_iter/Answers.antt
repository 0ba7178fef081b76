use Rattle.std.proofs.Common.{sym, subst}
use Rattle.set_ordered_multimap.proofs.set.collect.SetOrderedMultimapFromIteratorTuple2.from_iter.Goals as goal

pub returns : goal.returns
returns g c =
    let e = c.in_ok-from_iter.ensures in
    let r = e.built in
    record {
      ran = (
        r.0,
        r.1,
        r.2,
        (r.4.1.0, r.4.1.1, λ _. (r.4.0, r.4.1.2)),
        record {
          lists = r.3;
          set = e.set;
          hasher = subst g.S.Default.is_default (sym e.hasher) c.default.ensures;
          unused = e.unused;
        },
      );
    }
