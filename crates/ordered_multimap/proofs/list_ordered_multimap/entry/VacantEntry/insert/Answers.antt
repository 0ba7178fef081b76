use Rattle.std.proofs.Common.{refl}
use Rattle.ordered_multimap.specs.Writes.{with_first}
use Rattle.ordered_multimap.proofs.Append.Entries.{new_first, written_last}
use Rattle.ordered_multimap.proofs.list_ordered_multimap.entry.VacantEntry.insert.Goals as goal

pub returns-in-Ok : goal.returns-in-Ok
returns-in-Ok g c =
    let x = c.args.self in let new = c.append_new.new.self in let f = c.first_mut_at.ensures in
    let has = c.in-Ok.ensures.found in (
      (
        refl,
        (λ w ok. written_last g.met.K.Eq.laws x.map.now new
            (with_first new c.in-Ok.place w) x.key c.args.value w x.unlisted x.absent c.in-Ok.ensures.appends.ok (f.written x.key has w)),
        tt,
      ),
      record {
        writes_back = tt;
        value = new_first g.met.K.Eq.laws x.map.now.lists new.lists x.key c.args.value _ x.unlisted x.absent
            c.in-Ok.ensures.appends.ok.lists (f.value x.key has);
        refused = tt;
        succeeds = λ room. refl;
      },
    )
