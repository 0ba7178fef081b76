use Rattle.std.proofs.Common.{refl}
use Rattle.ordered_multimap.specs.Writes.{with_first}
use Rattle.ordered_multimap.proofs.Append.Entries.{new_first, written_last}
use Rattle.ordered_multimap.proofs.list_ordered_multimap.entry.VacantEntry.insert_made.Goals as goal

pub returns-in-Ok-append_new : goal.returns-in-Ok-append_new
returns-in-Ok-append_new g c =
    let x = c.args.self in let new = c.append_new.new.self in let f = c.first_mut_at.ensures in
    let has = c.in-Ok-append_new.ensures.found in let appends = c.in-Ok-append_new.ensures.appends.ok in (
      (
        refl,
        (λ w ok. written_last g.met.K.Eq.laws x.map.now new
            (with_first new c.in-Ok-append_new.place w) x.key c.in-Ok.value w x.unlisted x.absent appends (f.written x.key has w)),
        tt,
      ),
      record {
        writes_back = tt;
        value = rw (new_first g.met.K.Eq.laws x.map.now.lists new.lists x.key c.in-Ok.value _ x.unlisted x.absent
            appends.lists (f.value x.key has)) c.in-Ok.ensures;
        fault = tt;
        succeeds = record { occupied = λ e. refl; room = λ key own room pair e. absurd (let bad = e in cc) };
      },
    )
