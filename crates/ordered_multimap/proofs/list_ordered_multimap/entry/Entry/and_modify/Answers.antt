use Rattle.std.proofs.Common.{refl}
use Rattle.ordered_multimap.proofs.list_ordered_multimap.entry.Entry.and_modify.Goals as goal

pub returns-in-Occupied-clause-modified : goal.returns-in-Occupied-clause-modified
returns-in-Occupied-clause-modified g c =
    let left = c.f.new.arg2 in
    rw c.in-Occupied.is (record {
      was = c.get_mut.result.now;
      left = left;
      first = c.get_mut.ensures.value;
      called = record { lent = c.get_mut.result; result = c.f.result; left = _; before = refl; met = c.f.ensures; after = refl };
      written = λ k is. c.get_mut.ensures.written k is left;
    })
