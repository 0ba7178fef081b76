use Rattle.std.proofs.Common.{rules}
use Rattle.std.proofs.lemmas.Map.Keys.{IsDistinct-IsPermutation}
use Rattle.set_ordered_multimap.proofs.Callers.Sets.{pair_laws}
use Rattle.set_ordered_multimap.specs.Set.{same_pair}
use Rattle.set_ordered_multimap.proofs.set.SetOrderedMultimap.sort_by.Goals as goal

pub returns-clause-reordered : goal.returns-clause-reordered
returns-clause-reordered g c =
    let e = c.sort_by.ensures.reordered in
    rw (← c.self.view_is) (record {
      reordered = e;
      set = IsDistinct-IsPermutation (same_pair g.K.PartialEq.eq g.V.PartialEq.eq) (pair_laws g.met.K.Eq.laws g.met.V.Eq.laws).symm _ _
          e.pairs;
    })

pub returns-clause-sorted : goal.returns-clause-sorted
returns-clause-sorted g c = search rules
