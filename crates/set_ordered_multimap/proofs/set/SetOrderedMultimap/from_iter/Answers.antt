use Rattle.std.proofs.Common.{ap, arith, ◌∙◌}
use Rattle.set_ordered_multimap.proofs.Callers.FirstPairs.{keeps_first_pairs}
use Rattle.set_ordered_multimap.specs.Set.{all_inserted}
use Rattle.set_ordered_multimap.proofs.set.SetOrderedMultimap.from_iter.Goals as goal

pub returns-clause-built : goal.returns-clause-built
returns-clause-built g c =
    let i = c.in_default.ensures.inserts in (
      i.0,
      i.1,
      i.2,
      i.3 ∙ ap (λ m. all_inserted g.K.PartialEq.eq g.V.PartialEq.eq m i.1) c.with_hasher-set.ensures.new.new.empty.empty
          ∙ keeps_first_pairs g.met.K.Eq.laws g.met.V.Eq.laws i.1,
      i.4,
    )

pub returns-clause-unused : goal.returns-clause-unused
returns-clause-unused g c =
    let new = c.with_hasher-set.ensures.new.new.empty.unused in
    let taken = c.in_default.ensures.grows.grows.taken in
    record {
      moved = omega (arith, new.moved, new.holes, taken.paid);
      freed = omega (arith, new.freed, taken.freed);
      holes = omega (arith, new.moved, new.holes, taken.paid);
    }
