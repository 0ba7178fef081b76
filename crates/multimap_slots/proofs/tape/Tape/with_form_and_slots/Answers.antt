use Rattle.std.proofs.Common.{ap, arith}
use Rattle.multimap_slots.proofs.tape.Tape.with_form_and_slots.Goals as goal

pub returns-clause-slots : goal.returns-clause-slots
returns-clause-slots g c =
    omega (
      arith,
      c.in_ok-links.ensures.capacity,
      ap (λ r. r.capacity) c.over-runs.ensures,
      c.in_ok-with_capacity.ensures.capacity,
      c.in_ok-with_capacity-2.ensures.capacity,
    )
