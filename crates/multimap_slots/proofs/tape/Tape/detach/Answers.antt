use Rattle.std.proofs.Common.{ap, refl, arith}
use Rattle.multimap_slots.proofs.Changes.SlotLists.{Detaches-kept}
use Rattle.multimap_slots.proofs.Callers.Tapes.{IsTape-detach}
use Rattle.multimap_slots.proofs.tape.Tape.detach.Goals as goal

pub invariant_of-self : goal.invariant_of-self
invariant_of-self g c = IsTape-detach c.self.invariant c.remove.new.self c.args.place (ap (λ s. s.order) c.remove.ensures.removed)
    (ap (λ s. s.used) c.remove.ensures.removed)
    (omega (arith, c.self.invariant.items_fit, ap (λ s. s.capacity) c.remove.ensures.removed))
    (omega (arith, c.self.invariant.links_fit, ap (λ s. s.capacity) c.remove.ensures.removed))

pub returns-clause-detached : goal.returns-clause-detached
returns-clause-detached g c =
    rw (← c.self.view_is) (Detaches-kept _ _ c.args.place (ap (λ s. s.order) c.remove.ensures.removed) c.remove.ensures.shorter refl refl)

pub returns-clause-freed : goal.returns-clause-freed
returns-clause-freed g c = rw (← c.self.view_is) (record {
  moved = refl;
  freed = c.count_one.ensures;
  holes = omega (arith, (ap (λ s. s.used) c.remove.ensures.removed), c.remove.ensures.shorter, c.len-len.ensures.sound.among);
})
