use Rattle.std.proofs.Common.{◌≡◌, Some, sym, subst, arith, ap, ◌∙◌}
use Rattle.multimap_slots.specs.Slots.{IsDetached, TakesDetached, link_at}
use Rattle.multimap_walks.specs.Walk.{with_end}
use Rattle.multimap_walks.proofs.Callers.Chains.{steps_to}
use Rattle.ordered_multimap.specs.Detaches.{HoldsDrain, IsDrained, KeepsListed, drained, left_of}
use Rattle.ordered_multimap.proofs.Detach.DrainSteps.{keeps_slots, agrees-listed}
use Rattle.ordered_multimap.proofs.Detach.KeptByDrains.{end_detached, end_given, end_rest, fits-listed, paid-listed, keeps_listed}
use Rattle.ordered_multimap.proofs.Append.Rooms.{map_of}
use Rattle.ordered_multimap.proofs.list_ordered_multimap.ListOrderedMultimap.take_left.Goals as goal

pub take_detached_linked-value-requires : goal.take_detached_linked-value-requires
take_detached_linked-value-requires g c =
    let i = c.self.inside in
    subst (IsDetached i.values.list) (sym c.place_at-place.ensures)
    (end_detached i.left ∣ subst HoldsDrain (sym c.self.view_is) c.requires ∣₁ (omega (arith, c.if-self-eq0.false)) c.args.end)

pub invariant_of-self : goal.invariant_of-self
invariant_of-self g c =
    let i = c.self.inside in
    let t = c.take_detached_linked-value.ensures in
    let detached = subst (IsDetached i.values.list) (sym c.place_at-place.ensures)
    (end_detached i.left ∣ subst HoldsDrain (sym c.self.view_is) c.requires ∣₁ (omega (arith, c.if-self-eq0.false)) c.args.end) in
    let keeps = keeps_slots c.self.invariant.agrees.values_sound detached t.taken in
    record {
      agrees = agrees-listed c.self.invariant.agrees keeps t.capacity;
      fits = fits-listed i.values c.take_detached_linked-value.new.self keeps t.capacity c.self.invariant.fits;
      paid = paid-listed i.values c.take_detached_linked-value.new.self t.counts c.self.invariant.paid;
    }

pub returns-clause-drain : goal.returns-clause-drain
returns-clause-drain g c =
    let i = c.self.inside in
    let t = c.take_detached_linked-value.ensures in
    let at = c.place_at-place.ensures in
    let some = ∣ subst HoldsDrain (sym c.self.view_is) c.requires ∣₁ in
    let detached = subst (IsDetached i.values.list) (sym at) (end_detached i.left some (omega (arith, c.if-self-eq0.false)) c.args.end) in
    let l = c.take_detached_linked-value.result.1 in
    record {
      holds = subst (IsDrained c.take_detached_linked-value.new.self.list) (sym c.after-self-inside.ensures)
          (end_rest i.left some (omega (arith, c.if-self-eq0.false)) l c.unwrap_or.result c.args.end
          (subst (λ p. link_at i.values.list p ≡ Some l) at c.take_detached_linked-value.ensures.link)
          (steps_to c.unwrap_or.ensures c.step_from.ensures)
          (subst (λ p. TakesDetached i.values.list c.take_detached_linked-value.new.self.list p c.take_detached_linked-value.result.0)
          at t.taken));
      kept = subst (λ m. KeepsListed m (map_of i.keys i.table.capacity c.take_detached_linked-value.new.self i.state
          c.after-self-inside.result))
          c.self.view_is
          (keeps_listed i.keys i.table.rows i.values c.self.invariant.agrees i.table.capacity i.state i.left c.after-self-inside.result
          c.take_detached_linked-value.new.self (keeps_slots c.self.invariant.agrees.values_sound detached t.taken) t.counts t.capacity);
    }

pub returns-clause-taken : goal.returns-clause-taken
returns-clause-taken g c =
    let i = c.self.inside in
    let at = c.place_at-place.ensures in
    let l = c.take_detached_linked-value.result.1 in
    ap left_of (sym c.self.view_is)
    ∙ end_given i.left ∣ subst HoldsDrain (sym c.self.view_is) c.requires ∣₁ (omega (arith, c.if-self-eq0.false)) l c.unwrap_or.result
    c.args.end (subst (λ p. link_at i.values.list p ≡ Some l) at c.take_detached_linked-value.ensures.link)
    (steps_to c.unwrap_or.ensures c.step_from.ensures)
    (subst (λ p. TakesDetached i.values.list c.take_detached_linked-value.new.self.list p c.take_detached_linked-value.result.0)
    at c.take_detached_linked-value.ensures.taken)
    ∙ ap (λ e. with_end c.args.end c.take_detached_linked-value.result.0 (drained c.take_detached_linked-value.new.self.list e))
    (sym c.after-self-inside.ensures)
