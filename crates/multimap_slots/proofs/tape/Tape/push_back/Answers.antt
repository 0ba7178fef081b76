use Rattle.std.proofs.Common.{◌≡◌, ◌∙◌, sym, ap, subst}
use Rattle.multimap_slots.specs.Lists.{IsIn}
use Rattle.multimap_slots.proofs.tape.Tape.push_back.Goals as goal
use Rattle.multimap_slots.proofs.tape.Tape.push_back.Goals.{else-not-has_end_room-via-then-not-has_end_room+else-is_err, else-not-has_end_room-via-else-not-has_end_room}

pub push_reserved-requires-clause-fits : goal.push_reserved-requires-clause-fits
push_reserved-requires-clause-fits g c =
    let same : c.else-not-has_end_room.self.list.order ≡ c.args.self.now.list.order =
    elim c.else-not-has_end_room.branch [
      | else-not-has_end_room-via-then-not-has_end_room+else-is_err w ↦ ap (λ t. t.list.order) (w.self-is ∙ w.grow.ensures.unchanged)
      | else-not-has_end_room-via-else-not-has_end_room w ↦ ap (λ t. t.list.order) w.self-is
    ] in
    λ below. c.requires (λ p i. below p (subst (IsIn p) (sym same) i))
