use Rattle.std.proofs.Common.{Some, ap, arith, sym, ◌∙◌}
use Rattle.std.proofs.lemmas.Option.{slice_get-get_or}
use Rattle.multimap_slots.proofs.lent_order.TapeOrderLinked.link.Goals as goal

pub index-requires : goal.index-requires
index-requires g c =
    let within = c.len-len.ensures.sound.within c.args.place (rw (← c.self.view_is) at c.requires) in
    omega (arith, within, c.self.invariant, c.self.inside.links.now.ok)

pub returns : goal.returns
returns g c =
    let within = c.len-len.ensures.sound.within c.args.place (rw (← c.self.view_is) at c.requires) in
    rw (← c.self.view_is) (slice_get-get_or c.self.inside.links.now.items c.args.place c.index.result.now
    (omega (arith, within, c.self.invariant)) ∙ ap Some (sym (c.link.ensures.link ∙ c.index.ensures)))
