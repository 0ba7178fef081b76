use Rattle.std.proofs.Common.{Some, ap, arith, sym, ◌∙◌}
use Rattle.std.proofs.lemmas.Option.{slice_get-get_or}
use Rattle.multimap_slots.proofs.Callers.Tapes.{listed_used}
use Rattle.multimap_slots.proofs.tape.Tape.listed_link.Goals as goal

pub index-requires : goal.index-requires
index-requires g c =
    let within = listed_used c.self.invariant c.args.place (rw (← c.self.view_is) at c.requires) in
    omega (arith, within, c.self.invariant.links_used, c.self.inside.links.ok)

pub returns-clause-link : goal.returns-clause-link
returns-clause-link g c =
    let listed = rw (← c.self.view_is) at c.requires in
    let within = listed_used c.self.invariant c.args.place listed in
    rw (← c.self.view_is)
    (record {
      listed = listed;
      link_is = slice_get-get_or c.self.inside.links.items c.args.place c.index.result.now
          (omega (arith, within, c.self.invariant.links_used)) ∙ ap Some (sym (c.link.ensures.link ∙ c.index.ensures));
    })
