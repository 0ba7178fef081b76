use Rattle.std.proofs.Common.{None, Some, ap, arith, sym, ◌∙◌}
use Rattle.std.proofs.lemmas.List.{get_or_default}
use Rattle.std.proofs.lemmas.Option.{slice_get-get_or}
use Rattle.multimap_slots.proofs.Callers.Tapes.{IsSome-within}
use Rattle.multimap_slots.proofs.tape.Tape.get_detached.Goals as goal

pub returns : goal.returns
returns g c =
    let some = rw (← c.self.view_is) at c.requires.has_item in
    let within = IsSome-within c.self.inside.items.items c.args.place some in
    rw (← c.self.view_is) (record {
      not_listed = rw (← c.self.view_is) at c.requires.not_listed;
      item_is = get_or_default c.self.inside.items.items c.args.place None c.index.result.now within ∙ sym c.index.ensures ∙ c.in-Some.is;
      link_is = slice_get-get_or c.self.inside.links.items c.args.place c.index-in-Some.result.now
          (omega (arith, within, c.self.invariant.items_used, c.self.invariant.links_used)) ∙ ap Some (sym (c.link.ensures.link ∙ c.index-in-Some.ensures));
    })
