use Rattle.std.proofs.Common.{◌≡◌, get_or, Some, refl, sym, subst, ◌∙◌}
use Rattle.std.proofs.lemmas.List.{get_or_default}
use Rattle.multimap_slots.specs.Slots.{PushesBack}
use Rattle.multimap_walks.specs.declared.links.ValueLink.{ValueLink}
use Rattle.multimap_walks.specs.Packed.{HasSmallPlaces}
use Rattle.ordered_multimap.proofs.list_ordered_multimap.clone.steps.clone_value.Goals as goal

pub push_reserved-requires-clause-fits : goal.push_reserved-requires-clause-fits
push_reserved-requires-clause-fits g c =
    let small = subst HasSmallPlaces (sym c.ranked_value-link.ensures)
    (c.requires.small c.value_at.result.1 c.value_at.ensures.slot.link_is) in
    λ _. record { previous = small.previous; next = small.next }

pub returns-clause-copied : goal.returns-clause-copied
returns-clause-copied g c =
    let v = c.value_at.ensures.slot in
    let p = c.push_reserved.ensures in
    let old : ValueLink = c.value_at.result.1 in
    let new_places = c.args.new_places.now.items in
    let ranked : ValueLink = c.ranked_value-link.result in
    let link : ValueLink = record ranked { key = c.index-key.result.now } in
    let key_is : c.index-key.result.now ≡ get_or new_places old.key 0 =
    c.index-key.ensures ∙ sym (get_or_default new_places old.key 0 c.index-key.result.now (c.requires.named old v.link_is)) in
    record {
      copy = c.in_ok-copy.copy;
      link = link;
      stands = record {
        original = c.value_at.result.0.now;
        original_link = old;
        copy = c.in_ok-copy.copy;
        was = v.item_is;
        link_was = v.link_is;
        cloned = c.in_ok-copy.ensures.cases;
        item_is = refl;
        link_is = λ i. Some (record (c.ranked_value-link.ensures i) { key = key_is i });
      };
      pushed = subst (λ to. PushesBack c.args.copies.now.list c.push_reserved.new.self.list to c.in_ok-copy.copy link) p.behind p.pushed;
    }
