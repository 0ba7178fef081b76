use Rattle.std.proofs.Common.{Some, refl, sym, subst, ap}
use Rattle.multimap_slots.specs.Slots.{PushesBack}
use Rattle.ordered_multimap.proofs.Clone.InPlace.{unmoved_value}
use Rattle.ordered_multimap.proofs.list_ordered_multimap.clone.in_place.clone_value_in_place.Goals as goal

pub returns-clause-copied : goal.returns-clause-copied
returns-clause-copied g c =
    let v = c.value_at.ensures.slot in
    let p = c.push_linked-to.ensures in
    let link = c.value_at.result.1 in
    record {
      copy = c.in_ok-copy.copy;
      link = link;
      stands = record {
        original = c.value_at.result.0.now;
        original_link = link;
        copy = c.in_ok-copy.copy;
        was = v.item_is;
        link_was = v.link_is;
        cloned = c.in_ok-copy.ensures.cases;
        item_is = refl;
        link_is = ap Some (sym (unmoved_value link));
      };
      pushed = subst (λ to. PushesBack c.args.copies.now.list c.push_linked-to.new.self.list to c.in_ok-copy.copy link) p.behind
          (p.pushed link v.link_is);
    }
