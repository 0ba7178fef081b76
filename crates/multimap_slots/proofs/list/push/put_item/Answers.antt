use Rattle.std.proofs.Common.{arith, refl, sym, ◌∙◌}
use Rattle.multimap_slots.proofs.Changes.Put.{put-set, put-push}
use Rattle.multimap_slots.proofs.list.push.put_item.Goals as goal

pub returns-then-place-len : goal.returns-then-place-len
returns-then-place-len g c =
    record {
      items = c.push_reserved.ensures.items ∙ sym (put-push _ _ _ (omega (arith, c.args.items.now.ok)));
      capacity = c.push_reserved.ensures.capacity;
    }

pub returns : goal.returns
returns g c =
    record { items = rw c.replace.ensures.after (sym (put-set _ _ _ (omega (arith, c.args.items.now.ok)))); capacity = refl }
