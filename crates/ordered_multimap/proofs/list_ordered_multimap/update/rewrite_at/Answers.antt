use Rattle.std.proofs.Common.{refl}
use Rattle.ordered_multimap.proofs.list_ordered_multimap.update.rewrite_at.Goals as goal

pub returns : goal.returns
returns g c = record {
  link = c.value_at.result.1;
  link_is = c.value_at.ensures.slot.link_is;
  next_is = refl;
  was = c.get_listed_mut.result.now;
  was_is = c.get_listed_mut.ensures.value.item_is;
  left = c.f.new.arg2;
  called = record { shown = _; shows = refl; left = _; called = c.f.ensures; leaves = refl };
  written = refl;
}
