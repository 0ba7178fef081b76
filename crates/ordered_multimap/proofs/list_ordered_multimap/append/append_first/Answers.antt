use Rattle.std.proofs.Common.{rules, ap, sym, ◌∙◌, subst}
use Rattle.ordered_multimap.specs.Private.Append.{PushesRow, link_of_one}
use Rattle.ordered_multimap.proofs.Append.Steps.{ok_if, new_listed}
use Rattle.ordered_multimap.proofs.list_ordered_multimap.append.append_first.Goals as goal

pub returns-then-is_err-clause-unchanged : goal.returns-then-is_err-clause-unchanged
returns-then-is_err-clause-unchanged g c = search rules

pub returns-clause-found : goal.returns-clause-found
returns-clause-found g c =
    let p = c.push_row-place.ensures.pushed.key_pushed in
    record { listed = new_listed p; item_is = p.item_is }

pub returns-clause-ok : goal.returns-clause-ok
returns-clause-ok g c =
    let last = c.push_value.ensures.last in
    let link_is = c.new_link-link.ensures ∙ ap (link_of_one c.args.hash) (c.push_place.ensures.end ∙ sym last.behind) in
    record {
      keys_reserved = c.make_room.new.keys;
      rows_reserved = c.make_room.new.table.rows;
      reserved = c.make_room.new.values.list;
      relocated = c.make_room.ensures.relocated;
      same_rows = c.make_room.ensures.same_rows;
      fits = (ok_if c.make_room.result (sym c.is_err.ensures.value ∙ c.if-is_err.false) c.make_room.ensures.room).key;
      place = c.push_row-place.result;
      last = c.push_value.result;
      row = subst (PushesRow c.make_room.new.keys c.push_row-place.new.keys c.make_room.new.table.rows c.push_row-place.new.table.rows
          c.push_row-place.result c.args.key) link_is c.push_row-place.ensures.pushed;
      value_pushed = c.push_value.ensures.pushed;
      sound = last.sound;
    }
