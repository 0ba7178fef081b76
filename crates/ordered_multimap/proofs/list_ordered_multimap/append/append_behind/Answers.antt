use Rattle.std.proofs.Common.{sym, ◌∙◌}
use Rattle.ordered_multimap.proofs.Append.Inserted.{chain-relocated}
use Rattle.ordered_multimap.proofs.Append.Steps.{ok_if}
use Rattle.ordered_multimap.proofs.list_ordered_multimap.append.append_behind.Goals as goal

pub push_behind-requires : goal.push_behind-requires
push_behind-requires g c = let e = c.make_value_room.ensures in record {
  chain = chain-relocated c.requires.chain e.relocated;
  room = ok_if c.make_value_room.result (sym c.is_err.ensures.value ∙ c.if-is_err.false) e.end_room;
}
