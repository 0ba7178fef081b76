use Rattle.std.proofs.Common.{inl, rules}
use Rattle.multimap_tool.proofs.run.change.append.Goals as goal

pub returns-in-Ok : goal.returns-in-Ok
returns-in-Ok g c = record {
  step = inl (c.in-Ok.ensures.present, c.in-Ok.ensures.ok.lists);
  rooms = search rules;
  finds_room = search rules;
  makes_room = tt;
}
