use Rattle.std.proofs.Common.{inl}
use Rattle.multimap_tool.proofs.run.swap.Goals as goal

pub returns-in-Ok : goal.returns-in-Ok
returns-in-Ok g c = record {
  step = inl (tt, c.in-Ok.ensures.lists (λ k c' _. c.requires.keys k c') (λ v c' _. c.requires.values v c'));
  hasher = λ same. same _ _ c.in-Ok.ensures.hasher;
  rooms = λ never. absurd never;
  finds_room = tt;
  makes_room = tt;
  unused = λ makes done. c.in-Ok.ensures.unused;
}
