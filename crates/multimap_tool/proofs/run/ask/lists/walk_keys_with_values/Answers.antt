use Rattle.std.proofs.Common.{◌++◌, ap, length, map, arith}
use Rattle.multimap_tool.proofs.run.ask.lists.walk_keys_with_values.Goals as goal

pub loop-key-init : goal.loop-key-init
loop-key-init g c = record {
  lists = (λ i. map (λ p. (p.0, p.1.items)) (c.in_ok-lists.ensures.items i)
      ++ map (λ p. (p.0, p.1.left)) (c.into_iter-key-iterator.ensures.into_iter_gives i));
  room = omega (
    arith,
    ap length c.in_ok-lists.ensures.items,
    ap length
        c.into_iter-key-iterator.ensures.into_iter_gives,
    c.in_ok-lists.ensures.capacity,
    c.len.ensures.value,
  );
  fewer = omega (arith, ap length c.into_iter-key-iterator.ensures.into_iter_gives);
}
