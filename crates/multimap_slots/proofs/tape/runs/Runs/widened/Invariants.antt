use Rattle.std.proofs.Common.{◌≡◌, take}
use Rattle.multimap_slots.proofs.tape.runs.Runs.widened.Given as goal

abbrev pub invariant-loop-place : goal.invariant-loop-place
invariant-loop-place g l = record {
  copied : l.numbers.items ≡ take l.place l.self-inside.numbers.items;
  exact : l.numbers.cap ≡ l.slots;
}
