use Rattle.std.proofs.Common.{◌≡◌, ℕ, ◌+◌, ◌*◌, ◌<◌, ◌⊎◌, false, get_or}
use Rattle.multimap_table.specs.Private.Layout.{IsBitSet, hash_tag}
use Rattle.multimap_table.specs.Private.Entries.{row_at}
use Rattle.multimap_table.proofs.probe.find_in_group.Given as goal

abbrev pub invariant-loop-matches : goal.invariant-loop-matches
invariant-loop-matches g l = record {
  only : (k : ℕ) → IsBitSet l.matches k → (k < 16) × (get_or l.tags (16 * l.group + k) 0 ≡ hash_tag l.hash);
  left : (k : ℕ) → k < 16 → get_or l.tags (16 * l.group + k) 0 ≡ hash_tag l.hash → (row_at l.rows (16 * l.group + k)).hash ≡ l.hash
      → IsBitSet l.matches k ⊎ goal.F-post g l.test (row_at l.rows (16 * l.group + k)).place false;
}

abbrev pub decreases-loop-matches : goal.decreases-loop-matches
decreases-loop-matches g l = l.matches
