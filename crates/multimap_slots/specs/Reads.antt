-- The number that contracts see of a counter of reads.
use Rattle.std.specs.Prelude.{ℕ, ◌+◌}
use Rattle.multimap_slots.specs.declared.reads.Past.{Past}
use Rattle.multimap_slots.specs.declared.reads.Past.TheVariants.{Start, Same', Next', More'}

-- the reads that were counted; a primed variant also takes what its snapshots are beside the value
abbrev pub count_of : Past → ℕ
count_of Start = 0
count_of (Same' _ _ past) = count_of past
count_of (Next' _ _ past) = count_of past + 1
count_of (More' n _ _ past) = count_of past + n
