use Rattle.std.proofs.Common.{◌-◌}
use Rattle.multimap_table.proofs.BitLemmas.{bits_from_and, bit_remove_lowest}
use Rattle.multimap_table.proofs.group.remove_lowest_bit.Goals as goal

pub returns-clause-only : goal.returns-clause-only
returns-clause-only c = λ k h. (bits_from_and c.args.bits (c.args.bits - 1) k h).0

pub returns-clause-others : goal.returns-clause-others
returns-clause-others c = λ k. bit_remove_lowest 64 c.args.bits k c.requires c.ranges.bits.fits
