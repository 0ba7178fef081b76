use Rattle.multimap_table.proofs.BitLemmas.{bit_trailing_zeros}
use Rattle.multimap_table.proofs.group.lowest_set_bit.Goals as goal

pub returns-clause-set : goal.returns-clause-set
returns-clause-set c = bit_trailing_zeros 64 c.args.bits c.requires c.ranges.bits.fits
