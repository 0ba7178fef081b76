use Rattle.std.proofs.Common.{◌*◌}
use Rattle.multimap_table.proofs.BitLemmas.{equal_from_bit, bit_from_equal}
use Rattle.multimap_table.proofs.group.match_tag.Goals as goal

pub returns-clause-only : goal.returns-clause-only
returns-clause-only c = equal_from_bit c.args.tags.now (16 * c.args.group) c.args.tag c.requires

pub returns-clause-all : goal.returns-clause-all
returns-clause-all c = bit_from_equal c.args.tags.now (16 * c.args.group) c.args.tag c.requires
