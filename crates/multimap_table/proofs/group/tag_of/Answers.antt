use Rattle.multimap_table.specs.Private.Layout.{hash_tag}
use Rattle.multimap_table.proofs.group.tag_of.Goals as goal

pub returns-clause-value : goal.returns-clause-value
unfolding hash_tag
returns-clause-value c = c.max.ensures
