use Rattle.std.proofs.Common.{ap, ◌∙◌}
use Rattle.std.specs.FinMap.{get}
use Rattle.ordered_multimap.proofs.Chains.Indexes.{indexed_key_link, indexed_owner}
use Rattle.ordered_multimap.proofs.list_ordered_multimap.remove.value.take_indexed.Goals as goal

pub place_at-found-requires-clause-chain : goal.place_at-found-requires-clause-chain
place_at-found-requires-clause-chain g c = c.requires.chain

pub take_pair-requires-clause-links : goal.take_pair-requires-clause-links
take_pair-requires-clause-links g c =
    indexed_key_link c.args.values.now.list c.args.place c.args.index c.place_at-found.result c.place_at-found.ensures c.args.keys.now
    c.listed_link-link.result c.listed_link-link.ensures.link_is c.requires.chain.chains

pub take_pair-requires-clause-row : goal.take_pair-requires-clause-row
take_pair-requires-clause-row g c =
    λ l is.
    ap (get c.args.table.now.rows) (indexed_owner c.args.values.now.list c.args.place c.args.index c.place_at-found.result
    c.place_at-found.ensures c.args.keys.now l is) ∙ c.requires.row c.listed_link-link.result c.listed_link-link.ensures.link_is
