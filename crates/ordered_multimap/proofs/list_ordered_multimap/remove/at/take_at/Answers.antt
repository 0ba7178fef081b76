use Rattle.std.proofs.Common.{rules, slice_get, ap, ◌∙◌, arith}
use Rattle.multimap_walks.specs.Chained.{chain_of}
use Rattle.ordered_multimap.proofs.Chains.Indexes.{indexed_key_link, several_all}
use Rattle.ordered_multimap.proofs.list_ordered_multimap.remove.at.take_at.Goals as goal

pub take_one-requires-clause-links : goal.take_one-requires-clause-links
take_one-requires-clause-links g c =
    indexed_key_link c.args.values.now.list c.args.place c.args.index c.place_at-found.result c.place_at-found.ensures c.args.keys.now
    c.listed_link-link.result c.listed_link-link.ensures.link_is c.requires.chain.chains

pub take_one-requires-clause-more : goal.take_one-requires-clause-more
take_one-requires-clause-more g c = search rules

pub returns-clause-taken : goal.returns-clause-taken
returns-clause-taken g c =
    let chain = chain_of c.args.values.now.list c.args.place in
    let count = c.requires.chain.chains.chained.length c.args.place c.listed_link-link.result c.requires.chain.listed
    c.listed_link-link.ensures.link_is in
    record {
      place = c.place_at-found.result;
      place_is = ap (λ ps. slice_get ps c.args.index) (several_all chain (omega (arith, count, c.if-link-lt2.false)))
          ∙ c.place_at-found.ensures;
      one = c.take_one.ensures.taken;
    }
