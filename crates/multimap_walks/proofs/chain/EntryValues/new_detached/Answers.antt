use Rattle.std.proofs.Common.{refl}
use Rattle.multimap_walks.proofs.Callers.Chains.{chain_told}
use Rattle.multimap_walks.proofs.chain.EntryValues.new_detached.Goals as goal

pub along-requires : goal.along-requires
along-requires g c = chain_told c.args.values.now.list c.args.ends _ c.unwrap_or.result refl c.unwrap_or.ensures c.requires
