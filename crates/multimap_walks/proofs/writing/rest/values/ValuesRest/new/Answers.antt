use Rattle.std.proofs.Common.{rules}
use Rattle.multimap_walks.proofs.writing.rest.values.ValuesRest.new.Goals as goal

pub returns : goal.returns
returns g c = search rules
