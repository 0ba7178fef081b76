use Rattle.std.proofs.Common.{rules}
use Rattle.ordered_multimap.proofs.query.texts.RefStrKeyQueryString.equivalent.Goals as goal

pub returns : goal.returns
returns g c = search rules
