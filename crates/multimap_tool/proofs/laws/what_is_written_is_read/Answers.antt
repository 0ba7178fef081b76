use Rattle.std.proofs.Common.{ap}
use Rattle.multimap_tool.proofs.Callers.JsonParts.{read_back}
use Rattle.multimap_tool.proofs.laws.what_is_written_is_read.Goals as goal

pub returns : goal.returns
returns g c m n formed read =
    let is = read_back g.K.JsonPart.json g.V.JsonPart.json c.requires.keys c.requires.values g.met.K.Eq.laws m n formed read in
    (ap (λ l. l.keys) is, ap (λ l. l.pairs) is)
