use Rattle.multimap_tool.proofs.JsonValues.BothLists.{read_lists_back}
use Rattle.multimap_tool.proofs.laws.both_lists_are_read.Goals as goal

pub returns : goal.returns
returns g c m n formed read =
    read_lists_back g.K.JsonPart.json g.V.JsonPart.json c.requires.keys c.requires.values g.K.JsonPart.is_part g.V.JsonPart.is_part
    g.met.K.Eq.laws m n formed read
