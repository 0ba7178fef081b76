use Rattle.multimap_tool.proofs.JsonValues.EqualParts.{read_equal_lists_back}
use Rattle.multimap_tool.proofs.laws.equal_lists_are_read.Goals as goal

pub returns : goal.returns
returns g c = read_equal_lists_back g.met.K.Eq.laws g.V.PartialEq.eq g.K.JsonPart.json g.V.JsonPart.json c.requires.keys c.requires.values
    g.K.JsonPart.is_part g.V.JsonPart.is_part
