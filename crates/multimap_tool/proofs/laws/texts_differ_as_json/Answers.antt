use Rattle.multimap_tool.proofs.JsonValues.EqualParts.{same_text}
use Rattle.multimap_tool.proofs.laws.texts_differ_as_json.Goals as goal

pub returns : goal.returns
returns g s t e = same_text _ _ e
