use Rattle.multimap_tool.proofs.Texts.Characters.{same_character}
use Rattle.multimap_tool.proofs.laws.characters_differ_as_json.Goals as goal

pub returns : goal.returns
returns g = same_character
