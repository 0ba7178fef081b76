use Rattle.std.proofs.Common.{◌≡◌, true, [], ◌∷◌, ap, ◌∙◌, rules}
use lib.Utf8.{scalars}
use Rattle.serde_json.specs.Data.{string}
use Rattle.std.specs.Char.{encode_utf8}
use Rattle.serde_json.specs.View.{view}
use Rattle.multimap_tool.specs.Json.{is_character}
use Rattle.multimap_tool.proofs.Callers.JsonParts.{encoded_character}
use Rattle.multimap_tool.proofs.json.parts.CharJsonPart.to_part.Goals as goal

pub returns-clause-accepted : goal.returns-clause-accepted
returns-clause-accepted c =
    let written : view c.from.result ≡ string (encode_utf8 c.args.self.now) = search rules in
    let is : scalars (c.args.self.now ∷ []) ≡ true = search rules in
    ap is_character written ∙ encoded_character c.args.self.now is
