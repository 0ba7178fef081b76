use Rattle.std.proofs.Common.{rules}
use Rattle.multimap_tool.proofs.Callers.JsonParts.{still_unused}
use Rattle.multimap_tool.proofs.json.append_item.Goals as goal

pub returns-clause-read : goal.returns-clause-read
returns-clause-read g c = record {
  read = ((c.in_ok-key.key, c.in_ok-key.value), c.in_ok-key.ensures.read, c.in-Ok.ensures.ok.lists);
  hasher = search rules;
  unused = λ unused. still_unused unused c.in-Ok.ensures.ok.taken;
}
