use Rattle.std.proofs.Common.{rules}
use Rattle.multimap_tool.proofs.parse.words.key_command.Goals as goal

pub returns-then-is-6 : goal.returns-then-is-6
returns-then-is-6 g c = search rules
