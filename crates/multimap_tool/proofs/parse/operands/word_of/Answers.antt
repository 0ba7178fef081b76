use Rattle.multimap_tool.proofs.Texts.Fields.{no_letters}
use Rattle.multimap_tool.proofs.parse.operands.word_of.Goals as goal

pub returns-then-is_empty : goal.returns-then-is_empty
returns-then-is_empty g c = no_letters c.args.text.now c.if-is_empty.ensures
