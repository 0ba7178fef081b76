use Rattle.multimap_tool_tests.proofs.tests.callers.pairs_of_numbers_are_read.Goals as goal

pub returns : goal.returns
returns c m n formed read = (c.what_is_written_is_read.ensures m n formed read).1
