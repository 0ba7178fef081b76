use Rattle.multimap_tool.proofs.run.ask.walk.walk.Goals as goal

pub returns-in-Word-clause-ok : goal.returns-in-Word-clause-ok
returns-in-Word-clause-ok g c = rw (c.in-Word.is, ← c.deref.ensures.value) c.walk_by_word.ensures.ok
