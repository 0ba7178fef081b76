use Rattle.std.proofs.lemmas.Slice.Eq.{bytes_eq-Decides}
use Rattle.multimap_tool.proofs.parse.words.is.Goals as goal

pub returns : goal.returns
returns g = rw g.eq.ensures (bytes_eq-Decides g.args.name.now g.args.word.now)
