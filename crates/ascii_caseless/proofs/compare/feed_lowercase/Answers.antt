use Rattle.std.proofs.Common.{rules, ◌∙◌}
use Rattle.std.proofs.Math.Seq.{take_all}
use Rattle.ascii_caseless.proofs.Hashing.{fed_lowercase}
use Rattle.ascii_caseless.proofs.compare.feed_lowercase.Goals as goal

pub returns : goal.returns
returns g c = search (rules, take_all) ∙ fed_lowercase g.H.Hasher.write c.args.state.now c.args.text.now
