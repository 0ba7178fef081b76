use Rattle.std.proofs.lemmas.Str.{encode_ascii}
use Rattle.multimap_tool.proofs.format.push_next_item.Goals as goal

pub returns : goal.returns
returns g c = record { ok = rw (c.in_ok-push.ensures.bytes, encode_ascii c.args.separator c.requires) at c.push_to.ensures.ok }
