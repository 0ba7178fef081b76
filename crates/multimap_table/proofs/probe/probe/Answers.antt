use Rattle.multimap_table.proofs.CycleLemmas.{probe_value}
use Rattle.multimap_table.proofs.probe.probe.Goals as goal

pub returns : goal.returns
returns c =
    let at = probe_value c.args.count c.args.start c.args.step c.requires.count c.requires.start c.requires.step in
    record { in_range = at.0; value = at.1 }
