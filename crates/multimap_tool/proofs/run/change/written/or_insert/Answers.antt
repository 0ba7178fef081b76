use Rattle.std.proofs.Common.{ap, is_ok, rules}
use Rattle.multimap_tool.proofs.Running.OrInserted.{or_insert_step}
use Rattle.multimap_tool.proofs.run.change.written.or_insert.Goals as goal

pub returns-in-Ok : goal.returns-in-Ok
returns-in-Ok g c =
    let w = c.in-Ok.first.now in let f = c.or_insert.follows in let e = c.entry.ensures in
    record {
      step = or_insert_step c.entry.result c.args.map.now c.args.key c.args.value w _ (f.lender w) e.unchanged e.key e.occupied
          ((c.in-Ok.ensures {u = tt}).value c.args.key e.key) (f.holds w (ap is_ok c.in-Ok.is)) (search (rules));
      rooms = search rules;
      finds_room = search rules;
      makes_room = tt;
    }
