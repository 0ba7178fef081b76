use Rattle.std.proofs.Common.{rules}
use Rattle.multimap_tool.specs.Json.{pair_json}
use Rattle.multimap_tool.proofs.Callers.JsonParts.{one_written, none_bad-push}
use Rattle.multimap_tool.proofs.json.to_value.Goals as goal

pub loop-key-preserved : goal.loop-key-preserved
loop-key-preserved g c =
    let l = c.loop-key in
    let pushed = c.push_reserved.ensures in
    let written = one_written (pair_json g.K.ToJson.json g.V.ToJson.json) l.items.items c.in_ok-item_of.field-0 c.args.map.now.lists.pairs
    pushed.items pushed.capacity c.in-Some.ensures.steps c.in_ok-item_of.ensures.written l.invariant.written l.invariant.room in
    record {
      written = written.0;
      room = written.1;
      accepted = rw pushed.items (none_bad-push g.K.ToJson.is_part g.V.ToJson.is_part 0 l.items.items c.in_ok-item_of.field-0
          l.invariant.accepted
          c.in_ok-item_of.ensures.accepted);
    }

pub returns-clause-written : goal.returns-clause-written
returns-clause-written g c = search rules

pub returns-clause-accepted : goal.returns-clause-accepted
returns-clause-accepted g c = search rules
