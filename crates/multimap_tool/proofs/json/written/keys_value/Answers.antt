use Rattle.std.proofs.Common.{rules}
use Rattle.multimap_tool.proofs.Callers.JsonParts.{one_written}
use Rattle.multimap_tool.proofs.JsonValues.Shapes.{each_item-push}
use Rattle.multimap_tool.proofs.json.written.keys_value.Goals as goal

pub loop-key-preserved : goal.loop-key-preserved
loop-key-preserved g c =
    let l = c.loop-key in
    let pushed = c.push_reserved.ensures in
    let written = one_written g.K.ToJson.json l.items.items c.in_ok-to_json.field-0 c.args.map.now.lists.keys
    pushed.items pushed.capacity c.in-Some.ensures.steps c.in_ok-to_json.ensures.written l.invariant.written l.invariant.room in
    record {
      written = written.0;
      room = written.1;
      accepted = rw pushed.items (each_item-push g.K.ToJson.is_part l.items.items c.in_ok-to_json.field-0 l.invariant.accepted
          c.in_ok-to_json.ensures.accepted);
    }

pub returns-clause-written : goal.returns-clause-written
returns-clause-written g c = search rules

pub returns-clause-accepted : goal.returns-clause-accepted
returns-clause-accepted g c = search rules
