use Rattle.std.specs.String.{string_bytes}
use Rattle.multimap_tool.proofs.Texts.Formatted.{list_after, items_on, items_done}
use Rattle.multimap_tool.proofs.format.push_joined.Goals as goal

pub loop-item-init : goal.loop-item-init
loop-item-init g c = list_after g.T.Listed.item_text c.args.separator _ _ c.in-Some.first.now _ _ c.in-Some.ensures.cases.0
    c.in_ok-push_to.ensures.ok

pub loop-item-preserved : goal.loop-item-preserved
loop-item-preserved g c =
    let l = c.loop-item in
    rw c.in_ok-push_next_item.ensures.ok
    (items_on g.T.Listed.item_text c.args.separator c.in-Some.others.now l.item-index c.item-item.result
    (string_bytes l.text) _ c.loop-item-test.true c.item-item.is l.invariant)

pub returns : goal.returns
returns g c =
    let l = c.loop-item in
    record {
      ok = items_done g.T.Listed.item_text c.args.separator c.in-Some.others.now l.item-index
          (string_bytes l.text) _ c.loop-item-test.false l.invariant;
    }
