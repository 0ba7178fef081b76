use Rattle.std.proofs.Common.{suc, ◌+◌, ◌∷◌, [], ◌++◌, map, take, drop, ap, sym, ◌∙◌, subst}
use Rattle.serde_json.specs.View.{view, items_view}
use Rattle.ordered_multimap.specs.Lists.{empty_lists}
use Rattle.ordered_multimap.specs.Changes.{appended}
use Rattle.multimap_tool.specs.Json.{pair_json, item_fault, first_fault, IsFound}
use Rattle.multimap_tool.proofs.Callers.JsonParts.{fault_behind, found_first, passed_on, one_read, appended_last, seen_at, left_at}
use Rattle.multimap_tool.proofs.json.append_items.Goals as goal

pub returns-in_err-append_item-clause-fault : goal.returns-in_err-append_item-clause-fault
returns-in_err-append_item-clause-fault g c =
    let l = c.loop-index in
    let is_key = g.K.JsonPart.is_part in
    let is_value = g.V.JsonPart.is_part in
    let fault = c.in_err-append_item.field-0.0 in
    let xs = c.args.items.now in
    let item = c.index-items-index.result in
    let behind = first_fault is_key is_value (suc l.index) (items_view (drop (l.index + 1) xs)) in
    let left = left_at xs l.index item c.loop-index-test.true c.index-items-index.is in
    let same = l.invariant.accepted ∙ ap (λ vs. first_fault is_key is_value l.index (items_view vs)) left in
    let found = found_first (item_fault is_key is_value l.index (view item)) behind fault c.in_err-append_item.ensures.fault in
    passed_on c.from_residual.result _ fault c.from_residual.ensures.1 (subst (λ o. IsFound o fault) (sym same) found)

pub loop-index-preserved : goal.loop-index-preserved
loop-index-preserved g c =
    let l = c.loop-index in
    let xs = c.args.items.now in
    let item = c.index-items-index.result in
    let pair = pair_json g.K.JsonPart.json g.V.JsonPart.json in
    let read = l.invariant.read in
    let more = c.in_ok-append_item.ensures.read.read in
    let p : g.row.K.Denot × g.row.V.Denot = more.0 in
    let seen = seen_at xs l.index item c.loop-index-test.true c.index-items-index.is in
    let left = left_at xs l.index item c.loop-index-test.true c.index-items-index.is in
    record {
      read = (
        read.0 ++ p ∷ [],
        ap (map view) seen ∙ one_read pair (take l.index xs) item read.0 p more.1 read.1,
        more.2 ∙ ap (λ m. appended g.K.PartialEq.eq m p.0 p.1) read.2 ∙ sym (appended_last g.K.PartialEq.eq empty_lists read.0 p),
      );
      accepted = l.invariant.accepted ∙ ap (λ ys. first_fault g.K.JsonPart.is_part g.V.JsonPart.is_part l.index (items_view ys)) left
          ∙ fault_behind g.K.JsonPart.is_part g.V.JsonPart.is_part l.index item
          (drop (l.index + 1) xs) c.in_ok-append_item.ensures.accepted;
      hasher = c.append_item.ensures.read.hasher ∙ l.invariant.hasher;
      unused = λ unused. c.append_item.ensures.read.unused (l.invariant.unused unused);
    }
