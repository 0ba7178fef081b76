use Rattle.std.proofs.Common.{rules, ◌≡◌, ap, sym, ◌∙◌}
use Rattle.std.proofs.lemmas.Result.{on_ok_weaker}
use Rattle.serde_json.specs.View.{view}
use Rattle.multimap_tool.specs.Json.{item_fault, pair_json}
use Rattle.multimap_tool.specs.JsonLists.{of_two}
use Rattle.multimap_tool.proofs.JsonValues.Faults.{pair_is_good}
use Rattle.multimap_tool.proofs.json.listed.append_listed_pair.Goals as goal

pub returns-clause-read : goal.returns-clause-read
returns-clause-read g c =
    let key = g.K.JsonPart in
    let value = g.V.JsonPart in
    let eq = g.K.PartialEq.eq in
    let d = view c.args.item.now in
    let k = c.in-Ok.read.0 in
    let v = c.in-Ok-from_part.value in
    let read = c.in-Ok-from_part.ensures.read in
    let json : d ≡ pair_json key.json value.json (k, v) = c.in-Ok.ensures.read ∙ ap (of_two (key.json k)) read in
    let good = pair_is_good key.json value.json key.is_part value.is_part eq in
    let under = c.append_under.ensures.read in
    record {
      read = on_ok_weaker c.append_under.result (λ appends. record {
        pair = (k, v);
        json = json;
        accepted = λ i. ap (item_fault key.is_part value.is_part i) json
            ∙ good i (k, v) c.in-Ok.ensures.accepted (ap value.is_part (sym read) ∙ c.in-Ok-from_part.ensures.accepted);
        under = appends;
      }) under.read;
      hasher = under.hasher;
      unused = under.unused;
    }

pub returns-in-Err-Refused-clause-fault : goal.returns-in-Err-Refused-clause-fault
returns-in-Err-Refused-clause-fault g c = search rules
