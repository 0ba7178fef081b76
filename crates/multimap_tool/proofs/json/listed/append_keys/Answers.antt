use Rattle.std.proofs.Common.{◌+◌, [], map, take, drop, arith, refl, ap, sym, ◌∙◌, subst}
use Rattle.std.proofs.lemmas.Map.Keys.{IsDistinct-push}
use Rattle.std.specs.List.{IsDistinct}
use Rattle.std.specs.Map.{keys_of}
use Rattle.ordered_multimap.specs.TapeNumbers.{AreUnused}
use Rattle.serde_json.specs.View.{view, items_view}
use Rattle.multimap_tool.specs.JsonLists.{each_item, IsListedKeyFault, IsKeysFault}
use Rattle.multimap_tool.proofs.Callers.JsonParts.{passed_on, one_read, unless_other, seen_at, left_at}
use Rattle.multimap_tool.proofs.JsonValues.Faults.{keys_fault_here, keys_fault_later}
use Rattle.multimap_tool.proofs.JsonValues.Shapes.{each_item-behind}
use Rattle.multimap_tool.proofs.json.listed.append_keys.Goals as goal

pub returns-in_err-append_key-clause-fault : goal.returns-in_err-append_key-clause-fault
returns-in_err-append_key-clause-fault g c =
    let l = c.loop-index in
    let key = g.K.JsonPart in
    let eq = g.K.PartialEq.eq in
    let fault = c.in_err-append_key.field-0.0 in
    let xs = c.args.items.now in
    let rest = drop (l.index + 1) xs in
    let item = c.index-items-index.result in
    let left = left_at xs l.index item c.loop-index-test.true c.index-items-index.is in
    let all = unless_other (IsListedKeyFault key.json key.is_part eq l.index l.map.lists.keys (view item))
    (IsKeysFault key.json key.is_part eq 0 [] (items_view xs))
    (λ f is. l.invariant.fault f (keys_fault_here key.json key.is_part key.is_part eq l.index l.map.lists.keys
    (drop l.index xs) rest item f left is))
    fault c.in_err-append_key.ensures.fault in
    passed_on c.from_residual.result _ fault c.from_residual.ensures.1 all

pub loop-index-preserved : goal.loop-index-preserved
loop-index-preserved g c =
    let l = c.loop-index in
    let key = g.K.JsonPart in
    let eq = g.K.PartialEq.eq in
    let xs = c.args.items.now in
    let rest = drop (l.index + 1) xs in
    let item = c.index-items-index.result in
    let seen = seen_at xs l.index item c.loop-index-test.true c.index-items-index.is in
    let left = left_at xs l.index item c.loop-index-test.true c.index-items-index.is in
    let more = c.in_ok-append_key.ensures.read.read in
    let k : g.row.K.Denot = more.0 in
    record {
      json = ap (map view) seen ∙ one_read key.json (take l.index xs) item l.map.lists.keys k more.1.json l.invariant.json
          ∙ ap (map key.json) (sym more.3);
      accepted = l.invariant.accepted ∙ ap (λ vs. each_item key.is_part (items_view vs)) left
          ∙ each_item-behind key.is_part (view item) (items_view rest) more.1.accepted;
      distinct = subst (IsDistinct eq) (sym more.3) (IsDistinct-push g.met.K.Eq.laws l.map.lists.keys k l.invariant.distinct more.2);
      placeholder_pairs = c.in_ok-append_key.ensures.placeholder_pairs;
      fault = λ f is. l.invariant.fault f (keys_fault_later key.json key.is_part key.is_part eq l.index
          (l.index + 1) l.map.lists.keys c.append_key.new.map.lists.keys (drop l.index xs) rest item k f left
          (omega arith) more.3 more.1 more.2 is);
      hasher = c.append_key.ensures.read.hasher ∙ l.invariant.hasher;
      unused = λ unused. c.append_key.ensures.read.unused (l.invariant.unused unused);
    }

pub loop-index-init : goal.loop-index-init
unfolding IsDistinct
loop-index-init g c =
    let key = g.K.JsonPart in
    let eq = g.K.PartialEq.eq in
    let empty = c.reserve_keys-reserved.ensures.grows.lists ∙ c.requires.empty in
    record {
      json = sym (ap (λ m. map key.json m.keys) empty);
      accepted = refl;
      distinct = subst (λ ks. IsDistinct eq ks) (sym (ap (λ m. m.keys) empty)) tt;
      placeholder_pairs = ap (λ m. keys_of m.pairs) empty ∙ sym (ap (λ m. m.keys) empty);
      fault = λ f is. subst (λ ks. IsKeysFault key.json key.is_part eq 0 ks (items_view c.args.items.now) f) (ap (λ m. m.keys) empty) is;
      hasher = c.reserve_keys-reserved.ensures.grows.rooms.hasher;
      unused = λ unused. subst AreUnused (sym c.reserve_keys-reserved.ensures.tape) unused;
    }
