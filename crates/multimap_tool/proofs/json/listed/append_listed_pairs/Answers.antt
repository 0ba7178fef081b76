use Rattle.std.proofs.Common.{◌+◌, ◌∷◌, [], ◌++◌, map, take, drop, arith, refl, ap, sym, ◌∙◌, subst}
use Rattle.std.proofs.lemmas.List.{append-nil}
use Rattle.serde_json.specs.View.{view, items_view}
use Rattle.ordered_multimap.specs.Lists.{lists}
use Rattle.ordered_multimap.specs.Keys.{is_listed}
use Rattle.multimap_tool.specs.Json.{pair_json, first_fault}
use Rattle.multimap_tool.specs.JsonLists.{IsPairFault, IsPairsFault}
use Rattle.multimap_tool.proofs.Callers.JsonParts.{fault_behind, passed_on, one_read, still_unused, unless_other, seen_at, left_at}
use Rattle.multimap_tool.proofs.JsonValues.Faults.{pairs_fault_here, pairs_fault_later}
use Rattle.multimap_tool.proofs.JsonValues.BothLists.{one_under, each_listed-push}
use Rattle.multimap_tool.proofs.json.listed.append_listed_pairs.Goals as goal

pub returns-in_err-append_listed_pair-clause-fault : goal.returns-in_err-append_listed_pair-clause-fault
returns-in_err-append_listed_pair-clause-fault g c =
    let l = c.loop-index in
    let key = g.K.JsonPart in
    let value = g.V.JsonPart in
    let eq = g.K.PartialEq.eq in
    let keys = c.args.map.now.lists.keys in
    let fault = c.in_err-append_listed_pair.field-0.0 in
    let xs = c.args.items.now in
    let rest = drop (l.index + 1) xs in
    let item = c.index-items-index.result in
    let left = left_at xs l.index item c.loop-index-test.true c.index-items-index.is in
    let same = ap (λ m. m.keys) l.invariant.read.2 in
    let all = unless_other (IsPairFault key.json key.is_part value.is_part eq l.index l.map.lists.keys (view item))
    (IsPairsFault key.json key.is_part value.is_part eq 0 keys (items_view xs))
    (λ f is. l.invariant.fault f (pairs_fault_here key.json key.is_part value.is_part eq l.index keys (drop l.index xs) rest item f left
    (subst (λ js. IsPairFault key.json key.is_part value.is_part eq l.index js (view item) f) same is))) fault
    c.in_err-append_listed_pair.ensures.fault in
    passed_on c.from_residual.result _ fault c.from_residual.ensures.1 all

pub loop-index-preserved : goal.loop-index-preserved
loop-index-preserved g c =
    let l = c.loop-index in
    let key = g.K.JsonPart in
    let value = g.V.JsonPart in
    let eq = g.K.PartialEq.eq in
    let first = c.args.map.now.lists in
    let xs = c.args.items.now in
    let rest = drop (l.index + 1) xs in
    let item = c.index-items-index.result in
    let seen = seen_at xs l.index item c.loop-index-test.true c.index-items-index.is in
    let left = left_at xs l.index item c.loop-index-test.true c.index-items-index.is in
    let read = l.invariant.read in
    let same = ap (λ m. m.keys) read.2 in
    let more = c.in_ok-append_listed_pair.ensures.read.read in
    let p : g.row.K.Denot × g.row.V.Denot = more.pair in
    let listed = ap (λ js. is_listed eq js p.0) (sym same) ∙ more.under.listed in
    record {
      read = (
        read.0 ++ p ∷ [],
        ap (map view) seen ∙ one_read (pair_json key.json value.json) (take l.index xs) item read.0 p more.json read.1,
        one_under eq first.keys first.pairs read.0 p l.map.lists c.append_listed_pair.new.map.lists read.2 more.under.appended,
        each_listed-push eq first.keys read.0 p read.3 listed,
      );
      accepted = l.invariant.accepted ∙ ap (λ ys. first_fault key.is_part value.is_part l.index (items_view ys)) left
          ∙ fault_behind key.is_part value.is_part l.index item rest (more.accepted l.index);
      fault = λ f is. l.invariant.fault f (pairs_fault_later key.json key.is_part value.is_part eq value.json l.index
          (l.index + 1) first.keys
          (drop l.index xs) rest item p f left (omega arith) more.json more.accepted listed is);
      hasher = c.append_listed_pair.ensures.read.hasher ∙ l.invariant.hasher;
      unused = λ unused. c.append_listed_pair.ensures.read.unused (l.invariant.unused unused);
    }

pub loop-index-init : goal.loop-index-init
loop-index-init g c =
    let first = c.args.map.now.lists in
    record {
      read = (
        [],
        refl,
        c.reserve_values-reserved.ensures.grows.lists
            ∙ ap (lists first.keys) (sym (append-nil first.pairs)),
        λ k never. absurd never,
      );
      accepted = refl;
      fault = λ f is. is;
      hasher = c.reserve_values-reserved.ensures.grows.rooms.hasher;
      unused = λ unused. still_unused unused c.reserve_values-reserved.ensures.taken;
    }
