use Rattle.std.proofs.Common.{◌≡◌, true, sym, ◌∙◌, ap, inr, refl, rules}
use Rattle.ordered_multimap.specs.Keys.{is_listed}
use Rattle.multimap_tool.proofs.Callers.JsonParts.{still_unused}
use Rattle.multimap_tool.proofs.JsonValues.BothLists.{comes_new, one_placeholder, listed_if_named}
use Rattle.multimap_tool.proofs.json.listed.append_key.Goals as goal

pub returns-then-present-clause-fault : goal.returns-then-present-clause-fault
returns-then-present-clause-fault g c =
    let m = c.args.map.now.lists in
    let k = c.in-Ok.key in
    let listed : is_listed g.K.PartialEq.eq m.keys k ≡ true = sym (listed_if_named g.met.K.Eq.laws m k c.requires.placeholder_pairs)
    ∙ sym c.in-Ok-append.ensures.present ∙ c.if-present.true in
    inr (k, record { json = c.in-Ok.ensures.read; accepted = c.in-Ok.ensures.accepted }, listed, refl)

pub returns-clause-read : goal.returns-clause-read
returns-clause-read g c =
    let new = comes_new g.met.K.Eq.laws c.args.map.now.lists c.append.new.self.lists c.in-Ok.key c.in-Ok-from_part.value
    c.in-Ok-append.present c.requires.placeholder_pairs c.in-Ok-append.ensures.present c.if-present.false
    c.in-Ok-append.ensures.ok.lists in
    record {
      read = (c.in-Ok.key, record { json = c.in-Ok.ensures.read; accepted = c.in-Ok.ensures.accepted }, new.0, ap (λ l. l.keys) new.1);
      hasher = search rules;
      unused = λ unused. still_unused unused c.in-Ok-append.ensures.ok.taken;
    }

pub returns-clause-placeholder_pairs : goal.returns-clause-placeholder_pairs
returns-clause-placeholder_pairs g c =
    let new = comes_new g.met.K.Eq.laws c.args.map.now.lists c.append.new.self.lists c.in-Ok.key c.in-Ok-from_part.value
    c.in-Ok-append.present c.requires.placeholder_pairs c.in-Ok-append.ensures.present c.if-present.false
    c.in-Ok-append.ensures.ok.lists in
    one_placeholder g.met.K.Eq.laws c.args.map.now.lists c.append.new.self.lists c.in-Ok.key c.in-Ok-from_part.value
    c.requires.placeholder_pairs new.1
