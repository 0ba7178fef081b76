use Rattle.std.proofs.Common.{◌≡◌, true, sym, ◌∙◌, refl, rules}
use Rattle.ordered_multimap.specs.Keys.{is_listed}
use Rattle.ordered_multimap.proofs.Callers.WellFormed.{is_present-keys}
use Rattle.multimap_tool.proofs.Callers.JsonParts.{still_unused}
use Rattle.multimap_tool.proofs.JsonValues.BothLists.{appended_old}
use Rattle.multimap_tool.proofs.json.listed.append_under.Goals as goal

pub returns-then-not-present-clause-fault : goal.returns-then-not-present-clause-fault
returns-then-not-present-clause-fault g c =
    let m = c.args.map.now.lists in (
      refl,
      sym (is_present-keys g.met.K.Eq.laws m c.args.key c.keys_len-keys.ensures.well_formed) ∙ sym c.in-Ok.ensures.present
          ∙ c.if-not-present.true,
    )

pub returns-clause-read : goal.returns-clause-read
returns-clause-read g c =
    let m = c.args.map.now.lists in
    let listed : is_listed g.K.PartialEq.eq m.keys c.args.key ≡ true = sym
    (is_present-keys g.met.K.Eq.laws m c.args.key c.keys_len-keys.ensures.well_formed) ∙ sym c.in-Ok.ensures.present
    ∙ c.if-not-present.false in
    record {
      read = record {
        listed = listed;
        appended = c.in-Ok.ensures.ok.lists ∙ appended_old g.met.K.Eq.laws m c.args.key c.args.value listed;
      };
      hasher = search rules;
      unused = λ unused. still_unused unused c.in-Ok.ensures.ok.taken;
    }
