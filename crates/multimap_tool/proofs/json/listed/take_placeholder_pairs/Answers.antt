use Rattle.std.proofs.Common.{◌≡◌, suc, ◌+◌, ◌<◌, cond, length, drop, sym, ◌∙◌, ap, arith}
use Rattle.std.specs.Map.{keys_of}
use Rattle.ordered_multimap.specs.Lists.{lists}
use Rattle.multimap_tool.specs.JsonLists.{first_unused}
use Rattle.multimap_tool.proofs.JsonValues.BothLists.{placeholder_goes}
use Rattle.multimap_tool.proofs.json.listed.take_placeholder_pairs.Goals as goal

pub returns-then-is_last_of_its_key-clause-used : goal.returns-then-is_last_of_its_key-clause-used
returns-then-is_last_of_its_key-clause-used g c =
    let l = c.loop-index in
    let m = c.args.map.now.lists in
    let within : l.index < length m.keys = omega (arith, c.loop-index-test.true, c.keys_len-index-end.ensures.len) in
    let goes = placeholder_goes g.met.K.Eq.laws l.map.lists m.keys m.pairs l.index c.requires.placeholder_pairs within l.invariant.left
    c.is_last_of_its_key.ensures.well_formed in
    sym (l.invariant.used ∙ goes.unused (sym c.is_last_of_its_key.ensures.last ∙ c.if-is_last_of_its_key.true))

pub loop-index-preserved : goal.loop-index-preserved
loop-index-preserved g c =
    let l = c.loop-index in
    let m = c.args.map.now.lists in
    let eq = g.K.PartialEq.eq in
    let named = keys_of (drop (length m.keys) m.pairs) in
    let within : l.index < length m.keys = omega (arith, c.loop-index-test.true, c.keys_len-index-end.ensures.len) in
    let goes = placeholder_goes g.met.K.Eq.laws l.map.lists m.keys m.pairs l.index c.requires.placeholder_pairs within l.invariant.left
    c.is_last_of_its_key.ensures.well_formed in
    let stays = sym c.is_last_of_its_key.ensures.last ∙ c.if-is_last_of_its_key.false in
    let popped = c.is_last_of_its_key.ensures.popped in
    let more : suc l.index ≡ l.index + 1 = omega arith in
    let one = popped.taken.freed ∙ ap (λ b. l.map.tape.freed + cond b 1 0) goes.some in
    record {
      left = popped.lists ∙ goes.left stays ∙ ap (λ n. lists m.keys (drop n m.pairs)) more;
      used = l.invariant.used ∙ goes.used stays ∙ ap (λ n. first_unused eq n (drop n m.keys) named) more;
      hasher = popped.rooms.hasher ∙ l.invariant.hasher;
      freed = omega (arith, one, l.invariant.freed);
    }
