use Rattle.std.proofs.Common.{ap, ◌∙◌, sym, slice_get}
use Rattle.ordered_multimap.specs.KeyMoves.{other_keys}
use Rattle.ordered_multimap.proofs.Callers.ListedKeys.{find_none, is_present-any}
use Rattle.ordered_multimap.proofs.Callers.WellFormed.{same_any}
use Rattle.ordered_multimap_callers.proofs.MovedLemmas.{first-moved, first-walked}
use Rattle.ordered_multimap_callers.proofs.sorted.bring_to_front.Goals as goal

pub returns-then-move_key_to_front-clause-first : goal.returns-then-move_key_to_front-clause-first
returns-then-move_key_to_front-clause-first g c =
    let accepts = g.Q.KeyQuery.equivalent c.args.query in let m = c.args.map.now.lists in
    let listed = sym (is_present-any accepts m.pairs ∙ same_any accepts m c.keys_len-len.ensures.well_formed)
    ∙ sym c.move_key_to_front.ensures.present ∙ c.if-move_key_to_front.true in
    c.copied.ensures ∙ first-walked _ _ c.next.result c.next.ensures.steps ∙ ap (λ ks. slice_get ks 0) c.keys.ensures
    ∙ ap (λ l. slice_get l.keys 0) c.move_key_to_front.ensures.moved.lists
    ∙ first-moved accepts m.keys (other_keys accepts m) listed

pub returns-else-move_key_to_front-clause-first : goal.returns-else-move_key_to_front-clause-first
returns-else-move_key_to_front-clause-first g c =
    let accepts = g.Q.KeyQuery.equivalent c.args.query in let m = c.args.map.now.lists in
    let unlisted = sym (is_present-any accepts m.pairs ∙ same_any accepts m c.keys_len-len.ensures.well_formed)
    ∙ sym c.move_key_to_front.ensures.present ∙ c.if-move_key_to_front.false in
    sym (find_none accepts m.keys unlisted)
