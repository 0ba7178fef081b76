use Rattle.ordered_multimap.proofs.Compact.Relinked.{owner_listed, ends-kept, before_listed, behind_listed, moves-value}
use Rattle.ordered_multimap.proofs.Compact.OneMove.{relocates-moved}
use Rattle.std.proofs.Common.{ap, subst, sym, IfSome}
use Rattle.multimap_slots.specs.Lists.{IsIn}
use Rattle.ordered_multimap.proofs.list_ordered_multimap.compact.move_value.Goals as goal

pub set_next-requires-clause-listed : goal.set_next-requires-clause-listed
set_next-requires-clause-listed g c =
    before_listed c.requires.chains.keys_sound c.requires.chains.sound c.requires.chains.chained c.args.from c.link_of-link.result
    c.requires.listed
    c.link_of-link.ensures.link c.args.to _ c.move_down.ensures.moved

pub set_previous-requires-clause-listed : goal.set_previous-requires-clause-listed
set_previous-requires-clause-listed g c =
    subst (λ ps. IfSome c.link_of-link.result.next (λ p. IsIn p ps)) (sym (ap (λ t. t.list.order) c.set_next.ensures.rest))
    (behind_listed c.requires.chains.keys_sound c.requires.chains.sound c.requires.chains.chained c.args.from c.link_of-link.result
    c.requires.listed
    c.link_of-link.ensures.link c.args.to _ c.move_down.ensures.moved)

pub returns-clause-relocates : goal.returns-clause-relocates
returns-clause-relocates g c =
    let h = c.requires.chains in
    relocates-moved h.keys_sound h.sound h.chained
    (moves-value h.keys_sound h.sound h.chained c.args.from c.link_of-link.result c.requires.listed
    c.link_of-link.ensures.link c.args.to _ _ _
    c.move_down.ensures.moved c.move_down.ensures.capacity c.set_next.ensures c.set_previous.ensures _ c.relink_ends.ensures.relinked)

pub relink_ends-requires-clause-listed : goal.relink_ends-requires-clause-listed
relink_ends-requires-clause-listed g c =
    owner_listed c.requires.chains.keys_sound c.requires.chains.sound c.requires.chains.chained c.args.from c.link_of-link.result
    c.requires.listed
    c.link_of-link.ensures.link

pub relink_ends-requires-clause-between : goal.relink_ends-requires-clause-between
relink_ends-requires-clause-between g c =
    ends-kept c.requires.chains.keys_sound c.requires.chains.sound c.requires.chains.chained c.args.from c.link_of-link.result
    c.requires.listed
    c.link_of-link.ensures.link c.args.to
