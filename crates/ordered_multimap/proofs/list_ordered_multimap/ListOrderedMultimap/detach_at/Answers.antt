use Rattle.std.proofs.Common.{◌≡◌, refl, sym, subst}
use Rattle.ordered_multimap.specs.Keys.{stored_key}
use Rattle.ordered_multimap.specs.Changes.{removed}
use Rattle.ordered_multimap.specs.Agrees.{HasKey}
use Rattle.ordered_multimap.specs.Private.KeySteps.{DetachesValues, HoldsInRoom}
use Rattle.ordered_multimap.proofs.Remove.OnePair.{has_entry, map_left}
use Rattle.ordered_multimap.proofs.Append.Rooms.{map_of}
use Rattle.ordered_multimap.proofs.Agreement.LookUps.{listed_inside}
use Rattle.ordered_multimap.proofs.Remove.WholeEntries.{entry_detached, entry_held}
use Rattle.ordered_multimap.proofs.Remove.WholeKeys.{removed_key}
use Rattle.ordered_multimap.proofs.list_ordered_multimap.ListOrderedMultimap.detach_at.Goals as goal

pub unlink_entry-key-requires : goal.unlink_entry-key-requires
unlink_entry-key-requires g c =
    has_entry c.self.invariant.agrees c.args.place (listed_inside _ c.self.view_is c.requires)

pub invariant_of-self : goal.invariant_of-self
invariant_of-self g c =
    map_left g.met.K.Eq.laws c.self.invariant c.args.place (listed_inside _ c.self.view_is c.requires) c.unlink_entry-key.ensures.entry
    c.unlink_entry-key.ensures.row

pub returns-clause-detached : goal.returns-clause-detached
returns-clause-detached g c =
    let n = c.unlink_entry-key.new in
    let i = c.self.inside in
    subst (λ m. (k : g.row.K.Denot) → HasKey g.K.PartialEq.eq m.slots.keys k c.args.place
    → DetachesValues g.K.PartialEq.eq m (map_of n.keys n.table.capacity n.values i.state c.unlink_entry-key.result.2) k
    (removed g.K.PartialEq.eq m.lists k)) c.self.view_is
    (entry_detached g.met.K.Eq.laws c.self.invariant c.unlink_entry-key.ensures.entry c.unlink_entry-key.ensures.row i.state i.left refl)

pub returns-clause-key : goal.returns-clause-key
returns-clause-key g c =
    subst (λ m. (k : g.row.K.Denot) → HasKey g.K.PartialEq.eq m.slots.keys k c.args.place
    → c.unlink_entry-key.result.0 ≡ stored_key g.K.PartialEq.eq m.lists.keys k) c.self.view_is
    (λ k has. sym (removed_key g.met.K.Eq.laws c.self.invariant.agrees k c.args.place has c.unlink_entry-key.ensures.entry.removed))

pub returns-clause-holds : goal.returns-clause-holds
returns-clause-holds g c =
    let n = c.unlink_entry-key.new in
    let i = c.self.inside in
    subst (λ m. HoldsInRoom m (map_of n.keys n.table.capacity n.values i.state c.unlink_entry-key.result.2)) c.self.view_is
    (entry_held g.met.K.Eq.laws c.self.invariant c.unlink_entry-key.ensures.entry c.unlink_entry-key.ensures.row i.state i.left refl)
