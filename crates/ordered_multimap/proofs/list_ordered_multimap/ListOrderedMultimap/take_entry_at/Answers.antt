use Rattle.std.proofs.Common.{◌≡◌, Some, slice_get, option_map, sym, subst}
use Rattle.ordered_multimap.specs.Pairs.{values_of}
use Rattle.ordered_multimap.specs.Keys.{stored_key}
use Rattle.ordered_multimap.specs.Changes.{removed}
use Rattle.ordered_multimap.specs.Agrees.{HasKey}
use Rattle.ordered_multimap.specs.Removals.{LosesValues}
use Rattle.ordered_multimap.proofs.Remove.OnePair.{has_entry, map_left}
use Rattle.ordered_multimap.proofs.Append.Rooms.{map_of}
use Rattle.ordered_multimap.proofs.Agreement.LookUps.{listed_inside}
use Rattle.ordered_multimap.proofs.Remove.WholeEntries.{entry_lost}
use Rattle.ordered_multimap.proofs.Remove.WholeKeys.{entry_is}
use Rattle.ordered_multimap.proofs.list_ordered_multimap.ListOrderedMultimap.take_entry_at.Goals as goal

pub unlink_entry-key-requires : goal.unlink_entry-key-requires
unlink_entry-key-requires g c =
    has_entry c.self.invariant.agrees c.args.place (listed_inside _ c.self.view_is c.requires)

pub invariant_of-self : goal.invariant_of-self
invariant_of-self g c =
    map_left g.met.K.Eq.laws c.self.invariant c.args.place (listed_inside _ c.self.view_is c.requires) c.unlink_entry-key.ensures.entry
    c.unlink_entry-key.ensures.row

pub returns-clause-entry : goal.returns-clause-entry
returns-clause-entry g c =
    let entry : g.row.K.Denot × g.row.V.Denot = (c.unlink_entry-key.result.0, c.unlink_entry-key.result.1.value) in
    subst (λ m. (k : g.row.K.Denot) → HasKey g.K.PartialEq.eq m.slots.keys k c.args.place
    → Some entry ≡ option_map (λ v. (stored_key g.K.PartialEq.eq m.lists.keys k, v))
    (slice_get (values_of g.K.PartialEq.eq m.lists.pairs k) 0)) c.self.view_is
    (λ k has. sym (entry_is g.met.K.Eq.laws c.self.invariant.agrees k c.args.place has c.unlink_entry-key.ensures.entry.removed
    c.unlink_entry-key.ensures.entry.first))

pub returns-clause-removed : goal.returns-clause-removed
returns-clause-removed g c =
    let n = c.unlink_entry-key.new in
    let i = c.self.inside in
    subst (λ m. (k : g.row.K.Denot) → HasKey g.K.PartialEq.eq m.slots.keys k c.args.place
    → LosesValues g.K.PartialEq.eq m (map_of n.keys n.table.capacity n.values i.state i.left) k
    (removed g.K.PartialEq.eq m.lists k)) c.self.view_is
    (entry_lost g.met.K.Eq.laws c.self.invariant c.unlink_entry-key.ensures.entry c.unlink_entry-key.ensures.row i.state i.left i.left)
