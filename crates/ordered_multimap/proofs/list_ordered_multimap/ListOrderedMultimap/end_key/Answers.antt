use Rattle.std.proofs.Common.{subst, None, ◌≡◌}
use Rattle.std.specs.Prelude.{IfNone, IfSome}
use Rattle.multimap_walks.specs.Walk.{end_item}
use Rattle.ordered_multimap.specs.Private.KeySteps.{HasEndKey}
use Rattle.ordered_multimap.proofs.Detach.EndKeys.{end_key_found, end_key_none}
use Rattle.ordered_multimap.proofs.list_ordered_multimap.ListOrderedMultimap.end_key.Goals as goal

pub returns-clause-found : goal.returns-clause-found
returns-clause-found g c =
    let i = c.self.inside in
    subst (λ m. IfSome c.place_at_end.result (HasEndKey g.K.PartialEq.eq c.args.end m)) c.self.view_is
    (end_key_found g.met.K.Eq.laws i.values c.self.invariant.agrees i.table.capacity i.state i.left c.args.end c.place_at_end.result
    c.place_at_end.ensures)

pub returns-clause-none : goal.returns-clause-none
returns-clause-none g c =
    let i = c.self.inside in
    subst (λ m. IfNone c.place_at_end.result (end_item c.args.end m.lists.keys ≡ None)) c.self.view_is
    (end_key_none i.keys c.args.end c.place_at_end.result c.place_at_end.ensures)
