use Rattle.std.proofs.Common.{◌≡◌, refl, sym, ap, ◌∙◌, None, Some, find, subst, arith}
use Rattle.std.specs.Prelude.{IfSome, option_map, slice_get}
use Rattle.ordered_multimap.specs.Agrees.{LacksWhere, hash_of}
use Rattle.ordered_multimap.specs.Changes.{removed_where}
use Rattle.ordered_multimap.specs.Keys.{stored_where}
use Rattle.ordered_multimap.specs.Pairs.{values_where}
use Rattle.ordered_multimap.specs.Private.KeySteps.{DetachesWhere, HoldsInRoom}
use Rattle.ordered_multimap.specs.TapeNumbers.{TakesOut}
use Rattle.ordered_multimap.proofs.Agreement.AbsentKeys.{detaches_none, removed_lacking}
use Rattle.ordered_multimap.proofs.Agreement.Queries.{found_hashed, lacks_where, of_key}
use Rattle.ordered_multimap.proofs.Append.Rooms.{map_of}
use Rattle.ordered_multimap.proofs.Callers.ListedKeys.{find_none}
use Rattle.ordered_multimap.proofs.Remove.FoundKeys.{found_detached, found_key, found_stored_key}
use Rattle.ordered_multimap.proofs.Remove.OnePair.{has_chain, map_left}
use Rattle.ordered_multimap.proofs.Remove.WholeEntries.{entry_held}
use Rattle.ordered_multimap.proofs.list_ordered_multimap.ListOrderedMultimap.detach_all.Given.{Over}
use Rattle.ordered_multimap.proofs.list_ordered_multimap.ListOrderedMultimap.detach_all.Goals.{After-detach_none}
use Rattle.ordered_multimap.proofs.list_ordered_multimap.ListOrderedMultimap.detach_all.Goals as goal

pub take_row-requires : goal.take_row-requires
take_row-requires g c =
    found_hashed g.met.K.Eq.laws (hash_of g.S.BuildHasher g.S.Hasher.Hasher c.self.inside.state) c.self.invariant.agrees
    (g.Q.KeyQuery.equivalent c.args.key) c.hash_one-hash.ensures (g.met.Q.KeyQuery.respects_hash c.args.key)

pub unlink_key-stored-requires : goal.unlink_key-stored-requires
unlink_key-stored-requires g c =
    has_chain c.self.invariant.agrees c.in-Some.place (c.in-Some.ensures {u = tt}).found.listed

pub invariant_of-self-2 : goal.invariant_of-self-2
invariant_of-self-2 g c =
    let found = c.in-Some.ensures {u = tt} in
    map_left g.met.K.Eq.laws c.self.invariant c.in-Some.place found.found.listed c.unlink_key-stored.ensures found.row

pub returns-clause-holds : goal.returns-clause-holds
returns-clause-holds g c =
    let n = c.unlink_key-stored.new in
    let i = c.self.inside in
    subst (λ m. HoldsInRoom m (map_of n.keys c.take_row.new.table.capacity n.values i.state c.unlink_key-stored.result.2)) c.self.view_is
    (entry_held g.met.K.Eq.laws c.self.invariant c.unlink_key-stored.ensures (c.in-Some.ensures {u = tt}).row i.state i.left refl)

pub returns-clause-detached : goal.returns-clause-detached
returns-clause-detached g c =
    let accepts = g.Q.KeyQuery.equivalent c.args.key in
    let found = c.in-Some.ensures {u = tt} in
    let n = c.unlink_key-stored.new in
    let i = c.self.inside in
    subst (λ m. DetachesWhere accepts m (map_of n.keys c.take_row.new.table.capacity n.values i.state c.unlink_key-stored.result.2)
    (removed_where g.K.PartialEq.eq accepts m.lists)) c.self.view_is
    (found_detached g.met.K.Eq.laws c.self.invariant c.unlink_key-stored.ensures found.row accepts
    (g.met.Q.KeyQuery.respects_eq c.args.key) found.found i.state i.left refl)

pub returns-clause-found : goal.returns-clause-found
returns-clause-found g c =
    let accepts = g.Q.KeyQuery.equivalent c.args.key in
    let found = c.in-Some.ensures {u = tt} in
    subst (λ m. Some c.unlink_key-stored.result.0 ≡ find accepts m.lists.keys) c.self.view_is
    (found_key g.met.K.Eq.laws c.self.invariant c.unlink_key-stored.ensures found.row accepts (g.met.Q.KeyQuery.respects_eq c.args.key)
    found.found)

pub returns-clause-key : goal.returns-clause-key
returns-clause-key g c =
    let accepts = g.Q.KeyQuery.equivalent c.args.key in
    let found = c.in-Some.ensures {u = tt} in
    subst (λ m. IfSome (g.Q.KeyQuery.as_key c.args.key) (λ k. Some c.unlink_key-stored.result.0
    ≡ option_map (λ _. stored_where accepts m.lists.keys k) (slice_get (values_where accepts m.lists.pairs) 0))) c.self.view_is
    (of_key _ (g.Q.KeyQuery.as_key c.args.key)
    (found_stored_key g.met.K.Eq.laws c.self.invariant c.unlink_key-stored.ensures found.row accepts
    (g.met.Q.KeyQuery.respects_eq c.args.key) found.found))

-- the lists lack what was not found
lacks : (g : Over) (c : After-detach_none g) → LacksWhere (g.Q.KeyQuery.equivalent c.args.key) g.K.PartialEq.eq c.args.self.now.lists
lacks g c =
    let accepts = g.Q.KeyQuery.equivalent c.args.key in
    subst (λ m. LacksWhere accepts g.K.PartialEq.eq m.lists) c.self.view_is
    (lacks_where c.self.invariant.agrees accepts None (c.in_default.ensures {u = tt}).absent)

pub returns-in_default-clause-detached : goal.returns-in_default-clause-detached
returns-in_default-clause-detached g c =
    let accepts = g.Q.KeyQuery.equivalent c.args.key in
    let kept = c.detach_none.ensures.drain.kept in
    detaches_none accepts (lacks g c) c.detach_none.ensures.none
    (kept.lists ∙ ap (λ m. m.lists) c.self.view_is
    ∙ sym (removed_lacking g.met.K.Eq.laws c.args.self.now.lists accepts (lacks g c)))
    (subst (TakesOut 0 c.args.self.now.tape) (sym (kept.tape ∙ ap (λ m. m.tape) c.self.view_is))
    (record { freed = omega arith; paid = omega arith }))

pub returns-in_default-clause-found : goal.returns-in_default-clause-found
returns-in_default-clause-found g c = sym (find_none (g.Q.KeyQuery.equivalent c.args.key) c.args.self.now.lists.keys (lacks g c).unlisted)

pub returns-in_default-clause-key : goal.returns-in_default-clause-key
returns-in_default-clause-key g c =
    let accepts = g.Q.KeyQuery.equivalent c.args.key in let m = c.args.self.now.lists in
    of_key (λ k. None ≡ option_map (λ _. stored_where accepts m.keys k) (slice_get (values_where accepts m.pairs) 0))
    (g.Q.KeyQuery.as_key c.args.key)
    (λ k. sym (ap (λ vs. option_map (λ _. stored_where accepts m.keys k) (slice_get vs 0)) (lacks g c).no_value))
