use Rattle.std.proofs.Common.{◌≡◌, None, Some, find, sym, ap, ◌∙◌, subst}
use Rattle.std.specs.Prelude.{IfSome, option_map, slice_get}
use Rattle.multimap_table.specs.Table.{Table}
use Rattle.ordered_multimap.specs.Agrees.{LacksWhere, hash_of}
use Rattle.ordered_multimap.specs.Keys.{stored_where}
use Rattle.ordered_multimap.specs.Pairs.{values_where}
use Rattle.ordered_multimap.specs.Removals.{IsRemovedWhere}
use Rattle.ordered_multimap.proofs.Agreement.AbsentKeys.{removes_none}
use Rattle.ordered_multimap.proofs.Agreement.Queries.{found_hashed, lacks_where, of_key}
use Rattle.ordered_multimap.proofs.Append.Rooms.{map_of}
use Rattle.ordered_multimap.proofs.Callers.ListedKeys.{find_none}
use Rattle.ordered_multimap.proofs.Remove.FoundKeys.{found_key, found_pair, found_removed, found_value}
use Rattle.ordered_multimap.proofs.Remove.OnePair.{has_chain, map_left}
use Rattle.ordered_multimap.proofs.list_ordered_multimap.ListOrderedMultimap.remove_entry.Given.{Over}
use Rattle.ordered_multimap.proofs.list_ordered_multimap.ListOrderedMultimap.remove_entry.Goals.{In_default}
use Rattle.ordered_multimap.proofs.list_ordered_multimap.ListOrderedMultimap.remove_entry.Goals as goal

pub take_row-requires : goal.take_row-requires
take_row-requires g c =
    found_hashed g.met.K.Eq.laws (hash_of g.S.BuildHasher g.S.Hasher.Hasher c.self.inside.state) c.self.invariant.agrees
    (g.Q.KeyQuery.equivalent c.args.key) c.hash_one-hash.ensures (g.met.Q.KeyQuery.respects_hash c.args.key)

pub unlink_key-stored-requires : goal.unlink_key-stored-requires
unlink_key-stored-requires g c =
    has_chain c.self.invariant.agrees c.in-Some.place (c.in-Some.ensures {u = tt}).found.listed

pub invariant_of-self-2 : goal.invariant_of-self-2
invariant_of-self-2 g c =
    let found = c.in-Some.ensures {u = tt} in
    map_left g.met.K.Eq.laws c.self.invariant c.in-Some.place found.found.listed c.unlink_key-stored.ensures found.row

pub returns-clause-key : goal.returns-clause-key
returns-clause-key g c =
    let accepts = g.Q.KeyQuery.equivalent c.args.key in
    let found = c.in-Some.ensures {u = tt} in
    subst (λ m. Some c.unlink_key-stored.result.0 ≡ find accepts m.lists.keys) c.self.view_is
    (found_key g.met.K.Eq.laws c.self.invariant c.unlink_key-stored.ensures found.row accepts (g.met.Q.KeyQuery.respects_eq c.args.key)
    found.found)

pub returns-clause-value : goal.returns-clause-value
returns-clause-value g c =
    let accepts = g.Q.KeyQuery.equivalent c.args.key in
    let found = c.in-Some.ensures {u = tt} in
    let value = c.unlink_key-stored.result.1.value in
    subst (λ m. Some value ≡ slice_get (values_where accepts m.lists.pairs) 0) c.self.view_is
    (found_value g.met.K.Eq.laws c.self.invariant c.unlink_key-stored.ensures found.row accepts
    (g.met.Q.KeyQuery.respects_eq c.args.key) found.found {v = value} (λ u same. same))

pub returns-clause-entry : goal.returns-clause-entry
returns-clause-entry g c =
    let accepts = g.Q.KeyQuery.equivalent c.args.key in
    let found = c.in-Some.ensures {u = tt} in
    let entry : g.row.K.Denot × g.row.V.Denot = (c.unlink_key-stored.result.0, c.unlink_key-stored.result.1.value) in
    subst (λ m. IfSome (g.Q.KeyQuery.as_key c.args.key) (λ k. Some entry
    ≡ option_map (λ v. (stored_where accepts m.lists.keys k, v)) (slice_get (values_where accepts m.lists.pairs) 0))) c.self.view_is
    (of_key _ (g.Q.KeyQuery.as_key c.args.key) (λ k.
    sym (found_pair g.met.K.Eq.laws c.self.invariant c.unlink_key-stored.ensures found.row accepts
    (g.met.Q.KeyQuery.respects_eq c.args.key) found.found {v = entry.1} (λ u same. same) k)))

pub returns-clause-removed : goal.returns-clause-removed
returns-clause-removed g c =
    let accepts = g.Q.KeyQuery.equivalent c.args.key in
    let found = c.in-Some.ensures {u = tt} in
    let n = c.unlink_key-stored.new in
    let i = c.self.inside in
    subst (λ m. IsRemovedWhere accepts g.K.PartialEq.eq m (map_of n.keys c.take_row.new.table.capacity n.values i.state i.left))
    c.self.view_is
    (found_removed g.met.K.Eq.laws c.self.invariant c.unlink_key-stored.ensures found.row accepts
    (g.met.Q.KeyQuery.respects_eq c.args.key) found.found i.state i.left)

-- the lists lack what was not found
lacks : (g : Over) (c : In_default g) → LacksWhere (g.Q.KeyQuery.equivalent c.args.key) g.K.PartialEq.eq c.args.self.now.lists
lacks g c =
    let accepts = g.Q.KeyQuery.equivalent c.args.key in
    subst (λ m. LacksWhere accepts g.K.PartialEq.eq m.lists) c.self.view_is
    (lacks_where c.self.invariant.agrees accepts None (c.in_default.ensures {u = tt}).absent)

pub returns-in_default-clause-key : goal.returns-in_default-clause-key
returns-in_default-clause-key g c = sym (find_none (g.Q.KeyQuery.equivalent c.args.key) c.args.self.now.lists.keys (lacks g c).unlisted)

pub returns-in_default-clause-value : goal.returns-in_default-clause-value
returns-in_default-clause-value g c = sym (ap (λ vs. slice_get vs 0) (lacks g c).no_value)

pub returns-in_default-clause-entry : goal.returns-in_default-clause-entry
returns-in_default-clause-entry g c =
    let accepts = g.Q.KeyQuery.equivalent c.args.key in let m = c.args.self.now.lists in
    of_key (λ k. None ≡ option_map (λ v. (stored_where accepts m.keys k, v)) (slice_get (values_where accepts m.pairs) 0))
    (g.Q.KeyQuery.as_key c.args.key)
    (λ k. sym (ap (λ vs. option_map (λ v. (stored_where accepts m.keys k, v)) (slice_get vs 0)) (lacks g c).no_value))

pub returns-in_default-clause-removed : goal.returns-in_default-clause-removed
returns-in_default-clause-removed g c =
    let i = c.self.inside in
    let same = sym c.self.view_is
    ∙ ap (λ (t : Table). map_of i.keys t.capacity i.values i.state i.left) (sym (c.in_default.ensures {u = tt}).unchanged) in
    subst (IsRemovedWhere (g.Q.KeyQuery.equivalent c.args.key) g.K.PartialEq.eq c.args.self.now) same
    (removes_none g.met.K.Eq.laws (g.Q.KeyQuery.equivalent c.args.key) (lacks g c))
