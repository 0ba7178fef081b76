use Rattle.std.proofs.Common.{◌≡◌, sym, ap, ◌∙◌, subst}
use Rattle.std.specs.Prelude.{IfSome, IfNone, is_some}
use Rattle.std.specs.List.{list_any}
use Rattle.ordered_multimap.specs.Agrees.{HasKeyWhere, LacksWhere, StandsAt, hash_of, items_of}
use Rattle.ordered_multimap.specs.Pairs.{is_present_where}
use Rattle.ordered_multimap.proofs.Agreement.Queries.{found_hashed, lacks_where, listed_as_found, present_where, stands_at}
use Rattle.ordered_multimap.proofs.list_ordered_multimap.ListOrderedMultimap.look_up.Given.{Over}
use Rattle.ordered_multimap.proofs.list_ordered_multimap.ListOrderedMultimap.look_up.Goals.{After-place_of}
use Rattle.ordered_multimap.proofs.list_ordered_multimap.ListOrderedMultimap.look_up.Goals as goal

pub place_of-requires : goal.place_of-requires
place_of-requires g c =
    found_hashed g.met.K.Eq.laws (hash_of g.S.BuildHasher g.S.Hasher.Hasher c.self.inside.state) c.self.invariant.agrees
    (g.Q.KeyQuery.equivalent c.args.query) c.hash_one-hash.ensures (g.met.Q.KeyQuery.respects_hash c.args.query)

pub returns-clause-hash : goal.returns-clause-hash
returns-clause-hash g c = c.hash_one-hash.ensures
    ∙ ap (λ m. hash_of g.S.BuildHasher g.S.Hasher.Hasher m.hasher (g.Q.Hash.hash_input c.args.query)) c.self.view_is

pub returns-clause-found : goal.returns-clause-found
returns-clause-found g c =
    subst (λ m. IfSome c.place_of.result (HasKeyWhere (g.Q.KeyQuery.equivalent c.args.query) m.slots.keys)) c.self.view_is
    c.place_of.ensures.found

pub returns-clause-stored : goal.returns-clause-stored
returns-clause-stored g c =
    let accepts = g.Q.KeyQuery.equivalent c.args.query in
    subst (λ m. IfSome c.place_of.result (StandsAt g.K.PartialEq.eq accepts m.slots.keys)) c.self.view_is
    (stands_at g.met.K.Eq.laws accepts (g.met.Q.KeyQuery.respects_eq c.args.query) c.self.inside.keys c.place_of.result
    c.place_of.ensures.found)

pub returns-clause-absent : goal.returns-clause-absent
returns-clause-absent g c =
    let accepts = g.Q.KeyQuery.equivalent c.args.query in
    subst (λ m. IfNone c.place_of.result (LacksWhere accepts g.K.PartialEq.eq m.lists)) c.self.view_is
    (lacks_where c.self.invariant.agrees accepts c.place_of.result c.place_of.ensures.absent)

-- a place is found where a key is listed that the query stands for
found_is : (g : Over) (c : After-place_of g)
    → is_some c.place_of.result ≡ list_any (g.Q.KeyQuery.equivalent c.args.query) (items_of c.self.inside.keys)
found_is g c =
    listed_as_found c.self.invariant.agrees (g.Q.KeyQuery.equivalent c.args.query) c.place_of.result c.place_of.ensures.found
    c.place_of.ensures.absent

pub returns-clause-listed : goal.returns-clause-listed
returns-clause-listed g c = found_is g c ∙ ap (λ m. list_any (g.Q.KeyQuery.equivalent c.args.query) m.lists.keys) c.self.view_is

pub returns-clause-present : goal.returns-clause-present
returns-clause-present g c =
    let accepts = g.Q.KeyQuery.equivalent c.args.query in
    found_is g c ∙ sym (present_where c.self.invariant.agrees accepts)
    ∙ ap (λ m. is_present_where accepts m.lists.pairs) c.self.view_is
