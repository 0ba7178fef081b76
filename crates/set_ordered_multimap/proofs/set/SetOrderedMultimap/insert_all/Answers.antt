use Rattle.std.proofs.Common.{List, [], ◌∷◌, ◌++◌, map, length-append, true≢false, refl, ap, sym, ◌∙◌, subst, arith}
use Rattle.std.specs.Iterator.{Yields}
use Rattle.std.proofs.iter.Next.{Yields-more}
use Rattle.std.proofs.lemmas.List.{map-append, length-map}
use Rattle.ordered_multimap.specs.Extends.{HasRoomForGiven}
use Rattle.ordered_multimap.specs.Rooms.{HasRoomForPairs}
use Rattle.set_ordered_multimap.proofs.Callers.FirstPairs.{all_inserted-push}
use Rattle.set_ordered_multimap.proofs.Callers.Sets.{IsSet-all_inserted}
use Rattle.ordered_multimap.proofs.Callers.Growth.{grows_for_none, grows_for_one, has_pair_room, room-fewer}
use Rattle.set_ordered_multimap.proofs.Insertions.{grows-inserted, no_room_to_insert, room_left}
use Rattle.set_ordered_multimap.specs.Set.{IsSet, all_inserted, set_inserted}
use Rattle.set_ordered_multimap.proofs.set.SetOrderedMultimap.insert_all.Given.{Over}
use Rattle.set_ordered_multimap.proofs.set.SetOrderedMultimap.insert_all.Goals.{In-Some}
use Rattle.set_ordered_multimap.proofs.set.SetOrderedMultimap.insert_all.Goals as goal

-- the pairs that were inserted
abbrev pairs : (g : Over) (c : In-Some g) → List (g.row.K.Denot × g.row.V.Denot)
pairs g c = map g.X.IntoPair.pair_of c.loop-item.yielded

-- the iterator has given these and one more
abbrev items : (g : Over) (c : In-Some g) → List g.row.X.Denot
items g c = c.loop-item.yielded ++ c.in-Some.item ∷ []

given : (g : Over) (c : In-Some g) → Yields g.I.IntoIter.Iterator.next_gives c.into_iter-item-iterator.result (items g c) c.next.new.self
given g c =
    Yields-more g.I.IntoIter.Iterator.next_gives c.into_iter-item-iterator.result c.loop-item.yielded c.loop-item.item-iterator
    c.in-Some.item c.next.new.self c.loop-item.yielded_by c.in-Some.ensures.steps

-- so there is room for one more pair
room_for_one : (g : Over) (c : In-Some g) → HasRoomForGiven g.I.IntoIterator.into_iter_gives g.I.IntoIter.Iterator.next_gives c.args.iter
    c.args.self.now
    → HasRoomForPairs c.loop-item.self 1
room_for_one g c room =
    room_left g.K.PartialEq.eq g.V.PartialEq.eq (pairs g c)
    (room-fewer (omega (
      arith,
      length-map c.loop-item.yielded g.X.IntoPair.pair_of,
      length-append c.loop-item.yielded (c.in-Some.item ∷ []),
    )) (room c.into_iter-item-iterator.result c.into_iter-item-iterator.ensures.into_iter_gives (items g c) c.next.new.self (given g c)))
    c.loop-item.invariant.0 c.loop-item.invariant.1.rooms

-- the lists so far are a set if the first ones are
set_so_far : (g : Over) (c : In-Some g) → IsSet g.K.PartialEq.eq g.V.PartialEq.eq c.args.self.now.lists
    → IsSet g.K.PartialEq.eq g.V.PartialEq.eq c.loop-item.self.lists
set_so_far g c set =
    subst (IsSet g.K.PartialEq.eq g.V.PartialEq.eq) (sym c.loop-item.invariant.0)
    (IsSet-all_inserted g.met.K.Eq.laws g.met.V.Eq.laws c.args.self.now.lists (pairs g c) set)

pub returns-in-Err-clause-inserts : goal.returns-in-Err-clause-inserts
returns-in-Err-clause-inserts g c =
    let at = (goal.at.returns-in-Err-clause-inserts g c).In-Some in
    let refused = c.in-Err.ensures.refused in (
      c.into_iter-item-iterator.result,
      c.loop-item.yielded,
      c.into_iter-item-iterator.ensures.into_iter_gives,
      refused.lists ∙ c.loop-item.invariant.0,
      (
        c.in-Some.item,
        c.next.new.self,
        given g at,
        sym c.into_pair-key.ensures ∙ ap (λ r. (r.key, r.value)) (sym refused.returned),
      ),
    )

pub returns-in-Err-clause-full : goal.returns-in-Err-clause-full
returns-in-Err-clause-full g c =
    let e = c.in-Err.ensures in let pair = c.into_pair-key.result in
    no_room_to_insert g.K.PartialEq.eq g.V.PartialEq.eq pair.0 pair.1 e.refused (λ room. true≢false (sym (e.succeeds room)))

pub returns-in-Err-clause-set : goal.returns-in-Err-clause-set
returns-in-Err-clause-set g c = λ set. c.in-Err.ensures.set (set_so_far g (goal.at.returns-in-Err-clause-set g c).In-Some set)

pub returns-in-Err-clause-grows : goal.returns-in-Err-clause-grows
returns-in-Err-clause-grows g c =
    let at = (goal.at.returns-in-Err-clause-grows g c).In-Some in
    let e = c.in-Err.ensures in
    record {
      grows =
          grows_for_one g.K.PartialEq.eq (room_for_one g at) (room_for_one g at) c.loop-item.invariant.1
          e.refused.rooms e.refused.had_room e.refused.taken;
      succeeds = λ room. e.succeeds (λ _. has_pair_room g.K.PartialEq.eq (room_for_one g at room) c.into_pair-key.result.0);
    }

pub loop-item-init : goal.loop-item-init
loop-item-init g c = (refl, grows_for_none c.args.self.now)

pub loop-item-preserved : goal.loop-item-preserved
loop-item-preserved g c =
    let at = (goal.at.loop-item-preserved g c).In-Some in
    let eq = g.K.PartialEq.eq in let value_eq = g.V.PartialEq.eq in
    let lists = c.args.self.now.lists in let pair = c.into_pair-key.result in
    let e = c.in_default.ensures in (
      e.lists ∙ ap (λ m. set_inserted eq value_eq m pair.0 pair.1) c.loop-item.invariant.0
          ∙ sym (all_inserted-push eq value_eq lists (pairs g at) pair.0 pair.1)
          ∙ ap (λ p. all_inserted eq value_eq lists (pairs g at ++ p ∷ [])) c.into_pair-key.ensures
          ∙ ap (all_inserted eq value_eq lists) (sym (map-append g.X.IntoPair.pair_of c.loop-item.yielded (c.in-Some.item ∷ []))),
      grows-inserted eq value_eq c.args.self.now c.loop-item.self c.insert.new.self pair.0 pair.1 (room_for_one g at) e.unchanged
          (λ absent. (e.appends absent).ok) c.loop-item.invariant.1,
    )

pub returns-clause-set : goal.returns-clause-set
returns-clause-set g c = λ set.
    subst (IsSet g.K.PartialEq.eq g.V.PartialEq.eq) (sym c.loop-item.invariant.0)
    (IsSet-all_inserted g.met.K.Eq.laws g.met.V.Eq.laws c.args.self.now.lists (map g.X.IntoPair.pair_of c.loop-item.yielded) set)
