use Rattle.std.proofs.Common.{rules}
use Rattle.std.proofs.Common.{ℕ, map, List, [], ◌∷◌, ◌++◌, ◌+◌, ◌≤◌, length, length-append, true≢false, refl, ap, sym, ◌∙◌, subst, arith}
use Rattle.std.specs.Iterator.{Yields, size}
use Rattle.std.proofs.iter.Next.{Yields-more, on}
use Rattle.std.proofs.lemmas.List.{map-append, length-map}
use Rattle.ordered_multimap.specs.Changes.{appended, all_appended}
use Rattle.ordered_multimap.specs.Extends.{HasRoomForGiven, HasRoomForMost}
use Rattle.ordered_multimap.specs.Rooms.{HasRoomForPairs}
use Rattle.ordered_multimap.proofs.Append.Extended.{all_appended-push, grows_on, room_left}
use Rattle.ordered_multimap.proofs.Callers.Growth.{has_pair_room, room-fewer}
use Rattle.ordered_multimap.proofs.list_ordered_multimap.ListOrderedMultimap.append_all.Given.{Over}
use Rattle.ordered_multimap.proofs.list_ordered_multimap.ListOrderedMultimap.append_all.Goals.{In-Some, In-Err}
use Rattle.ordered_multimap.proofs.list_ordered_multimap.ListOrderedMultimap.append_all.Goals as goal

became : (g : Over) (c : In-Some g) → g.I.IntoIterator.into_iter_gives c.args.iter c.into_iter-item-iterator.result
became g c = subst (g.I.IntoIterator.into_iter_gives c.args.iter)
    (sym c.into_iter-item-iterator.ensures.into_iter_gives) c.into_iter-items.ensures.into_iter_gives

-- the pairs that were appended
abbrev pairs : (g : Over) (c : In-Some g) → List (g.row.K.Denot × g.row.V.Denot)
pairs g c = map g.X.IntoPair.pair_of c.loop-item.yielded

-- the iterator has given these and one more
abbrev items : (g : Over) (c : In-Some g) → List g.row.X.Denot
items g c = c.loop-item.yielded ++ c.in-Some.item ∷ []

given : (g : Over) (c : In-Some g) → Yields g.I.IntoIter.Iterator.next_gives c.into_iter-item-iterator.result (items g c) c.next.new.self
given g c =
    Yields-more g.I.IntoIter.Iterator.next_gives c.into_iter-item-iterator.result c.loop-item.yielded c.loop-item.item-iterator
    c.in-Some.item c.next.new.self c.loop-item.yielded_by c.in-Some.ensures.steps

-- they are no more than it may have given
counted : (g : Over) (c : In-Some g) → length (items g c) + size (g.I.IntoIter.Iterator.remaining c.next.new.self) ≤ size
    (g.I.IntoIter.Iterator.remaining c.into_iter-item-iterator.result)
counted g c =
    let nearer = on c.in-Some.item refl c.in-Some.ensures.goes c.loop-item.iterator.1 in
    omega (arith, c.loop-item.invariant.2, nearer.2, length-append c.loop-item.yielded (c.in-Some.item ∷ []))

-- so a map with room for them had room for one more pair than were appended
one_more : (g : Over) (c : In-Some g) {n : ℕ} → length (items g c) ≤ n → HasRoomForPairs c.args.self.now n
    → HasRoomForPairs c.args.self.now (length (pairs g c) + 1)
one_more g c enough room =
    room-fewer (omega (
      arith,
      enough,
      length-map c.loop-item.yielded g.X.IntoPair.pair_of,
      length-append c.loop-item.yielded (c.in-Some.item ∷ []),
    )) room

room_for_given : (g : Over) (c : In-Some g) → HasRoomForGiven g.I.IntoIterator.into_iter_gives g.I.IntoIter.Iterator.next_gives c.args.iter
    c.args.self.now
    → HasRoomForPairs c.args.self.now (length (pairs g c) + 1)
room_for_given g c room =
    one_more g c (omega arith) (room c.into_iter-item-iterator.result (became g c) (items g c) c.next.new.self (given g c))

room_for_most : (g : Over) (c : In-Some g) → HasRoomForMost g.I.IntoIterator.into_iter_gives g.I.IntoIter.Iterator.remaining c.args.iter
    c.args.self.now
    → HasRoomForPairs c.args.self.now (length (pairs g c) + 1)
room_for_most g c room = one_more g c (omega (arith, counted g c)) (room c.into_iter-item-iterator.result (became g c))

-- and then the pair is not refused
not_refused : (g : Over) (c : In-Err g) → HasRoomForPairs c.args.self.now (length (map g.X.IntoPair.pair_of c.loop-item.yielded) + 1) → ⊥
not_refused g c room =
    let eq = g.K.PartialEq.eq in
    let left = room_left eq (map g.X.IntoPair.pair_of c.loop-item.yielded) room c.loop-item.invariant.0 c.loop-item.invariant.1.rooms in
    true≢false (sym (c.in-Err.ensures.succeeds (has_pair_room eq left c.into_pair-key.result.0)))

pub returns-in-Err-clause-extends : goal.returns-in-Err-clause-extends
returns-in-Err-clause-extends g c =
    let at = (goal.at.returns-in-Err-clause-extends g c).In-Some in (
      c.into_iter-item-iterator.result,
      c.loop-item.yielded,
      became g at,
      c.in-Err.ensures.refused.lists ∙ c.loop-item.invariant.0,
      (
        c.in-Some.item,
        c.next.new.self,
        given g at,
        sym c.into_pair-key.ensures ∙ ap (λ r. (r.key, r.value)) (sym c.in-Err.ensures.refused.returned),
      ),
    )

pub returns-in-Err-clause-grows : goal.returns-in-Err-clause-grows
returns-in-Err-clause-grows g c =
    let at = (goal.at.returns-in-Err-clause-grows g c).In-Some in
    let err = (goal.at.returns-in-Err-clause-grows g c).In-Err in
    let e = c.in-Err.ensures.refused in
    record {
      grows =
          grows_on g.K.PartialEq.eq (pairs g at) (room_for_given g at) (room_for_most g at) c.loop-item.invariant.0 c.loop-item.invariant.1
          e.rooms e.had_room e.taken;
      succeeds = λ room. absurd (not_refused g err (room_for_given g at room));
      succeeds_for_most = λ room. absurd (not_refused g err (room_for_most g at room));
    }

pub loop-item-init : goal.loop-item-init
loop-item-init g c =
    let items = c.into_iter-items in
    let reserved = c.reserve_values-reserved.ensures in (
      reserved.grows.lists,
      record {
        rooms = reserved.grows.rooms;
        doubles = reserved.grows.doubles;
        taken = reserved.taken;
        key_room = λ room. reserved.keys;
        had_room = λ room.
            let hinted = c.size_hint.ensures.lower (c.requires items.result items.ensures.into_iter_gives).1 in
            reserved.had_room (omega (arith, (room items.result items.ensures.into_iter_gives).values, hinted));
      },
      omega arith,
    )

pub loop-item-preserved : goal.loop-item-preserved
loop-item-preserved g c =
    let at = (goal.at.loop-item-preserved g c).In-Some in
    let eq = g.K.PartialEq.eq in
    let lists = c.args.self.now.lists in
    let pair = c.into_pair-key.result in
    let e = c.in_default.ensures.ok in (
      e.lists
          ∙ ap (λ m. appended eq m pair.0 pair.1) c.loop-item.invariant.0
          ∙ sym (all_appended-push eq lists (pairs g at) pair.0 pair.1)
          ∙ ap (λ p. all_appended eq lists (pairs g at ++ p ∷ [])) c.into_pair-key.ensures
          ∙ ap (all_appended eq lists) (sym (map-append g.X.IntoPair.pair_of c.loop-item.yielded (c.in-Some.item ∷ []))),
      grows_on eq (pairs g at) (room_for_given g at) (room_for_most g at) c.loop-item.invariant.0 c.loop-item.invariant.1
          e.rooms e.had_room e.taken,
      counted g at,
    )

pub returns-clause-extends : goal.returns-clause-extends
returns-clause-extends g c =
    let start = c.into_iter-item-iterator in (
      start.result,
      c.loop-item.yielded,
      subst (g.I.IntoIterator.into_iter_gives c.args.iter) (sym start.ensures.into_iter_gives) c.into_iter-items.ensures.into_iter_gives,
      c.loop-item.invariant.0,
      (c.next.new.self, (c.loop-item.item-iterator, c.loop-item.yielded_by, c.in-None.ensures.steps)),
    )

pub returns-clause-full : goal.returns-clause-full
returns-clause-full g c = search rules
