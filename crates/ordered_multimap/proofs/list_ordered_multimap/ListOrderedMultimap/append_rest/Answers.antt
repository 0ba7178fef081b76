use Rattle.std.proofs.Common.{◌≤◌, ◌+◌, List, [], ◌∷◌, ◌++◌, length, length-append, true≢false, Err, refl, sym, ◌∙◌, subst, arith}
use Rattle.std.specs.Iterator.{Yields, size}
use Rattle.std.proofs.iter.Next.{Yields-more, on}
use Rattle.ordered_multimap.specs.AppendMany.{HasValueRoomFor}
use Rattle.ordered_multimap.specs.Private.AppendMany.{AppendsRest}
use Rattle.ordered_multimap.proofs.Append.Many.{behind-step, grows_behind-then, still_room}
use Rattle.ordered_multimap.proofs.list_ordered_multimap.ListOrderedMultimap.append_rest.Given.{Over}
use Rattle.ordered_multimap.proofs.list_ordered_multimap.ListOrderedMultimap.append_rest.Goals.{In-Some}
use Rattle.ordered_multimap.proofs.list_ordered_multimap.ListOrderedMultimap.append_rest.Goals as goal

-- the iterator has given these values and one more
abbrev values : (g : Over) (c : In-Some g) → List g.row.V.Denot
values g c = c.loop-value.yielded ++ c.in-Some.value ∷ []

given : (g : Over) (c : In-Some g) → Yields g.I.Iterator.next_gives c.into_iter-value-iterator.result (values g c) c.next.new.self
given g c =
    Yields-more g.I.Iterator.next_gives c.into_iter-value-iterator.result c.loop-value.yielded c.loop-value.value-iterator
    c.in-Some.value c.next.new.self c.loop-value.yielded_by c.in-Some.ensures.steps

-- they are no more than it may have given
counted : (g : Over) (c : In-Some g) → length (values g c) + size (g.I.Iterator.remaining c.next.new.self) ≤ size
    (g.I.Iterator.remaining c.into_iter-value-iterator.result)
counted g c =
    let nearer = on c.in-Some.value refl c.in-Some.ensures.goes c.loop-value.iterator.1 in
    omega (arith, c.loop-value.invariant.1, nearer.2, length-append c.loop-value.yielded (c.in-Some.value ∷ []))

-- so a map with room for as many as may come had room for one more than were appended
room_for_most : (g : Over) (c : In-Some g)
    → HasValueRoomFor c.args.self.now (size (g.I.Iterator.remaining c.into_iter-value-iterator.result))
    → HasValueRoomFor c.args.self.now (length c.loop-value.yielded + 1)
room_for_most g c room =
    omega (arith, room, counted g c, length-append c.loop-value.yielded (c.in-Some.value ∷ []))

pub loop-value-preserved : goal.loop-value-preserved
loop-value-preserved g c =
    let at = (goal.at.loop-value-preserved g c).In-Some in
    let key = c.requires.key in (
      behind-step c.loop-value.invariant.0 key.0 key.1 (room_for_most g at) c.in_default.ensures.ok c.in_default.ensures.places,
      counted g at,
    )

pub returns-in-Err : goal.returns-in-Err
returns-in-Err g c =
    let at = (goal.at.returns-in-Err g c).In-Some in
    let w = c.loop-value.invariant.0 in
    let e = c.in-Err.ensures.refused in
    let steps = g.I.Iterator.next_gives in
    let start = c.into_iter-value-iterator.result in
    subst (λ it. AppendsRest g.K.PartialEq.eq c.args.place steps g.I.Iterator.remaining it c.args.self.now c.append_at.new.self
    (Err c.in-Err.refused)) c.into_iter-value-iterator.ensures.into_iter_gives
    (record {
      given = c.loop-value.yielded;
      lists = λ k has. e.lists ∙ w.lists k has;
      read = (
        c.next.new.self,
        subst (λ v. Yields steps start (c.loop-value.yielded ++ v ∷ []) c.next.new.self) (sym e.returned)
            (given g at),
      );
      full = e.full;
      places = λ k p own. c.append_at.ensures.places k p (w.places k p own);
      grows = grows_behind-then (λ most. still_room w (room_for_most g at most)) w.grows e.grows e.taken;
      succeeds = λ room. absurd (true≢false (sym (c.in-Err.ensures.succeeds (still_room w
          (omega (
            arith,
            room (values g at) c.next.new.self (given g at),
            length-append c.loop-value.yielded (c.in-Some.value ∷ []),
          ))))));
      succeeds_for_most = λ room. absurd (true≢false (sym (c.in-Err.ensures.succeeds (still_room w (room_for_most g at room)))));
    })
