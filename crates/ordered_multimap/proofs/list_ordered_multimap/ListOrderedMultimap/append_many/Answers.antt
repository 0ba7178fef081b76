use Rattle.std.proofs.Common.{◌≡◌, ◌≤◌, ◌+◌, ℕ, List, [], ◌∷◌, length, length-append, true≢false, Some, refl, sym, ap, ◌∙◌, subst, arith}
use Rattle.std.specs.Iterator.{Yields, size}
use Rattle.std.proofs.iter.Next.{on}
use Rattle.ordered_multimap.specs.AppendMany.{HasRoomForGivenValues, HasRoomForMostValues, HasValueRoomFor, under_key}
use Rattle.ordered_multimap.specs.Changes.{all_appended, appended}
use Rattle.ordered_multimap.specs.Keys.{stored_key}
use Rattle.ordered_multimap.specs.Lists.{Lists}
use Rattle.ordered_multimap.specs.Rooms.{HasPairRoom, SameRooms}
use Rattle.ordered_multimap.proofs.Append.Many.{fits_one, grows_first, grows_rest, length-many}
use Rattle.ordered_multimap.proofs.list_ordered_multimap.ListOrderedMultimap.append_many.Given.{Over}
use Rattle.ordered_multimap.proofs.list_ordered_multimap.ListOrderedMultimap.append_many.Goals.{In-Some, In-Ok}
use Rattle.ordered_multimap.proofs.list_ordered_multimap.ListOrderedMultimap.append_many.Goals as goal

-- the iterator gave a first value
first_read : (g : Over) (c : In-Some g) → Yields g.I.IntoIter.Iterator.next_gives c.into_iter-items.result (c.in-Some.first ∷ []) c.next.new.self
first_read g c = (c.next.new.self, c.in-Some.ensures.steps, refl)

-- which is one of those that it may give
nearer : (g : Over) (c : In-Some g) → size (g.I.IntoIter.Iterator.remaining c.next.new.self) + 1
    ≤ size (g.I.IntoIter.Iterator.remaining c.into_iter-items.result)
nearer g c =
    let gone = on c.in-Some.first refl c.in-Some.ensures.goes
    (c.requires c.into_iter-items.result c.into_iter-items.ensures.into_iter_gives).1 in
    omega (arith, gone.2)

pub returns-in_default-clause-appended : goal.returns-in_default-clause-appended
returns-in_default-clause-appended g c = (
  c.into_iter-items.result,
  [],
  c.into_iter-items.ensures.into_iter_gives,
  c.reserve_values-reserved.ensures.grows.lists,
  (refl, (c.next.new.self, (c.into_iter-items.result, refl, c.in_default.ensures.steps))),
)

pub returns-in-Err-clause-appended : goal.returns-in-Err-clause-appended
returns-in-Err-clause-appended g c =
    let at = (goal.at.returns-in-Err-clause-appended g c).In-Some in
    let e = c.in-Err.ensures.appends.refused in (
      c.into_iter-items.result,
      [],
      c.into_iter-items.ensures.into_iter_gives,
      e.lists ∙ c.reserve_values-reserved.ensures.grows.lists,
      (
        c.next.new.self,
        subst (λ v. Yields g.I.IntoIter.Iterator.next_gives c.into_iter-items.result (v ∷ []) c.next.new.self)
            (sym (ap (λ r. r.value) e.returned)) (first_read g at),
        ap (λ r. Some r.key) e.returned,
      ),
    )

-- the first value was appended, and then the others that the iterator gave
all_lists : (g : Over) (c : In-Ok g) (given : List g.row.V.Denot) (lists : Lists g.row.K.Denot g.row.V.Denot)
    → lists ≡ all_appended g.K.PartialEq.eq c.append_placed.new.self.lists (under_key c.args.key given)
    → lists ≡ all_appended g.K.PartialEq.eq c.args.self.now.lists (under_key c.args.key (c.in-Some.first ∷ given))
all_lists g c given lists rest =
    let eq = g.K.PartialEq.eq in
    rest ∙ ap (λ m. all_appended eq m (under_key c.args.key given))
    (c.in-Ok.ensures.appends.ok.lists ∙ ap (λ m. appended eq m c.args.key c.in-Some.first) c.reserve_values-reserved.ensures.grows.lists)

pub overflow_sub-result : goal.overflow_sub-result
overflow_sub-result g c =
    let at = (goal.at.overflow_sub-result g c).In-Ok in
    let e = c.in-Ok-append_rest.ensures in
    let lists = all_lists g at e.given c.append_rest.new.self.lists (e.lists c.args.key c.in-Ok.ensures.found) in
    omega (
      arith,
      c.values_len-before.ensures,
      c.values_len.ensures,
      ap (λ m. length m.pairs) lists,
      length-many g.K.PartialEq.eq c.args.self.now.lists c.args.key (c.in-Some.first ∷ e.given),
    )

pub returns-in-Ok-append_rest-clause-appended : goal.returns-in-Ok-append_rest-clause-appended
returns-in-Ok-append_rest-clause-appended g c =
    let at = (goal.at.returns-in-Ok-append_rest-clause-appended g c).In-Ok in
    let e = c.in-Ok-append_rest.ensures in
    let lists = all_lists g at e.given c.append_rest.new.self.lists (e.lists c.args.key c.in-Ok.ensures.found) in (
      c.into_iter-items.result,
      c.in-Some.first ∷ e.given,
      c.into_iter-items.ensures.into_iter_gives,
      lists,
      (
        omega (
          arith,
          c.values_len-before.ensures,
          c.values_len.ensures,
          ap (λ m. length m.pairs) lists,
          length-many g.K.PartialEq.eq c.args.self.now.lists c.args.key (c.in-Some.first ∷ e.given),
        ),
        (e.read.0, (e.read.1.0, (c.next.new.self, c.in-Some.ensures.steps, e.read.1.1), e.read.1.2)),
      ),
    )

pub returns-in-Err-append_rest-clause-appended : goal.returns-in-Err-append_rest-clause-appended
returns-in-Err-append_rest-clause-appended g c =
    let at = (goal.at.returns-in-Err-append_rest-clause-appended g c).In-Ok in
    let e = c.in-Err-append_rest.ensures in (
      c.into_iter-items.result,
      c.in-Some.first ∷ e.given,
      c.into_iter-items.ensures.into_iter_gives,
      all_lists g at e.given c.append_rest.new.self.lists (e.lists c.args.key c.in-Ok.ensures.found),
      (e.read.0, (c.next.new.self, c.in-Some.ensures.steps, e.read.1), refl),
    )

-- room for as many as may come is room for the first
fits_first : (g : Over) (c : In-Some g)
    → HasRoomForMostValues g.K.PartialEq.eq c.args.key g.I.IntoIterator.into_iter_gives g.I.IntoIter.Iterator.remaining c.args.values
    c.args.self.now
    → HasPairRoom g.K.PartialEq.eq c.reserve_values-reserved.new.self c.args.key
fits_first g c room =
    let reserved = c.reserve_values-reserved.ensures in
    fits_one reserved.grows.lists (omega (arith, nearer g c)) reserved.grows.rooms
    (room c.into_iter-items.result c.into_iter-items.ensures.into_iter_gives)

-- and so is room for all that come
fits_given : (g : Over) (c : In-Some g)
    → HasRoomForGivenValues g.K.PartialEq.eq c.args.key g.I.IntoIterator.into_iter_gives g.I.IntoIter.Iterator.next_gives c.args.values
    c.args.self.now
    → HasPairRoom g.K.PartialEq.eq c.reserve_values-reserved.new.self c.args.key
fits_given g c room =
    let reserved = c.reserve_values-reserved.ensures in
    fits_one reserved.grows.lists (omega arith) reserved.grows.rooms
    (room c.into_iter-items.result c.into_iter-items.ensures.into_iter_gives (c.in-Some.first ∷ []) c.next.new.self (first_read g c))

-- nothing was reserved where there was room
same_reserved : (g : Over) (c : In-Some g)
    → HasRoomForMostValues g.K.PartialEq.eq c.args.key g.I.IntoIterator.into_iter_gives g.I.IntoIter.Iterator.remaining c.args.values
    c.args.self.now
    → SameRooms c.args.self.now c.reserve_values-reserved.new.self
same_reserved g c room =
    let start = c.into_iter-items in
    let hinted = c.size_hint.ensures.lower (c.requires start.result start.ensures.into_iter_gives).1 in
    c.reserve_values-reserved.ensures.had_room
    (omega (arith, (room start.result start.ensures.into_iter_gives).values, hinted))

pub returns-in-Err-clause-grows : goal.returns-in-Err-clause-grows
returns-in-Err-clause-grows g c =
    let at = (goal.at.returns-in-Err-clause-grows g c).In-Some in
    let r = c.reserve_values-reserved.ensures in let a = c.in-Err.ensures.appends in let e = a.refused in
    record {
      grows = grows_first r.grows.lists r.grows r.keys r.taken (same_reserved g at) (fits_first g at) e.rooms e.had_room e.taken;
      succeeds = λ room. absurd (true≢false (sym (a.succeeds (fits_given g at room))));
      succeeds_for_most = λ room. absurd (true≢false (sym (a.succeeds (fits_first g at room))));
    }

-- where one more fitted than these, they fit behind the first
fit_behind : (g : Over) (c : In-Ok g) (n : ℕ) → length c.args.self.now.lists.pairs + (n + 1) ≤ c.args.self.now.value_room
    → HasValueRoomFor c.append_placed.new.self n
fit_behind g c n room =
    let r = c.reserve_values-reserved.ensures.grows in let first = c.in-Ok.ensures.appends.ok in
    let before = c.reserve_values-reserved.new.self.lists in
    omega (
      arith,
      room,
      r.rooms.values,
      first.rooms.values,
      ap (λ m. length m.pairs) r.lists,
      ap (λ m. length m.pairs) first.lists,
      length-append before.pairs ((stored_key g.K.PartialEq.eq before.keys c.args.key, c.in-Some.first) ∷ []),
    )

pub returns-in-Err-append_rest-clause-grows : goal.returns-in-Err-append_rest-clause-grows
returns-in-Err-append_rest-clause-grows g c =
    let at = (goal.at.returns-in-Err-append_rest-clause-grows g c).In-Some in
    let ok = (goal.at.returns-in-Err-append_rest-clause-grows g c).In-Ok in
    let r = c.reserve_values-reserved.ensures in let first = c.in-Ok.ensures.appends.ok in let rest = c.in-Err-append_rest.ensures in
    let start = c.into_iter-items in let became = start.ensures.into_iter_gives in
    let most : HasRoomForMostValues g.K.PartialEq.eq c.args.key g.I.IntoIterator.into_iter_gives g.I.IntoIter.Iterator.remaining
    c.args.values c.args.self.now
    → HasValueRoomFor c.append_placed.new.self (size (g.I.IntoIter.Iterator.remaining c.next.new.self)) =
    λ room. fit_behind g ok _ (omega (arith, nearer g at, (room start.result became).values)) in
    record {
      grows = grows_rest most
          (grows_first r.grows.lists r.grows r.keys r.taken (same_reserved g at) (fits_first g at) first.rooms first.had_room first.taken)
          rest.grows;
      succeeds = λ room. absurd (true≢false (sym (rest.succeeds (λ values t given. fit_behind g ok _ (omega (
        arith,
        (room start.result became (c.in-Some.first ∷ values) t (c.next.new.self, c.in-Some.ensures.steps, given)).values,
      ))))));
      succeeds_for_most = λ room. absurd (true≢false (sym (rest.succeeds_for_most (most room))));
    }
