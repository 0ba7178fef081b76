use Rattle.std.proofs.Common.{◌≡◌, ◌+◌, ℕ, List, length, refl, sym, ap, ◌∙◌, subst, arith}
use Rattle.std.specs.Iterator.{size}
use Rattle.ordered_multimap.specs.Agrees.{HasKey}
use Rattle.ordered_multimap.specs.AppendMany.{GrowsBehind, HasValueRoomFor, under_key}
use Rattle.ordered_multimap.specs.Changes.{all_appended}
use Rattle.ordered_multimap.specs.Private.KeySteps.{KeepsPlace}
use Rattle.ordered_multimap.proofs.Agreement.Agreed.{length-pairs}
use Rattle.ordered_multimap.proofs.Agreement.LookUps.{listed_inside, own_key}
use Rattle.ordered_multimap.proofs.Append.Many.{grows_behind-reserved, length-many}
use Rattle.ordered_multimap.proofs.list_ordered_multimap.ListOrderedMultimap.append_many_at.Given.{Over}
use Rattle.ordered_multimap.proofs.list_ordered_multimap.ListOrderedMultimap.append_many_at.Goals.{After-append_rest}
use Rattle.ordered_multimap.proofs.list_ordered_multimap.ListOrderedMultimap.append_many_at.Goals as goal

-- the key at the place, before room was reserved and after
own : (g : Over) (c : After-append_rest g) → (k : g.row.K.Denot) × HasKey g.K.PartialEq.eq c.args.self.now.slots.keys k c.args.place
own g c =
    subst (λ m. (k : g.row.K.Denot) × HasKey g.K.PartialEq.eq m.slots.keys k c.args.place) c.self.view_is
    (own_key g.met.K.Eq.laws c.self.invariant.agrees c.args.place (listed_inside c.args.place c.self.view_is c.requires.listed))

still : (g : Over) (c : After-append_rest g) (k : g.row.K.Denot) → HasKey g.K.PartialEq.eq c.args.self.now.slots.keys k c.args.place
    → HasKey g.K.PartialEq.eq c.reserve_values-reserved.new.self.slots.keys k c.args.place
still g c k has = subst (λ keys. HasKey g.K.PartialEq.eq keys k c.args.place) (sym c.reserve_values-reserved.ensures.slots) has

-- how many pairs there were
before : (g : Over) (c : After-append_rest g) → c.len-old_len.result ≡ length c.args.self.now.lists.pairs
before g c = c.len-old_len.ensures.len ∙ sym (length-pairs c.self.invariant.agrees) ∙ ap (λ m. length m.lists.pairs) c.self.view_is

-- as many values fit as before
fits : (g : Over) (c : After-append_rest g) (n : ℕ) → HasValueRoomFor c.args.self.now n
    → HasValueRoomFor c.reserve_values-reserved.new.self n
fits g c n room =
    let r = c.reserve_values-reserved.ensures.grows in
    omega (arith, room, ap (λ m. length m.pairs) r.lists, r.rooms.values)

-- the map has grown for them alone
grows : (g : Over) (c : After-append_rest g) → GrowsBehind (HasValueRoomFor c.args.self.now (size (g.I.Iterator.remaining c.args.items)))
    c.args.self.now c.append_rest.new.self
grows g c =
    let r = c.reserve_values-reserved.ensures in
    grows_behind-reserved r.grows r.keys r.taken
    (λ room. r.had_room (omega (arith, room, c.size_hint.ensures.lower c.requires.finite.1))) (fits g c _) c.append_rest.ensures.grows

-- these values were appended once room was reserved
abbrev AreAppended : (g : Over) (c : After-append_rest g) → List g.row.V.Denot → Type 0
AreAppended g c given = (k : g.row.K.Denot) → HasKey g.K.PartialEq.eq c.reserve_values-reserved.new.self.slots.keys k c.args.place
    → c.append_rest.new.self.lists ≡ all_appended g.K.PartialEq.eq c.reserve_values-reserved.new.self.lists (under_key k given)

lists : (g : Over) (c : After-append_rest g) (given : List g.row.V.Denot) → AreAppended g c given
    → (k : g.row.K.Denot) → HasKey g.K.PartialEq.eq c.args.self.now.slots.keys k c.args.place
    → c.append_rest.new.self.lists ≡ all_appended g.K.PartialEq.eq c.args.self.now.lists (under_key k given)
lists g c given appended k has =
    appended k (still g c k has)
    ∙ ap (λ m. all_appended g.K.PartialEq.eq m (under_key k given)) c.reserve_values-reserved.ensures.grows.lists

stays : (g : Over) (c : After-append_rest g) → KeepsPlace g.K.PartialEq.eq c.args.self.now c.append_rest.new.self c.args.place
stays g c =
    let e = c.append_rest.ensures in let key = own g c in
    record {
      listed = (e.places key.0 c.args.place (still g c key.0 key.1)).listed;
      stays = λ k has. e.places k c.args.place (still g c k has);
    }

pub append_rest-requires-clause-key : goal.append_rest-requires-clause-key
append_rest-requires-clause-key g c =
    let eq = g.K.PartialEq.eq in
    let key = own_key g.met.K.Eq.laws c.self.invariant.agrees c.args.place
    (listed_inside c.args.place c.self.view_is c.requires.listed) in (
      key.0,
      subst (λ keys. HasKey eq keys key.0 c.args.place) (sym c.reserve_values-reserved.ensures.slots)
          (subst (λ m. HasKey eq m.slots.keys key.0 c.args.place) c.self.view_is key.1),
    )

pub returns-in-Ok-clause-stays : goal.returns-in-Ok-clause-stays
returns-in-Ok-clause-stays g c = stays g (goal.at.returns-in-Ok-clause-stays g c).After-append_rest

pub returns-in-Err-clause-stays : goal.returns-in-Err-clause-stays
returns-in-Err-clause-stays g c = stays g (goal.at.returns-in-Err-clause-stays g c).After-append_rest

-- how many there are now
count : (g : Over) (c : After-append_rest g) (given : List g.row.V.Denot) → AreAppended g c given
    → length c.append_rest.new.self.lists.pairs ≡ c.len-old_len.result + length given
count g c given appended =
    let key = own g c in
    ap (λ m. length m.pairs) (lists g c given appended key.0 key.1) ∙ length-many g.K.PartialEq.eq c.args.self.now.lists key.0 given
    ∙ ap (λ n. n + length given) (sym (before g c))

pub overflow_sub-result : goal.overflow_sub-result
overflow_sub-result g c =
    let at = (goal.at.overflow_sub-result g c).After-append_rest in
    let e = c.in-Ok.ensures in
    omega (arith, count g at e.given e.lists, c.values_len.ensures)

pub returns-in-Ok-clause-appended : goal.returns-in-Ok-clause-appended
returns-in-Ok-clause-appended g c =
    let at = (goal.at.returns-in-Ok-clause-appended g c).After-append_rest in
    let e = c.in-Ok.ensures in
    record {
      given = e.given;
      lists = lists g at e.given e.lists;
      read = (omega (arith, count g at e.given e.lists, c.values_len.ensures), e.read);
      full = tt;
      grows = grows g at;
      succeeds = λ room. refl;
      succeeds_for_most = λ room. refl;
    }

pub returns-in-Err-clause-appended : goal.returns-in-Err-clause-appended
returns-in-Err-clause-appended g c =
    let at = (goal.at.returns-in-Err-clause-appended g c).After-append_rest in
    let e = c.in-Err.ensures in
    record {
      given = e.given;
      lists = lists g at e.given e.lists;
      read = e.read;
      full = e.full;
      grows = grows g at;
      succeeds = λ room. e.succeeds (λ values t given. fits g at _ (room values t given));
      succeeds_for_most = λ room. e.succeeds_for_most (fits g at _ room);
    }
