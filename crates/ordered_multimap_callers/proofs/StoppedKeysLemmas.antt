-- Where a walk over keys gave one value of its next key alone: what that walk ends as. Assumes `Logic`.
use Rattle.std.proofs.Common.{◌≡◌, ℕ, zero, suc, ◌<◌, Bool, true, List, [], ◌∷◌, length, get_or, set, arith, inl, inr}
use Rattle.std.proofs.Common.{Option, Some, None, IsSome, refl, sym, ap, ◌∙◌, subst, option_map}
use Rattle.std.proofs.lemmas.Bool.{false≢true}
use Rattle.std.specs.Prelude.{slice_get}
use Rattle.std.specs.Cmp.{IsEquivalence}
use Rattle.std.specs.List.{filter_map, cons_option}
use seplogic.Ra.Ura.{Ura}
use base.Logic.{all_e, apply∗, ent, snd∗, via, wand}
use base.Fml.{Fml, fall, fex, fres, fwand}
use types.Logic.{Logic, sem}
use types.Kit.{assume, each, raw, ‵, ◌$◌, ◌∵◌, !, qed, move, use1, use2, fpick, fpack, done}
use denote.RattleType.{RattleType}
use Rattle.std.specs.Borrow.{Bor, MutBor}
use Rattle.std.specs.declared.alloc.Allocator as alloc
use Rattle.std.specs.declared.cmp.PartialEq as equality
use Rattle.std.specs.declared.hash.Hash as hashed
use Rattle.std.specs.declared.hash.Hasher as hasher
use Rattle.std.specs.declared.hash.BuildHasher as builder
use Rattle.multimap_slots.specs.Ended.{become, ends_with}
use Rattle.multimap_slots.specs.declared.cells.Cells.{Cells}
use Rattle.multimap_slots.specs.SlotCells.{lent_slots, LendsSlots}
use Rattle.multimap_slots.specs.Slots.{Slots, item_at, with_item}
use Rattle.multimap_slots.specs.Lists.{IsIn, next_of, previous_of}
use Rattle.multimap_slots.specs.CellsLends.{with_refilled}
use Rattle.multimap_slots.specs.Taken.{refilled}
use Rattle.multimap_slots.proofs.Callers.Tapes.{IsSome-within}
use Rattle.multimap_walks.specs.Chained.{pairs_of, places_along, position_in, positions_at, values_at}
use Rattle.multimap_walks.specs.Walk.{end_item}
use Rattle.multimap_walks.specs.WritingWalk.{entry_values_mut_name, entry_values_mut_positions, entry_values_mut_rest}
use Rattle.multimap_walks.specs.WritingWalk.{entry_values_mut_values, LendsFirstOfKey}
use Rattle.multimap_walks.specs.declared.End.{End}
use Rattle.multimap_walks.specs.declared.End.TheVariants.{Front}
use Rattle.multimap_walks.specs.declared.links.ValueLink.{ValueLink}
use Rattle.ordered_multimap.specs.ValueCells.{EntryWalk}
use Rattle.multimap_walks.specs.Along.{places_left}
use Rattle.multimap_walks.proofs.Callers.Squashed.{read_chain, read_left}
use Rattle.multimap_walks.proofs.Callers.Paths.{path-is}
use Rattle.ordered_multimap.specs.Changes.{first_written}
use Rattle.ordered_multimap.specs.Exact.{EntryWalksAreExact, InnerWalksAreExact, IsEndedWalk, KeyWalksAreExact}
use Rattle.ordered_multimap.specs.Exact.{ended_map, walk_ends_exactly}
use Rattle.ordered_multimap.specs.KeysLeft.{keys_left}
use Rattle.ordered_multimap.specs.Pairs.{has_items, positions_of, values_of, with_first_value, with_value_at}
use Rattle.ordered_multimap.specs.Lists.{IsWellFormed, Lists, lists}
use Rattle.ordered_multimap.specs.Multimap.{Multimap}
use Rattle.ordered_multimap.specs.ValuesLent.{pairs_ended, revalued, with_values}
use Rattle.ordered_multimap.specs.Writes.{IsWritten}
use Rattle.ordered_multimap.specs.WalkLends.{EndsStepped, lends_key_values, walk_row}
use Rattle.ordered_multimap.specs.declared.list_ordered_multimap.key_values_mut.KeyValuesMut.{KeyValuesMut}
use Rattle.ordered_multimap.proofs.Agreement.Agreed.{well_formed}
use Rattle.ordered_multimap.proofs.Callers.ListedKeys.{is_listed-self}
use Rattle.ordered_multimap.proofs.Callers.Places.{IsIn-filter_map}
use Rattle.ordered_multimap.proofs.Callers.WellFormed.{is_present-keys}
use Rattle.ordered_multimap.proofs.Callers.Writes.{pairs_of-with_item}
use Rattle.ordered_multimap_callers.specs.Ends.{ends_next_written, IsNextWritten}
use Rattle.ordered_multimap_callers.proofs.StoppedLemmas.{taken_becomes}
use Rattle.ordered_multimap_callers.proofs.WalkShows.{SlotsAgree}

-- a list with items has one at its front
pub no_front : {X : Type 0} (xs : List X) → 0 < length xs → None ≡ end_item Front xs → ⊥
no_front [] more e = omega (arith, more)
no_front (x ∷ xs) more e = absurd (let bad = e in cc)

-- the first place of a chain with values has the first of their positions
front_position : {V : Type 0} (slots : Slots V ValueLink) (p n : ℕ) → 0 < length (values_at slots (places_along slots p n))
    → slice_get (positions_at slots (places_along slots p n)) 0 ≡ Some (position_in slots.order p)
front_position slots p zero more = absurd (omega (arith, more))
front_position slots p (suc n) more = refl

front_along : {V : Type 0} (slots : Slots V ValueLink) (p n : ℕ) → 0 < length (values_at slots (places_along slots p n))
    → IsIn p (places_along slots p n)
front_along slots p zero more = absurd (omega (arith, more))
front_along slots p (suc n) more = inl refl

-- where items stand, the same ones again
refilled_self : {X : Type 0} (items : List (Option X)) → refilled items items ≡ items
refilled_self [] = refl
refilled_self (None ∷ items) = ap (λ ys. None ∷ ys) (refilled_self items)
refilled_self (Some x ∷ items) = ap (λ ys. Some x ∷ ys) (refilled_self items)

-- where items stand, the same ones but for one
refilled_set : {X : Type 0} (items : List (Option X)) (p : ℕ) (v : X) → IsSome (get_or items p None)
    → refilled items (set items p (Some v)) ≡ set items p (Some v)
refilled_set [] p v filled = absurd (false≢true filled)
refilled_set (None ∷ items) zero v filled = absurd (false≢true filled)
refilled_set (Some x ∷ items) zero v filled = ap (λ ys. Some v ∷ ys) (refilled_self items)
refilled_set (None ∷ items) (suc p) v filled = ap (λ ys. None ∷ ys) (refilled_set items p v filled)
refilled_set (Some x ∷ items) (suc p) v filled = ap (λ ys. Some x ∷ ys) (refilled_set items p v filled)

module _ {K V : Type 0} where
  revalued_self : (pairs : List (K × V)) → revalued pairs pairs ≡ pairs
  revalued_self [] = refl
  revalued_self (p ∷ pairs) = ap (λ qs. p ∷ qs) (revalued_self pairs)

  revalued_at : (pairs : List (K × V)) (i : ℕ) (v : V) → revalued pairs (with_value_at pairs i v) ≡ with_value_at pairs i v
  revalued_at [] i v = refl
  revalued_at (p ∷ pairs) zero v = ap (λ qs. (p.0, v) ∷ qs) (revalued_self pairs)
  revalued_at (p ∷ pairs) (suc i) v = ap (λ qs. p ∷ qs) (revalued_at pairs i v)

  -- the map whose slots ended with one other value has it as the first of a key, where its place is that of the key's first value
  first_is_written : {S : Type 0} (eq : K → K → Bool) (m : Multimap K V S) → SlotsAgree eq m
      → ((ws : List (Option V)) → (with_values m ws).lists.pairs ≡ pairs_ended m.lists.pairs m.slots.values.order ws)
      → (key : K) (place : ℕ) → IsIn place m.slots.values.order
      → slice_get (positions_of eq m.lists.pairs key) 0 ≡ Some (position_in m.slots.values.order place) → (v : V)
      → (ended_map m (set m.slots.values.items place (Some v))).lists ≡ first_written eq m.lists key v
  first_is_written eq m agree ends key place listed position v =
      let values : Slots V ValueLink = m.slots.values in let pairs : List (K × V) = m.lists.pairs in
      let ws : List (Option V) = set values.items place (Some v) in let at : ℕ = position_in values.order place in
      let refill : with_refilled values ws ≡ with_item values place v = ap (λ (xs : List (Option V)). record values { items = xs })
      (refilled_set values.items place v (agree.agrees.values_sound.filled place listed)) in
      let written : pairs_of m.slots.keys (with_item values place v) ≡ with_value_at pairs at v =
      pairs_of-with_item agree.agrees place listed v ∙ ap (λ (l : Lists K V). with_value_at l.pairs at v) agree.lists in
      let pairs_are : pairs_ended pairs values.order ws ≡ with_value_at pairs at v = sym (ends ws)
      ∙ ap (λ (s : Slots V ValueLink). revalued pairs (pairs_of m.slots.keys s)) refill ∙ ap (revalued pairs) written
      ∙ revalued_at pairs at v in
      let first_are : with_first_value eq pairs key v ≡ with_value_at pairs at v = ap
      (λ (o : Option ℕ). elim o as (λ _. List (K × V)) [ None ↦ pairs | Some i ↦ with_value_at pairs i v ]) position in
      ap (λ (ps : List (K × V)). lists m.lists.keys ps) (pairs_are ∙ sym first_are)

-- what is shown first at some places is shown at one of all places
first_shown : {Y : Type 0} (item_of : ℕ → Option Y) (places order : List ℕ) → ((p : ℕ) → IsIn p places → IsIn p order) → (y : Y)
    → end_item Front (filter_map item_of places) ≡ Some y → IsIn y (filter_map item_of order)
first_shown item_of [] order among y e = absurd (let bad = e in cc)
first_shown item_of (p ∷ places) order among y e =
    let From : Option _ → Type 0 = λ o. item_of p ≡ o → end_item Front (cons_option o (filter_map item_of places)) ≡ Some y
    → IsIn y (filter_map item_of order) in
    elim (item_of p) as From [
      | Some z ↦ λ is first. IsIn-filter_map item_of p y order (among p (inl refl)) (is ∙ first)
      | None ↦ λ is first. first_shown item_of places order (λ q i. among q (inr i)) y first
    ] refl e

some_items : {X : Type 0} (xs : List X) → has_items xs ≡ true → 0 < length xs
some_items [] e = absurd (false≢true e)
some_items (x ∷ xs) e = omega arith

-- the first key that a walk has left has a value
pub first_has_value : {K V S A H : Type 0} {e : equality.Ghosts K} {k : hashed.Ghosts K} {b : builder.Ghosts S H} {h : hasher.Ghosts H}
    → IsEquivalence e.eq → (w : KeyValuesMut K V S A H e k b h) → SlotsAgree e.eq w.map.now → (y : K)
    → end_item Front (keys_left w) ≡ Some y → 0 < length (values_of e.eq w.map.now.lists.pairs y)
first_has_value {e = e} laws w agree y first =
    let m = w.map.now in let keys = m.slots.keys in
    let left = read_left keys.order w.left w.are_left in
    let along : places_left keys.order w.left ≡ left.places = path-is (λ place. IsIn place keys.order) (next_of keys.order)
    (previous_of keys.order) w.left.first w.left.last w.left.length left in
    let listed : IsIn y m.lists.keys = subst (λ (l : Lists _ _). IsIn y l.keys) agree.lists
    (first_shown (item_at keys) (places_left keys.order w.left) keys.order (λ p i. left.there p (subst (IsIn p) along i)) y first) in
    let formed : IsWellFormed e.eq m.lists = subst (IsWellFormed e.eq) agree.lists (well_formed agree.agrees) in
    some_items (values_of e.eq m.lists.pairs y) (is_present-keys laws m.lists y formed ∙ is_listed-self laws y m.lists.keys listed)

module _ (K V S A H : RattleType) (e : equality.Ghosts K.Denot) (k : hashed.Ghosts K.Denot) (b : builder.Ghosts S.Denot H.Denot)
    (h : hasher.Ghosts H.Denot) (heap : alloc.Ghosts A.Denot) where
  abbrev Walk : Type 0
  Walk = KeyValuesMut K.Denot V.Denot S.Denot A.Denot H.Denot e k b h

  abbrev Next : Type 0
  Next = Bor K.Denot × EntryWalk K.Denot V.Denot A.Denot

  abbrev Follows : End → MutBor Walk → Next → Cells V.Denot → Fml
  Follows end w x c = fwand (lends_key_values K V S A H heap end w (Some x))
      (fwand (ends_with V c) (walk_ends_exactly K V S A H heap end w c))

  abbrev OfName : End → MutBor Walk → Next → Cells V.Denot → Fml
  OfName end w x c = fall (c.lender_loan ≡ entry_values_mut_name x.1) (λ _. Follows end w x c)

  abbrev OfAround : End → MutBor Walk → Next → Cells V.Denot → Fml
  OfAround end w x c = fall (c.lender_context ≡ (entry_values_mut_values x.1).cells.lender_context) (λ _. OfName end w x c)

  abbrev OfCells : End → MutBor Walk → Next → Cells V.Denot → Fml
  OfCells end w x c = fall (EndsStepped K V S A H heap end w.now x) (λ _. OfAround end w x c)

  abbrev OfNext : End → MutBor Walk → Next → Fml
  OfNext end w x = fall (Cells V.Denot) (OfCells end w x)

  abbrev OfWalk : End → MutBor Walk → Fml
  OfWalk end w = fall Next (OfNext end w)

  abbrev OfEnd : End → Fml
  OfEnd end = fall (MutBor Walk) (OfWalk end)

  -- the law of the walks over a key's values, of one such walk
  pub inner_law_at : {M : Type 1} {𝓤 : Ura M} (𝓛 : Logic 𝓤) (end : End) (w : MutBor Walk) (x : Next) (c : Cells V.Denot)
      → EndsStepped K V S A H heap end w.now x → c.lender_context ≡ (entry_values_mut_values x.1).cells.lender_context → c.lender_loan ≡ entry_values_mut_name x.1
      → ent 𝓤 (sem 𝓛 (InnerWalksAreExact K V S A H e k b h heap)) (sem 𝓛 (Follows end w x c))
  inner_law_at {𝓤 = 𝓤} 𝓛 end w x c stepped around name =
      let Keys : Fml = KeyWalksAreExact K V S A H e k b h heap in
      via 𝓤 (sem 𝓛 Keys) (snd∗ 𝓤 (sem 𝓛 (EntryWalksAreExact K V S A H e k b h heap)) (sem 𝓛 Keys))
      (via 𝓤 (sem 𝓛 (OfEnd end)) (all_e 𝓤 (λ n. sem 𝓛 (OfEnd n)) end)
      (via 𝓤 (sem 𝓛 (OfWalk end w)) (all_e 𝓤 (λ n. sem 𝓛 (OfWalk end n)) w)
      (via 𝓤 (sem 𝓛 (OfNext end w x)) (all_e 𝓤 (λ n. sem 𝓛 (OfNext end w n)) x)
      (via 𝓤 (sem 𝓛 (OfCells end w x c)) (all_e 𝓤 (λ n. sem 𝓛 (OfCells end w x n)) c)
      (via 𝓤 (sem 𝓛 (OfAround end w x c)) (all_e 𝓤 (λ _. sem 𝓛 (OfAround end w x c)) stepped)
      (via 𝓤 (sem 𝓛 (OfName end w x c)) (all_e 𝓤 (λ _. sem 𝓛 (OfName end w x c)) around)
      (all_e 𝓤 (λ _. sem 𝓛 (Follows end w x c)) name)))))))

  module _ (w : Walk) (x : Next) (t : EntryWalk K.Denot V.Denot A.Denot) (r : MutBor V.Denot)
      (stepped : EndsStepped K V S A H heap Front w x) (lends : LendsFirstOfKey x.1 (Some r) t) where
    abbrev place : ℕ
    place = x.1.left.first

    abbrev items : List (Option V.Denot)
    items = w.map.now.slots.values.items

    lent : LendsSlots w.map.now.slots.values x.1.values
    lent = subst (λ (m : MutBor _). LendsSlots m.now.slots.values x.1.values) stepped.same_map stepped.ends.lent

    within : place < length items
    within = IsSome-within items place
        (subst IsSome (sym (sym (ap (λ (s : Slots V.Denot ValueLink). item_at s place) lent.slots) ∙ lends.taken.item_is)) refl)

    -- of the walk that ended with one other value: what it is, by its lists
    ended_is_written : SlotsAgree e.eq w.map.now → entry_values_mut_positions x.1 ≡ positions_of e.eq w.map.now.lists.pairs x.0.now
        → 0 < length (entry_values_mut_rest x.1) → (v : V.Denot) (n : Walk) → IsEndedWalk Front w (set items place (Some v)) n
        → IsNextWritten w x.0.now v n
    ended_is_written agree positions more v n ended =
        let m = w.map.now in
        let position : slice_get (positions_of e.eq m.lists.pairs x.0.now) 0 ≡ Some (position_in m.slots.values.order place) =
        ap (λ ps. slice_get ps 0) (sym positions) ∙ front_position (lent_slots x.1.values) place x.1.left.length more
        ∙ ap (λ (s : Slots V.Denot ValueLink). Some (position_in s.order place)) lent.slots in
        let can = read_chain x.1.values x.1.left x.1.readable in
        let listed : IsIn place m.slots.values.order = subst (λ (s : Slots V.Denot ValueLink). IsIn place s.order) lent.slots
        (can.untaken.each place (front_along (lent_slots x.1.values) place x.1.left.length more)).listed in
        let pairs : (ws : List (Option V.Denot)) → (with_values m ws).lists.pairs ≡ pairs_ended m.lists.pairs m.slots.values.order ws =
        subst
        (λ (b : MutBor _). (ws : List (Option V.Denot)) → (with_values b.now ws).lists.pairs
        ≡ pairs_ended b.now.lists.pairs b.now.slots.values.order ws) stepped.same_map stepped.ends.pairs in
        let lists = first_is_written e.eq m agree pairs x.0.now place listed position v in
        record {
          map = subst (λ a. IsWritten m a (first_written e.eq m.lists x.0.now v)) (sym ended.map)
              (record { lists = lists; rooms = record { keys = refl; values = refl; slots = refl; hasher = refl }; tape = refl });
          same_name = ended.same_name;
          same_place = ended.same_place;
          keys = ended.keys;
        }

  -- what the walk over keys ends as, by what the reference to the first value of its next key ends with
  pub ends_next : {M : Type 1} {𝓤 : Ura M} (𝓛 : Logic 𝓤) (w : MutBor Walk) (x : Next) (t : EntryWalk K.Denot V.Denot A.Denot)
      (r : MutBor V.Denot) → EndsStepped K V S A H heap Front w.now x → LendsFirstOfKey x.1 (Some r) t → SlotsAgree e.eq w.now.map.now
      → option_map (λ (n : Next). n.0.now) (Some x) ≡ end_item Front (keys_left w.now)
      → entry_values_mut_positions x.1 ≡ positions_of e.eq w.now.map.now.lists.pairs x.0.now → 0 < length (entry_values_mut_rest x.1)
      → ent 𝓤 (sem 𝓛 (walk_ends_exactly K V S A H heap Front w t.values.cells)) (sem 𝓛 (ends_next_written K V S A H heap w r))
  ends_next {𝓤 = 𝓤} 𝓛 w x t r stepped lends agree key positions more =
      let B = 𝓛.A in let s = x.1 in let at = x.1.left.first in let c = t.values.cells in
      let old : List (Option V.Denot) = w.now.map.now.slots.values.items in
      let code : Walk → Fml = λ n. fres w.ghost_name ((walk_row K V S A H e k b h heap).coded.code n) in
      let Ended : List (Option V.Denot) → Type 0 = λ ws. (n : Walk) × IsEndedWalk Front w.now ws n in
      let Ends : (ws : List (Option V.Denot)) → Ended ws → Fml = λ ws n. code n.0 in
      let Written : K.Denot → V.Denot → Type 0 = λ y v. (n : Walk) × IsNextWritten w.now y v n in
      let Leaves : (y : K.Denot) (v : V.Denot) → Written y v → Fml = λ y v n. code n.0 in
      let Said : K.Denot → Fml = λ y. fall V.Denot (λ v. fwand (fres r.ghost_name (V.coded.code v)) (fex (Written y v) (Leaves y v))) in
      let Keys : Type 0 = (y : K.Denot) × (end_item Front (keys_left w.now) ≡ Some y) in
      qed 𝓛 (‵ (walk_ends_exactly K V S A H heap Front w c) ∷ []) ∵
      use1 𝓛 (‵ (Said x.0.now)) (qed 𝓛 (‵ (walk_ends_exactly K V S A H heap Front w c) ∷ []) ∵
      each ! (λ (v : V.Denot). wand 𝓤 (B.res r.ghost_name (V.coded.code v)) (sem 𝓛 (fex (Written x.0.now v) (Leaves x.0.now v)))) (λ v.
      let ws : List (Option V.Denot) = set old at (Some v) in
      assume ! (‵ (fres r.ghost_name (V.coded.code v))) $
      use1 𝓛 (‵ (become V c.names c.items c.left ws)) (taken_becomes 𝓛 V w.now.map.now.slots.values s.values t.values at r v
      (lent w.now x t r stepped lends) lends.taken (within w.now x t r stepped lends)) $ move ! (1 ∷ []) $
      use1 𝓛 (raw (wand 𝓤 (sem 𝓛 (become V c.names c.items c.left ws)) (sem 𝓛 (fex (Ended ws) (Ends ws)))))
      (all_e 𝓤 (λ (vs : List (Option V.Denot)). wand 𝓤 (sem 𝓛 (become V c.names c.items c.left vs))
      (sem 𝓛 (fex (Ended vs) (Ends vs)))) ws) $
      move ! (1 ∷ 0 ∷ []) $ use2 𝓛 (‵ (fex (Ended ws) (Ends ws)))
      (apply∗ 𝓤 (sem 𝓛 (become V c.names c.items c.left ws)) (sem 𝓛 (fex (Ended ws) (Ends ws)))) $
      fpick ! (λ n. fpack ! (Written x.0.now v) (Leaves x.0.now v)
      (n.0, ended_is_written w.now x t r stepped lends agree positions more v n.0 n.1) $ done !))) $
      fpack ! Keys (λ y. Said y.0) (x.0.now, sym key) $ done !
