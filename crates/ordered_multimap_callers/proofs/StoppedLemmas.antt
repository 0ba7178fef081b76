-- Where a walk for writing gave the first value alone: what the pairs and the slots become. Assumes `Logic`.
use Rattle.std.proofs.Common.{◌≡◌, ◌==◌, ℕ, zero, suc, ◌+◌, ◌<◌, Bool, true, false, cond, List, [], ◌∷◌, length, map, get_or, set}
use Rattle.std.proofs.Common.{replicate, Option, Some, None, IfSome, IsSome, unwrap_or, refl, sym, ap, ◌∙◌, subst, inl, inr, arith}
use Rattle.std.proofs.Common.{option_map}
use Rattle.std.proofs.lemmas.Bool.{cases_eq, ne_eqb}
use Rattle.std.proofs.lemmas.List.{get_or-set_same, get_or-set_other}
use Rattle.std.specs.List.{filter_map, cons_option, enumerate_from}
use seplogic.Ra.Ura.{Ura}
use base.Logic.{all_e, apply∗, emp, ent, via, wand}
use base.Fml.{Fml, GName, fall, feq, fres, fsep, fwand}
use types.Logic.{Logic, sem}
use types.Kit.{assume, each, raw, ‵, ◌$◌, ◌∵◌, !, qed, move, use0, use1, use2, fjoin, fpack, feq_i, done}
use denote.RattleType.{RattleType}
use denote.Follow.{follows}
use denote.Steps.{nothing}
use Rattle.std.specs.Borrow.{MutBor}
use Rattle.std.specs.HashMap.Lent.{HashMembers}
use Rattle.std.specs.declared.alloc.Allocator as alloc
use Rattle.std.specs.declared.hash.Hasher as hasher
use Rattle.std.specs.declared.hash.BuildHasher as builder
use Rattle.multimap_slots.specs.Ended.{become, ends_with}
use Rattle.multimap_slots.specs.declared.cells.Cells.{Cells}
use Rattle.multimap_slots.specs.declared.cells_of.SlotCells.{SlotCells}
use Rattle.multimap_slots.specs.SlotCells.{lent_slots, LendsSlots, TakesItem}
use Rattle.multimap_slots.specs.Slots.{Slots, item_at}
use Rattle.multimap_slots.specs.Lists.{IsIn, AreDistinct, first_of, next_of, previous_of}
use Rattle.multimap_slots.proofs.Callers.Tapes.{IsSome-within}
use Rattle.multimap_walks.specs.Along.{AreLeft, places_left}
use Rattle.multimap_walks.specs.Chained.{position_in}
use Rattle.multimap_walks.specs.Walk.{end_item}
use Rattle.multimap_walks.specs.WritingWalk.{values_mut_positions, values_mut_rest, LendsFirstValue}
use Rattle.multimap_walks.specs.declared.End.TheVariants.{Front}
use Rattle.multimap_walks.specs.declared.links.ChainEnds.{ChainEnds}
use Rattle.multimap_walks.specs.declared.links.ValueLink.{ValueLink}
use Rattle.multimap_walks.specs.declared.packed.PackedLink.{PackedLink}
use Rattle.multimap_walks.specs.declared.writing.values.ValuesMut.{ValuesMut}
use Rattle.multimap_walks.specs.contracts.packed.PackedLinkLinkFormValueLink.TheImpl.{ghosts}
use Rattle.multimap_walks.proofs.Callers.Paths.{path-is}
use Rattle.multimap_walks.proofs.Callers.Squashed.{read_lends}
use Rattle.ordered_multimap.specs.Multimap.{Multimap, multimap_code}
use Rattle.ordered_multimap.specs.Pairs.{all_positions, all_values, with_value_at}
use Rattle.ordered_multimap.specs.Changes.{end_written}
use Rattle.ordered_multimap.specs.Exact.{ended_map, ends_exactly, WalksAreExact}
use Rattle.ordered_multimap.specs.Lists.{Lists, lists}
use Rattle.ordered_multimap.specs.PopAnswers.{map_row}
use Rattle.ordered_multimap.specs.ValueCells.{ValueCells}
use Rattle.ordered_multimap.specs.ValuesLent.{EndsMap, pairs_ended, with_values_of}
use Rattle.ordered_multimap.proofs.Callers.Places.{held}
use Rattle.ordered_multimap_callers.specs.Ends.{ends_first_written, ends_with_lists}

-- the map's walk over all values
abbrev pub ValuesWalk : Type 0 → Type 0 → Type 0 → Type 0
ValuesWalk K V A = ValuesMut K V A PackedLink ghosts

heads : {X : Type 0} (x y : X) (xs ys : List X) → x ∷ xs ≡ y ∷ ys → x ≡ y
heads x y xs ys e = let both = e in cc

tails : {X : Type 0} (x y : X) (xs ys : List X) → x ∷ xs ≡ y ∷ ys → xs ≡ ys
tails x y xs ys e = let both = e in cc

one_less : (b : Bool) (n at : ℕ) → cond b 0 (suc n) ≡ suc at → n ≡ at
one_less true n at e = absurd (omega (arith, e))
one_less false n at e = omega (arith, e)

-- the place at position 0 is the first
at_front : (q : ℕ) (order : List ℕ) (p : ℕ) → position_in (q ∷ order) p ≡ 0 → q ≡ p
at_front q order p e = elim (cases_eq q p) as (λ _. q ≡ p) [
  | inl same ↦ same
  | inr differs ↦ absurd (let more : suc (position_in order p) ≡ 0 = sym
      (ap (λ b. cond b 0 (suc (position_in order p))) (ne_eqb q p differs)) ∙ e in omega (arith, more))
]

module _ {K V : Type 0} where
  -- places behind the first have positions less by one among those behind it
  behind_first : (q : ℕ) (order places : List ℕ) (at : ℕ) (pairs : List (K × V))
      → map (position_in (q ∷ order)) places ≡ map (λ e. e.0) (enumerate_from (suc at) pairs)
      → map (position_in order) places ≡ map (λ e. e.0) (enumerate_from at pairs)
  behind_first q order [] at [] e = refl
  behind_first q order [] at (x ∷ pairs) e = absurd (let bad = e in cc)
  behind_first q order (p ∷ places) at [] e = absurd (let bad = e in cc)
  behind_first q order (p ∷ places) at (x ∷ pairs) e =
      let here : position_in order p ≡ at = one_less (q == p) (position_in order p) at (heads _ _ _ _ e) in
      let next : suc at + 1 ≡ suc (at + 1) = omega arith in
      let later = behind_first q order places (at + 1) pairs (tails _ _ _ _ e ∙ ap (λ n. map (λ x. x.0) (enumerate_from n pairs)) next) in
      ap (λ n. n ∷ map (position_in order) places) here ∙ ap (λ ns. at ∷ ns) later

  -- where the places have all positions of the pairs, the order begins with them
  begins_with : (order places : List ℕ) (pairs : List (K × V)) (ws : List (Option V)) → AreDistinct places
      → ((p : ℕ) → IsIn p places → IsIn p order)
      → map (position_in order) places ≡ all_positions pairs → pairs_ended pairs order ws ≡ pairs_ended pairs places ws
  begins_with order places [] ws distinct listed e = refl
  begins_with order [] (x ∷ pairs) ws distinct listed e = absurd (let bad = e in cc)
  begins_with [] (p ∷ places) (x ∷ pairs) ws distinct listed e = absurd (listed p (inl refl))
  begins_with (q ∷ order) (p ∷ places) (x ∷ pairs) ws distinct listed e =
      let here : q ≡ p = at_front q order p (heads _ _ _ _ e) in
      let among : (r : ℕ) → IsIn r places → IsIn r order = λ r i. elim (listed r (inr i)) as (λ _. IsIn r order) [
        | inl same ↦ absurd (distinct.0 (subst (λ t. IsIn t places) (same ∙ here) i))
        | inr later ↦ later
      ] in
      let rest = begins_with order places pairs ws distinct.1 among (behind_first q order places 0 pairs (tails _ _ _ _ e)) in
      ap (λ r. (x.0, unwrap_or (get_or ws r None) x.1) ∷ pairs_ended pairs order ws) here
      ∙ ap (λ ps. (x.0, unwrap_or (get_or ws p None) x.1) ∷ ps) rest

  -- pairs whose items stayed are as they were
  as_they_were : (items ws : List (Option V)) (places : List ℕ) (pairs : List (K × V))
      → ((p : ℕ) → IsIn p places → IsSome (get_or items p None))
      → ((p : ℕ) → IsIn p places → get_or ws p None ≡ get_or items p None) → filter_map (λ p. get_or items p None) places ≡ all_values pairs
      → pairs_ended pairs places ws ≡ pairs
  as_they_were items ws places [] filled same e = refl
  as_they_were items ws [] (x ∷ pairs) filled same e = refl
  as_they_were items ws (p ∷ places) (x ∷ pairs) filled same e =
      let h = held (get_or items p None) (filled p (inl refl)) in
      let shown : h.value ∷ filter_map (λ q. get_or items q None) places ≡ x.1 ∷ all_values pairs = sym
      (ap (λ o. cons_option o (filter_map (λ q. get_or items q None) places)) h.is) ∙ e in
      let here : unwrap_or (get_or ws p None) x.1 ≡ x.1 = ap (λ o. unwrap_or o x.1) (same p (inl refl) ∙ h.is) ∙ heads _ _ _ _ shown in
      ap (λ v. (x.0, v) ∷ pairs_ended pairs places ws) here
      ∙ ap (λ ps. x ∷ ps) (as_they_were items ws places pairs (λ q i. filled q (inr i)) (λ q i. same q (inr i)) (tails _ _ _ _ shown))

  first_changes : (items : List (Option V)) (p : ℕ) (places : List ℕ) (pairs : List (K × V)) (w : V) → IfSome (first_of places) (λ q. q ≡ p)
      → AreDistinct places
      → ((q : ℕ) → IsIn q places → IsSome (get_or items q None)) → filter_map (λ q. get_or items q None) places ≡ all_values pairs
      → pairs_ended pairs places (set items p (Some w)) ≡ with_value_at pairs 0 w
  first_changes items p places [] w first distinct filled e = refl
  first_changes items p [] (x ∷ pairs) w first distinct filled e = absurd (let bad = e in cc)
  first_changes items p (q ∷ places) (x ∷ pairs) w first distinct filled e =
      let ws : List (Option V) = set items p (Some w) in
      let h = held (get_or items q None) (filled q (inl refl)) in
      let shown : h.value ∷ filter_map (λ r. get_or items r None) places ≡ x.1 ∷ all_values pairs = sym
      (ap (λ o. cons_option o (filter_map (λ r. get_or items r None) places)) h.is) ∙ e in
      let within : p < length items = IsSome-within items p (subst (λ r. IsSome (get_or items r None)) first (filled q (inl refl))) in
      let here : get_or ws q None ≡ Some w = ap (λ r. get_or ws r None) first ∙ get_or-set_same items p (Some w) None within in
      let others : (r : ℕ) → IsIn r places → get_or ws r None ≡ get_or items r None
      = λ r i. get_or-set_other items p r (Some w) None (λ same. distinct.0 (subst (λ t. IsIn t places) (same ∙ sym first) i)) in
      ap (λ o. (x.0, unwrap_or o x.1) ∷ pairs_ended pairs places ws) here
      ∙ ap (λ ps. (x.0, w) ∷ ps) (as_they_were items ws places pairs (λ r i. filled r (inr i)) others (tails _ _ _ _ shown))

  -- the places that are left show all pairs, and the first of them has another item
  pub first_written : (order : List ℕ) (items : List (Option V)) (left : ChainEnds) (pairs : List (K × V)) (w : V) → AreLeft order left
      → AreDistinct (places_left order left)
      → ((q : ℕ) → IsIn q order → IsSome (get_or items q None)) → map (position_in order) (places_left order left) ≡ all_positions pairs
      → filter_map (λ q. get_or items q None) (places_left order left) ≡ all_values pairs
      → pairs_ended pairs order (set items left.first (Some w)) ≡ with_value_at pairs 0 w
  first_written order items left pairs w are_left distinct filled positions values =
      let places : List ℕ = places_left order left in
      let is : places ≡ are_left.places = path-is (λ place. IsIn place order) (next_of order)
      (previous_of order) left.first left.last left.length are_left in
      let first : IfSome (first_of places) (λ q. q ≡ left.first) = subst (λ ps. IfSome (first_of ps) (λ q. q ≡ left.first))
      (sym is) are_left.first in
      let listed : (q : ℕ) → IsIn q places → IsIn q order = λ q i. are_left.there q (subst (IsIn q) is i) in
      begins_with order places pairs (set items left.first (Some w)) distinct listed positions
      ∙ first_changes items left.first places pairs w first distinct (λ q i. filled q (listed q i)) values

  -- what a walk over all values shows of the first pair
  pub some_left : (pairs : List (K × V)) → 0 < length pairs → 0 < length (all_values pairs)
  some_left [] more = more
  some_left (x ∷ pairs) more = omega arith

  pub front_value : (pairs : List (K × V)) (v : V) (vs : List V) → all_values pairs ≡ v ∷ vs
      → option_map (λ p. p.1) (end_item Front pairs) ≡ Some v
  front_value [] v vs e = absurd (let bad = e in cc)
  front_value (x ∷ pairs) v vs e = ap Some (heads x.1 v (all_values pairs) vs e)

  module _ {S A : Type 0} (m : Multimap K V S) (s : ValuesWalk K V A) (lent : LendsSlots m.slots.values s.values) where
    -- the pairs with another item in the slot of the first value
    pub first_alone : (w : V) → values_mut_rest s ≡ all_values m.lists.pairs → values_mut_positions s ≡ all_positions m.lists.pairs
        → pairs_ended m.lists.pairs m.slots.values.order (set m.slots.values.items s.left.first (Some w)) ≡ with_value_at m.lists.pairs 0 w
    first_alone w values positions =
        let slots = lent_slots s.values in let can = read_lends s.values s.left s.readable in
        sym (ap (λ (h : Slots V ValueLink). pairs_ended m.lists.pairs h.order (set h.items s.left.first (Some w))) lent.slots)
        ∙ first_written slots.order slots.items s.left m.lists.pairs w can.are_left can.untaken.distinct can.sound.filled positions values

    -- the place of an item that is lent is one of the slots
    pub place_within : (p : ℕ) (v : V) → item_at (lent_slots s.values) p ≡ Some v → p < length m.slots.values.items
    place_within p v is = IsSome-within m.slots.values.items p
        (subst IsSome (sym (sym (ap (λ (h : Slots V ValueLink). item_at h p) lent.slots) ∙ is)) refl)

module _ {M : Type 1} {𝓤 : Ura M} (𝓛 : Logic 𝓤) (V : RattleType) where
  all_stay : (γs : List GName) (ys : List (Option V.Denot)) → length γs ≡ length ys
      → ent 𝓤 (emp 𝓤) (sem 𝓛 (become V γs ys (replicate (length ys) true) ys))
  all_stay [] [] e = qed 𝓛 [] ∵ nothing ! $ done !
  all_stay [] (y ∷ ys) e = absurd (omega (arith, e))
  all_stay (γ ∷ γs) [] e = absurd (omega (arith, e))
  all_stay (γ ∷ γs) (y ∷ ys) e =
      qed 𝓛 [] ∵ use0 𝓛 (‵ (become V γs ys (replicate (length ys) true) ys)) (all_stay γs ys (omega (arith, e))) $
      feq_i ! (Option V.Denot) y y refl $ fjoin ! $ done !

  -- one slot alone was taken, and its reference ended with w
  pub one_becomes : (γs : List GName) (ys : List (Option V.Denot)) (p : ℕ) (γ : GName) (w : V.Denot) → length γs ≡ length ys → p < length ys
      → ent 𝓤 (sem 𝓛 (fres γ (V.coded.code w))) (sem 𝓛
      (become V (set γs p γ) ys (set (replicate (length ys) true) p false) (set ys p (Some w))))
  one_becomes [] [] p γ w e lt = absurd (omega (arith, lt))
  one_becomes [] (y ∷ ys) p γ w e lt = absurd (omega (arith, e))
  one_becomes (δ ∷ γs) [] p γ w e lt = absurd (omega (arith, e))
  one_becomes (δ ∷ γs) (y ∷ ys) zero γ w e lt =
      qed 𝓛 (‵ (fres γ (V.coded.code w)) ∷ []) ∵ use0 𝓛 (‵ (become V γs ys (replicate (length ys) true) ys))
      (all_stay γs ys (omega (arith, e))) $ move ! (1 ∷ 0 ∷ []) $ fjoin ! $ done !
  one_becomes (δ ∷ γs) (y ∷ ys) (suc p) γ w e lt =
      qed 𝓛 (‵ (fres γ (V.coded.code w)) ∷ []) ∵
      use1 𝓛 (‵ (become V (set γs p γ) ys (set (replicate (length ys) true) p false) (set ys p (Some w))))
      (one_becomes γs ys p γ w (omega (arith, e)) (omega (arith, lt))) $
      feq_i ! (Option V.Denot) y y refl $ fjoin ! $ done !

  -- one slot alone was taken since all of them were lent, and its reference ended with w
  pub taken_becomes : {L A F : Type 0} (m : Slots V.Denot L) (s t : SlotCells V.Denot L A F) (p : ℕ) (r : MutBor V.Denot) (w : V.Denot)
      → LendsSlots m s → TakesItem s p r t → p < length m.items
      → ent 𝓤 (sem 𝓛 (fres r.ghost_name (V.coded.code w)))
      (sem 𝓛 (become V t.cells.names t.cells.items t.cells.left (set m.items p (Some w))))
  taken_becomes m s t p r w lent takes there =
      let c = t.cells in let ys : List (Option V.Denot) = m.items in
      let items_are : c.items ≡ ys = ap (λ (h : Slots _ _). h.items) takes.slots ∙ ap (λ (h : Slots _ _). h.items) lent.slots in
      let left_are : c.left ≡ set (replicate (length ys) true) p false = takes.left
      ∙ ap (λ (ls : List Bool). set ls p false) lent.untaken in
      let Becomes : List GName × (List (Option V.Denot) × List Bool) → Type 1 = λ h.
      ent 𝓤 (sem 𝓛 (fres r.ghost_name (V.coded.code w))) (sem 𝓛 (become V h.0 h.1.0 h.1.1 (set ys p (Some w)))) in
      subst Becomes (sym (λ j. (takes.ends j, (items_are j, left_are j)))) (one_becomes s.cells.names ys p r.ghost_name w lent.named there)

-- the law of the walks, of one map and one walk over it
module _ {M : Type 1} {𝓤 : Ura M} (𝓛 : Logic 𝓤) (K V S A H : RattleType) (key : HashMembers K.Denot)
    (build : builder.Ghosts S.Denot H.Denot) (hash : hasher.Ghosts H.Denot) (heap : alloc.Ghosts A.Denot) where
  abbrev R : RattleType
  R = map_row K V S A H key build hash heap

  abbrev Follows : Multimap K.Denot V.Denot S.Denot → GName → Cells V.Denot → Fml
  Follows m γ c = fwand (follows R R γ c.lender_loan (with_values_of m)) (fwand (ends_with V c) (ends_exactly K V S m γ c))

  abbrev OfAround : Multimap K.Denot V.Denot S.Denot → GName → ValueCells V.Denot A.Denot → Cells V.Denot → Fml
  OfAround m γ made c = fall (c.lender_context ≡ made.cells.lender_context) (λ _. Follows m γ c)

  abbrev OfCells : Multimap K.Denot V.Denot S.Denot → GName → ValueCells V.Denot A.Denot → Cells V.Denot → Fml
  OfCells m γ made c = fall (EndsMap K V S m made) (λ _. OfAround m γ made c)

  abbrev OfMade : Multimap K.Denot V.Denot S.Denot → GName → ValueCells V.Denot A.Denot → Fml
  OfMade m γ made = fall (Cells V.Denot) (OfCells m γ made)

  abbrev OfName : Multimap K.Denot V.Denot S.Denot → GName → Fml
  OfName m γ = fall (ValueCells V.Denot A.Denot) (OfMade m γ)

  abbrev OfMap : Multimap K.Denot V.Denot S.Denot → Fml
  OfMap m = fall GName (OfName m)

  pub law_at : (m : Multimap K.Denot V.Denot S.Denot) (γ : GName) (made : ValueCells V.Denot A.Denot) (c : Cells V.Denot)
      → EndsMap K V S m made → c.lender_context ≡ made.cells.lender_context
      → ent 𝓤 (sem 𝓛 (WalksAreExact K V S A H key build hash heap)) (sem 𝓛 (Follows m γ c))
  law_at m γ made c ends same =
      via 𝓤 (sem 𝓛 (OfMap m)) (all_e 𝓤 (λ n. sem 𝓛 (OfMap n)) m) (via 𝓤 (sem 𝓛 (OfName m γ)) (all_e 𝓤 (λ δ. sem 𝓛 (OfName m δ)) γ)
      (via 𝓤 (sem 𝓛 (OfMade m γ made)) (all_e 𝓤 (λ h. sem 𝓛 (OfMade m γ h)) made)
      (via 𝓤 (sem 𝓛 (OfCells m γ made c)) (all_e 𝓤 (λ d. sem 𝓛 (OfCells m γ made d)) c)
      (via 𝓤 (sem 𝓛 (OfAround m γ made c)) (all_e 𝓤 (λ _. sem 𝓛 (OfAround m γ made c)) ends) (all_e 𝓤 (λ _. sem 𝓛 (Follows m γ c)) same)))))

module _ {M : Type 1} {𝓤 : Ura M} (𝓛 : Logic 𝓤) (K V S A : RattleType) where
  open 𝓛 use {A as B}

  -- what the map ends as, by what the reference to its first value ends with
  pub ends_first : (m : MutBor (Multimap K.Denot V.Denot S.Denot)) (s t : ValuesWalk K.Denot V.Denot A.Denot) (r : MutBor V.Denot)
      → EndsMap K V S m.now s.values
      → values_mut_rest s ≡ all_values m.now.lists.pairs → values_mut_positions s ≡ all_positions m.now.lists.pairs
      → LendsFirstValue s (Some r) t
      → ent 𝓤 (sem 𝓛 (ends_exactly K V S m.now m.ghost_name t.values.cells)) (sem 𝓛 (ends_first_written K V S m r))
  ends_first m s t r ended values positions lends =
      let lent = ended.lent in let place = s.left.first in let c = t.values.cells in
      let items : List (Option V.Denot) = m.now.slots.values.items in
      qed 𝓛 (‵ (ends_exactly K V S m.now m.ghost_name c) ∷ []) ∵
      each ! (λ (w : V.Denot). wand 𝓤 (B.res r.ghost_name (V.coded.code w))
      (sem 𝓛 (ends_with_lists K V S m.ghost_name (end_written Front m.now.lists w)))) (λ w.
      let ws : List (Option V.Denot) = set items place (Some w) in let Two : Type 0 = Lists K.Denot V.Denot in
      let wanted : Two = end_written Front m.now.lists w in
      let pairs_are : (ended_map m.now ws).lists ≡ wanted = ap (λ ps. lists m.now.lists.keys ps)
      (first_alone m.now s lent w values positions) in
      assume ! (‵ (fres r.ghost_name (V.coded.code w))) $
      use1 𝓛 (‵ (become V c.names c.items c.left ws))
      (taken_becomes 𝓛 V m.now.slots.values s.values t.values place r w lent lends.taken
      (place_within m.now s lent place r.now lends.taken.item_is)) $ move ! (1 ∷ []) $
      use1 𝓛 (raw (wand 𝓤 (sem 𝓛 (become V c.names c.items c.left ws))
      (B.res m.ghost_name ((multimap_code K.coded V.coded S.coded).code (ended_map m.now ws)))))
      (all_e 𝓤 (λ (vs : List (Option V.Denot)). wand 𝓤 (sem 𝓛 (become V c.names c.items c.left vs))
      (B.res m.ghost_name ((multimap_code K.coded V.coded S.coded).code (ended_map m.now vs)))) ws) $
      move ! (1 ∷ 0 ∷ []) $ use2 𝓛 (‵ (fres m.ghost_name ((multimap_code K.coded V.coded S.coded).code (ended_map m.now ws))))
      (apply∗ 𝓤 (sem 𝓛 (become V c.names c.items c.left ws))
      (B.res m.ghost_name ((multimap_code K.coded V.coded S.coded).code (ended_map m.now ws)))) $
      feq_i ! Two (ended_map m.now ws).lists wanted pairs_are $ fjoin ! $
      fpack ! (Multimap K.Denot V.Denot S.Denot) (λ n. fsep (feq Two n.lists wanted)
      (fres m.ghost_name ((multimap_code K.coded V.coded S.coded).code n))) (ended_map m.now ws) $ done !)
