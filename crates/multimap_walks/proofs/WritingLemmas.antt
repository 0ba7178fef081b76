-- What is left to be taken, and what a step of a walk for writing leaves of it.
use Rattle.std.proofs.Common.{◌≡◌, ℕ, ◌+◌, ◌-◌, List, false, Option, Some, None, unwrap_or, refl, sym, ap, subst}
use Rattle.std.specs.Prelude.{IfSome}
use Rattle.std.specs.Borrow.{MutBor}
use Rattle.multimap_slots.specs.Lists.{IsIn, AreDistinct}
use Rattle.multimap_slots.specs.Slots.{Slots, HasLink, IsSound}
use Rattle.multimap_slots.specs.SlotCells.{lent_slots, IsLeft, TakesItem}
use Rattle.multimap_slots.specs.declared.cells_of.SlotCells.{SlotCells}
use Rattle.multimap_slots.proofs.Callers.TakenItems.{IsLeft-other}
use Rattle.multimap_walks.specs.declared.End.{End}
use Rattle.multimap_walks.specs.declared.links.ChainEnds.{ChainEnds}
use Rattle.multimap_walks.specs.declared.links.KeyLink.{KeyLink}
use Rattle.multimap_walks.specs.declared.links.ValueLink.{ValueLink}
use Rattle.multimap_walks.specs.Along.{all_places, places_left, neighbour_of, AreLeft}
use Rattle.multimap_walks.specs.Ends.{end_place, ends_after, step_from}
use Rattle.multimap_walks.specs.Walk.{with_end}
use Rattle.multimap_walks.specs.Lending.{AllAreLeft, AreUntaken, CanLend, HandsOutSlot, NoneIsTaken}
use Rattle.multimap_walks.specs.Chained.{IsChain, IsChained, Stands, next_place, places_along, previous_place}
use Rattle.multimap_walks.specs.RestWalk.{CanReadChain}
use Rattle.multimap_walks.proofs.Callers.Along.{all_left, left_all, left_after, takes_end}
use Rattle.multimap_walks.proofs.Callers.Chains.{along_whole, chain_distinct, chain_listed, chain_whole}
use Rattle.multimap_walks.proofs.Callers.Ends.{AreDistinct-end, AreDistinct-rest, IsIn-end, IsIn-rest, end_taken, length_after, place_after}

each_some : {P : ℕ → Type 0} (o : Option ℕ) → ((x : ℕ) → o ≡ Some x → P x) → IfSome o P
each_some None each = tt
each_some (Some x) each = each x refl

module _ {T L A F : Type 0} where
  -- what is left with one more at an end
  module _ (cells : SlotCells T L A F) (places : List ℕ) (untaken : AreUntaken cells places)
      (end : End) (p : ℕ) (rest : List ℕ) (is : places ≡ with_end end p rest) where
    pub left_at_end : IsLeft cells p
    left_at_end = untaken.each p (subst (IsIn p) (sym is) (IsIn-end end p rest))

    -- where that one is passed over
    pub passed_over : AreUntaken cells rest
    passed_over = record {
      distinct = AreDistinct-rest end p rest (subst AreDistinct is untaken.distinct);
      each = λ q member. untaken.each q (subst (IsIn q) (sym is) (IsIn-rest end p q rest member));
    }

  -- all of the list are left at first
  pub all_untaken : (cells : SlotCells T L A F) → NoneIsTaken cells → CanLend cells (all_places (lent_slots cells).order)
  all_untaken cells none =
      let order = (lent_slots cells).order in
      let distinct = none.sound.distinct in
      record {
        sound = none.sound;
        are_left = all_left order distinct;
        untaken = subst (AreUntaken cells) (sym (left_all order distinct)) (record { distinct = distinct; each = none.left });
      }

  module _ (cells : SlotCells T L A F) (left : ChainEnds) (more : left.length ≡ left.length - 1 + 1) (can : CanLend cells left)
      (end : End) where
    abbrev order : List ℕ
    order = (lent_slots cells).order

    pub end_is_left : IsLeft cells (end_place end left)
    end_is_left =
        left_at_end cells (places_left order left) can.untaken end (end_place end left) _
        (takes_end order left more can.are_left end _ refl)

    -- where another place is left besides that at the end, the one that a step reaches is among the rest
    module _ (two : left.length - 1 ≡ left.length - 1 - 1 + 1) where
      reached : (x : ℕ) → x ≡ unwrap_or (neighbour_of order end (end_place end left)) (end_place end left)
          → IsIn x (places_left order (ends_after end left x))
      reached x told =
          let rest = ends_after end left x in
          let some : rest.length ≡ rest.length - 1 + 1 = subst (λ k. k ≡ k - 1 + 1) (sym (length_after end left x)) two in
          let takes = takes_end order rest some (left_after order left more can.are_left end x told) end _ refl in
          let first : IsIn (end_place end rest) (places_left order rest) =
          subst (IsIn (end_place end rest)) (sym takes) (IsIn-end end (end_place end rest) _) in
          subst (λ q. IsIn q (places_left order rest)) (place_after end left x) first

      -- so its item is left
      pub neighbour_is_left : IfSome (neighbour_of order end (end_place end left)) (IsLeft cells)
      neighbour_is_left =
          each_some (neighbour_of order end (end_place end left)) (λ x is.
          let told : x ≡ unwrap_or (neighbour_of order end (end_place end left)) (end_place end left) =
          ap (λ o. unwrap_or o (end_place end left)) (sym is) in
          let all = takes_end order left more can.are_left end x told in
          can.untaken.each x (subst (IsIn x) (sym all) (IsIn-rest end (end_place end left) x _ (reached x told))))

  module _ (old new : SlotCells T L A F) (place : ℕ) (item : MutBor T) (takes : TakesItem old place item new) where
    -- each other item is left as before
    pub untaken_on : (end : End) (places rest : List ℕ) → AreUntaken old places → places ≡ with_end end place rest → AreUntaken new rest
    untaken_on end places rest untaken is =
        let passed = passed_over old places untaken end place rest is in
        let gone = AreDistinct-end end place rest (subst AreDistinct is untaken.distinct) in
        record {
          distinct = passed.distinct;
          each = λ p member. IsLeft-other takes p (λ same. gone (subst (λ q. IsIn q rest) same member)) (passed.each p member);
        }

    -- so the walk goes on
    pub lends_on : (rest : ChainEnds) → IsSound (lent_slots old) → AreLeft (lent_slots old).order rest
        → AreUntaken new (places_left (lent_slots old).order rest) → CanLend new rest
    lends_on rest sound are_left untaken = record {
      sound = subst IsSound (sym takes.slots) sound;
      are_left = subst (λ s. AreLeft s.order rest) (sym takes.slots) are_left;
      untaken = subst (λ s. AreUntaken new (places_left s.order rest)) (sym takes.slots) untaken;
    }

-- the same of a walk along the links
module _ {V A F : Type 0} (cells : SlotCells V ValueLink A F) (left : ChainEnds) (more : left.length ≡ left.length - 1 + 1)
    (can : CanReadChain cells left) (end : End) where
  abbrev values : Slots V ValueLink
  values = lent_slots cells

  pub chain_end_left : IsLeft cells (end_place end left)
  chain_end_left =
      left_at_end cells (places_along values left.first left.length) can.untaken end (end_place end left) _
      (end_taken (Stands values false) (next_place values) (previous_place values) left more can.chain
      (unwrap_or (step_from end (next_place values) (previous_place values) (end_place end left)) (end_place end left)) end (λ _. refl))

-- so does a walk along the links, where another value is left
module _ {V A F : Type 0} (old new : SlotCells V ValueLink A F) (place : ℕ) (item : MutBor V) (takes : TakesItem old place item new) where
  pub reads_on : (rest : ChainEnds) → IsChain (lent_slots old) false rest.first rest.last rest.length
      → AreUntaken new (places_along (lent_slots old) rest.first rest.length)
      → CanReadChain new rest
  reads_on rest chain untaken = record {
    chain = subst (λ s. IsChain s false rest.first rest.last rest.length) (sym takes.slots) chain;
    untaken = subst (λ s. AreUntaken new (places_along s rest.first rest.length)) (sym takes.slots) untaken;
  }

-- all values of a key are left at first
pub chain_left : {K V A F : Type 0} (keys : Slots K KeyLink) (cells : SlotCells V ValueLink A F) (key : ℕ) (link : KeyLink)
    → IsSound (lent_slots cells) → IsChained keys (lent_slots cells) → HasLink keys key link → AllAreLeft cells
    → CanReadChain cells (record { first = link.head; last = link.tail; length = link.length })
chain_left keys cells key link sound chained has left =
    let values = lent_slots cells in
    record {
      chain = chain_whole keys values key link sound chained has;
      untaken = subst (AreUntaken cells) (sym (along_whole keys values key link sound chained has)) (record {
        distinct = chain_distinct keys values key link sound chained has;
        each = λ p member. left p (chain_listed keys values key link sound chained has p member);
      });
    }

-- a step changes neither what is listed nor the links
pub step_keeps : {T L A F : Type 0} (old : SlotCells T L A F) (place : ℕ) (given : Option (MutBor T × L)) (new : SlotCells T L A F)
    → HandsOutSlot old place given new → lent_slots new ≡ lent_slots old
step_keeps old place None new same = ap lent_slots same
step_keeps old place (Some slot) new hands = hands.0.slots
