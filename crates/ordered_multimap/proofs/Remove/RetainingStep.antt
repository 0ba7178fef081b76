-- One step of a pass over the pairs: the pair at the place is asked for, and stays or leaves.
use Rattle.std.proofs.Common.{◌≡◌, ◌<◌, ◌≤◌, ◌+◌, ◌-◌, ℕ, Bool, true, false, length, Option, Some, sym, ap, ◌∙◌, subst, arith, refl}
use Rattle.std.specs.Cmp.{IsEquivalence}
use Rattle.std.specs.Ordering.{nat_cmp}
use Rattle.std.specs.FinMap.{FinMap, get}
use Rattle.multimap_slots.specs.Lists.{next_of}
use Rattle.multimap_slots.specs.Slots.{Slots, item_at, link_at, with_item}
use Rattle.multimap_slots.specs.Tapes.{Taped, with_list}
use Rattle.multimap_table.specs.Table.{Table}
use Rattle.multimap_walks.specs.declared.links.KeyLink.{KeyLink}
use Rattle.multimap_walks.specs.declared.links.ValueLink.{ValueLink}
use Rattle.ordered_multimap.specs.Agrees.{Agrees}
use Rattle.ordered_multimap.specs.Private.RemoveOne.{HasKeyLink, HasPair, TakesPair}
use Rattle.ordered_multimap.specs.Private.Retain.{Asks, RetainsAt, StaysIf}
use Rattle.ordered_multimap.specs.TapeNumbers.{TakesOut, numbers_of}
use Rattle.ordered_multimap.proofs.Agreement.Agreed.{pair_at-is}
use Rattle.ordered_multimap.proofs.Callers.Places.{places_from}
use Rattle.ordered_multimap.proofs.Callers.Writes.{IsChained-with_item, IsSound-with_item}
use Rattle.ordered_multimap.proofs.Remove.OnePair.{leaves_at}
use Rattle.ordered_multimap.proofs.Remove.Retaining.{IsRetaining, Continues, Turned, continues, turned_stays, turned_leaves}
use Rattle.ordered_multimap.proofs.Remove.Retaining.{listed_place, one_fewer, places_from-rest}

-- a call on the key that the link of a value names, and on the value, is one on their pair
module _ {F K V : Type 0} (calls : F → K → V → Bool → V → F → Type 0) {keys : Slots K KeyLink} {values asked : Taped V ValueLink}
    {place : ℕ} {f g : F} {b : Bool} {link : ValueLink} {key : K} {was left : V} where
  pub asks_by_link : link_at values.list place ≡ Some link → item_at keys link.key ≡ Some key → item_at values.list place ≡ Some was
      → calls f key was b left g → asked ≡ with_list values (with_item values.list place left)
      → Asks calls keys values asked place f b g
  asks_by_link link_is key_is was_is called written = record {
    key = key;
    was = was;
    left = left;
    pair = pair_at-is keys values.list place link key was link_is key_is was_is;
    called = called;
    written = written;
  }

-- a pair that was only written stays
pub stays_written : {F K V : Type 0} {calls : F → K → V → Bool → V → F → Type 0} {keys : Slots K KeyLink} {table : Table}
    {values asked : Taped V ValueLink} {place : ℕ} {f g : F}
    → Asks calls keys values asked place f true g → RetainsAt calls keys keys table table values asked place f g
stays_written {asked = asked} asks = record {
  answer = true;
  asked = asked;
  asks = asks;
  rest = record { keys_are = refl; table_is = refl; values_are = refl };
}

-- each pair that leaves the list is counted
pub record CountsLeft {V : Type 0} (values values_after : Taped V ValueLink) : Type 0 where
  pub moved : values_after.moved ≡ values.moved
  pub freed : values_after.freed + length values_after.list.order ≡ values.freed + length values.list.order
  pub holes : values_after.holes + length values_after.list.order ≡ values.holes + length values.list.order
  pub fewer : length values_after.list.order ≤ length values.list.order

pub none_left : {V : Type 0} {values : Taped V ValueLink} → CountsLeft values values
none_left = record { moved = refl; freed = refl; holes = refl; fewer = omega arith }

pub more_left : {V : Type 0} {old now new : Taped V ValueLink} → CountsLeft old now → CountsLeft now new → CountsLeft old new
more_left was is = record {
  moved = is.moved ∙ was.moved;
  freed = is.freed ∙ was.freed;
  holes = is.holes ∙ was.holes;
  fewer = omega (arith, is.fewer, was.fewer);
}

pub all_counted : {V : Type 0} {old new : Taped V ValueLink} → CountsLeft old new
    → TakesOut (length old.list.order - length new.list.order) (numbers_of old) (numbers_of new)
all_counted left = record { freed = omega (arith, left.freed, left.fewer); paid = omega (arith, left.moved, left.holes, left.fewer) }

-- the link of the key of a pair that was asked for, and the key's row, once its value is written
module _ {F K V : Type 0} {calls : F → K → V → Bool → V → F → Type 0} {keys : Slots K KeyLink} {rows : FinMap nat_cmp ℕ}
    {values asked_values : Taped V ValueLink} {place : ℕ} {f g : F} {b : Bool} {key_link : KeyLink}
    (s : HasPair keys rows values.list place)
    (asked : Asks calls keys values asked_values place f b g)
    (key_is : (l : ValueLink) → link_at values.list place ≡ Some l → link_at keys l.key ≡ Some key_link) where
  pub asked_key_link : HasKeyLink keys asked_values.list place key_link
  asked_key_link = subst (λ vs. HasKeyLink keys vs place key_link) (sym (ap (λ t. t.list) asked.written)) (record {
    listed = s.listed;
    key_link_is = key_is;
    sound = IsSound-with_item s.sound place s.listed asked.left;
    chained = IsChained-with_item s.chained place asked.left;
  })

  pub asked_row : (l : ValueLink) → link_at asked_values.list place ≡ Some l → get rows l.key ≡ Some key_link.hash
  asked_row = subst (λ vs. (l : ValueLink) → link_at vs place ≡ Some l → get rows l.key ≡ Some key_link.hash)
      (sym (ap (λ t. t.list) asked.written)) (λ l is. s.row l key_link is (key_is l is))

module _ {F K V : Type 0} {eq : K → K → Bool} {calls : F → K → V → Bool → V → F → Type 0} {accepts : F → K → V → Type 0}
    {old_keys : Slots K KeyLink} {old_rows : FinMap nat_cmp ℕ} {old_values : Slots V ValueLink} {first : F}
    (laws : IsEquivalence eq) {hash : K → ℕ} (old_agrees : Agrees eq hash old_keys old_rows old_values)
    {keys keys_after : Slots K KeyLink} {table table_after : Table} {values values_after : Taped V ValueLink} {f g : F} {place : ℕ}
    (r : IsRetaining calls eq accepts old_keys keys old_rows table.rows old_values values.list first f (Some place))
    (at : RetainsAt calls keys keys_after table table_after values values_after place f g) where
  asked_list : at.asked.list ≡ with_item values.list place at.asks.left
  asked_list = ap (λ (t : Taped V ValueLink). t.list) at.asks.written

  turns : (b : Bool) → StaysIf keys keys_after table table_after at.asked values_after place b
      → Turned laws old_agrees r b at.asks.left at.asks.key keys_after table_after.rows values_after.list
  turns true stays =
      let lists : with_item values.list place at.asks.left ≡ values_after.list =
      sym (ap (λ (t : Taped V ValueLink). t.list) stays.values_are ∙ asked_list) in
      subst (λ ks. Turned laws old_agrees r true at.asks.left at.asks.key ks table_after.rows values_after.list) (sym stays.keys_are)
      (subst (λ (t : Table). Turned laws old_agrees r true at.asks.left at.asks.key keys t.rows values_after.list) (sym stays.table_is)
      (subst (λ vs. Turned laws old_agrees r true at.asks.left at.asks.key keys table.rows vs) lists
      (turned_stays laws old_agrees r at.asks.key at.asks.was at.asks.left at.asks.pair)))
  turns false leaves =
      turned_leaves laws old_agrees r at.asks.key at.asks.was at.asks.left at.asks.pair (λ h a.
      leaves_at laws a place (listed_place laws old_agrees r) leaves.0
      (subst (λ vs. TakesPair keys keys_after table.rows table_after.rows vs values_after.list place leaves.0) asked_list leaves.1.takes))

  pub retaining-step : (next : Option ℕ) → next ≡ next_of values.list.order place
      → Continues r keys_after table_after.rows values_after.list g next
  retaining-step next is = continues laws old_agrees r at.asks.pair at.asks.called (turns at.answer at.rest) next is

  pub retaining-smaller : (next : Option ℕ) → next ≡ next_of values.list.order place
      → places_from values_after.list.order next < places_from values.list.order (Some place)
  retaining-smaller next is =
      let s = retaining-step next is in
      omega (
        arith,
        s.fewer,
        places_from-rest s.retaining (s.retaining.agrees hash old_agrees).values_sound.distinct,
        places_from-rest r (r.agrees hash old_agrees).values_sound.distinct,
      )

  -- what it makes of the numbers
  pub retaining-counts : CountsLeft values values_after
  retaining-counts = by at.answer at.rest
    where
      by : (b : Bool) → StaysIf keys keys_after table table_after at.asked values_after place b → CountsLeft values values_after
      by true stays =
          let same = stays.values_are ∙ at.asks.written in
          record {
            moved = ap (λ (t : Taped V ValueLink). t.moved) same;
            freed = ap (λ (t : Taped V ValueLink). t.freed + length t.list.order) same;
            holes = ap (λ (t : Taped V ValueLink). t.holes + length t.list.order) same;
            fewer = omega (arith, ap (λ (t : Taped V ValueLink). length t.list.order) same);
          }
      by false leaves =
          let one : length values_after.list.order + 1 ≡ length values.list.order = one_fewer laws old_agrees r (turns false leaves) in
          record {
            moved = leaves.1.frees.moved ∙ ap (λ (t : Taped V ValueLink). t.moved) at.asks.written;
            freed = omega (arith, one, leaves.1.frees.freed, ap (λ (t : Taped V ValueLink). t.freed) at.asks.written);
            holes = omega (arith, one, leaves.1.frees.holes, ap (λ (t : Taped V ValueLink). t.holes) at.asks.written);
            fewer = omega (arith, one);
          }
