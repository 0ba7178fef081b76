-- What one step of a clone leaves of the copies: one more stands last.
use Rattle.std.proofs.Common.{◌≡◌, ℕ, ◌<◌, List, [], ◌∷◌, ◌++◌, length, Option, None, Some, refl, sym, ◌∙◌, subst, arith}
use Rattle.std.specs.Ordering.{nat_cmp}
use Rattle.std.specs.FinMap.{FinMap}
use Rattle.multimap_slots.specs.Lists.{AreDistinct, IsIn, first_of, next_of}
use Rattle.multimap_slots.specs.Slots.{Slots, IsEmpty}
use Rattle.multimap_walks.specs.declared.links.KeyLink.{KeyLink}
use Rattle.multimap_walks.specs.declared.links.ValueLink.{ValueLink}
use Rattle.ordered_multimap.specs.Private.Copies.{AreRanks, CopiesKey, CopiesValue, IsKeyCopy, IsValueCopy}
use Rattle.ordered_multimap.specs.Private.KeyRelocations.{HaveNewPlaces, new_place_in}
use Rattle.ordered_multimap.proofs.Agreement.NewPlaces.{noted-step, places-length, places-start, places-step}
use Rattle.ordered_multimap.proofs.Clone.Passing.{HasPassed, passing-end, passing-listed, passing-new, passing-position, passing-start}
use Rattle.ordered_multimap.proofs.Clone.Passing.{passing-fewer, passing-smaller, passing-step}
use Rattle.ordered_multimap.proofs.Callers.Places.{places_from}

-- the places that are passed were copied, and this one follows
pub record AreCopying {T L : Type 0} (Stands : ℕ → Option T → Option L → Type 0) (name : ℕ → ℕ) (order : List ℕ)
    (following : Option ℕ) (copies : Slots T L) : Type 0 where
  pub done : List ℕ
  pub passed : HasPassed order done following
  pub have : HaveNewPlaces Stands name done copies

module _ {T L : Type 0} {Stands : ℕ → Option T → Option L → Type 0} where
  pub copying-start : (name : ℕ → ℕ) (order : List ℕ) (following : Option ℕ) (copies : Slots T L) → following ≡ first_of order
      → IsEmpty copies → AreCopying Stands name order following copies
  copying-start name order following copies is none = record {
    done = [];
    passed = passing-start order following is;
    have = places-start name copies none;
  }

  pub copying-end : {name : ℕ → ℕ} {order : List ℕ} {following : Option ℕ} {copies : Slots T L}
      → AreCopying Stands name order following copies → following ≡ None → HaveNewPlaces Stands name order copies
  copying-end {name} {copies = copies} w none = subst (λ ps. HaveNewPlaces Stands name ps copies) (passing-end w.passed none) w.have

-- the place that follows is listed, fewer items were copied than are listed, and a step on leaves fewer
pub record FollowsNext {T L : Type 0} (order : List ℕ) (following : Option ℕ) (copies : Slots T L) (place : ℕ) : Type 0 where
  pub listed : IsIn place order
  pub fewer : length copies.order < length order
  pub smaller : (next : Option ℕ) → next ≡ next_of order place → places_from order next < places_from order following

pub follows_next : {T L : Type 0} {Stands : ℕ → Option T → Option L → Type 0} {name : ℕ → ℕ} {order : List ℕ} {following : Option ℕ}
    {copies : Slots T L} → AreDistinct order → AreCopying Stands name order following copies → (place : ℕ) → following ≡ Some place
    → FollowsNext order following copies place
follows_next distinct w place here = record {
  listed = passing-listed distinct w.passed place here;
  fewer = omega (arith, places-length w.have, passing-fewer distinct w.passed place here);
  smaller = passing-smaller distinct w.passed place here;
}

module _ {order : List ℕ} {following : Option ℕ} (distinct : AreDistinct order) (place : ℕ) (here : following ≡ Some place)
    (next : Option ℕ)
    (next_is : next ≡ next_of order place) where
  -- one more key, whose new place is noted
  pub keys-step : {K : Type 0} {is_clone : K → K → Type 0} {hash : K → ℕ} {rank : ℕ → ℕ} {keys copies copies_after : Slots K KeyLink}
      {rows rows_after : FinMap nat_cmp ℕ} {new_places new_places_after : List ℕ}
      → AreCopying (IsKeyCopy is_clone hash rank keys) (new_place_in new_places) order following copies
      → CopiesKey is_clone hash rank keys copies copies_after rows rows_after new_places new_places_after place → place < length new_places
      → AreCopying (IsKeyCopy is_clone hash rank keys) (new_place_in new_places_after) order next copies_after
  keys-step {new_places = new_places} w copied within = record {
    done = w.done ++ place ∷ [];
    passed = passing-step distinct w.passed place here next next_is;
    have = noted-step new_places w.have copied.adds.pushed copied.adds.stands copied.new_places_are (passing-new distinct w.passed place here) within;
  }

  -- one more value, at the place of its rank
  pub values-step : {V : Type 0} {is_clone : V → V → Type 0} {name rank : ℕ → ℕ} {values copies copies_after : Slots V ValueLink}
      {has_rank : ℕ → Type 0} {to : ℕ} → AreRanks order has_rank rank
      → AreCopying (IsValueCopy is_clone name rank values) rank order following copies
      → CopiesValue is_clone name rank values copies copies_after place to → to ≡ length copies.order
      → AreCopying (IsValueCopy is_clone name rank values) rank order next copies_after
  values-step {copies = copies} {to = to} are w copied behind = record {
    done = w.done ++ place ∷ [];
    passed = passing-step distinct w.passed place here next next_is;
    have = places-step w.have copied.pushed copied.stands (λ q i. refl)
        (are.each place (passing-listed distinct w.passed place here) ∙ passing-position distinct w.passed place here
        ∙ sym (places-length w.have) ∙ sym behind);
  }
