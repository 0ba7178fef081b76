-- Copies at the places of the originals, where these are the places from 0 on.
use Rattle.std.proofs.Common.{◌≡◌, ℕ, suc, ◌+◌, ◌<◌, List, length, Option, Some, refl, sym, ap, ◌∙◌, subst, arith}
use Rattle.std.proofs.lemmas.Iterator.Adapters.{option_map_id}
use Rattle.multimap_slots.specs.Lists.{IsIn, places_below}
use Rattle.multimap_slots.specs.Slots.{Slots, HasNoHole, IsEmpty, PushesBack}
use Rattle.multimap_slots.proofs.Callers.DensePlaces.{in-below, length-below}
use Rattle.multimap_walks.specs.declared.links.ValueLink.{ValueLink}
use Rattle.ordered_multimap.specs.Private.KeyRelocations.{HaveNewPlaces, with_new_key}
use Rattle.ordered_multimap.specs.Private.Relocations.{relocated_value}
use Rattle.ordered_multimap.proofs.Agreement.NewPlaces.{places-length, places-step}

-- each place below the length is one of them
pub in_place-listed : (order : List ℕ) (place : ℕ) → order ≡ places_below (length order) → place < length order → IsIn place order
in_place-listed order place dense below = subst (IsIn place) (sym dense) (in-below (length order) place below)

-- the link with the names that it has
pub unmoved_value : (l : ValueLink) → with_new_key (λ p. p) (relocated_value (λ p. p) l) ≡ l
unmoved_value l = λ i. record l { previous = option_map_id l.previous i; next = option_map_id l.next i }

module _ {T L : Type 0} where
  pub no_hole-start : {slots : Slots T L} → IsEmpty slots → HasNoHole slots
  no_hole-start none = ap length none.items ∙ sym (ap length none.order)

  module _ {Stands : ℕ → Option T → Option L → Type 0} where
    -- so many copies were made
    pub in_place-length : {place : ℕ} {copies : Slots T L} → HaveNewPlaces Stands (λ p. p) (places_below place) copies
        → length copies.order ≡ place
    in_place-length {place} have = places-length have ∙ length-below place

    -- one more comes behind them
    pub in_place-step : {place to : ℕ} {before after : Slots T L} {item : T} {link : L}
        → HaveNewPlaces Stands (λ p. p) (places_below place) before → PushesBack before after to item link
        → Stands place (Some item) (Some link) → to ≡ length before.order
        → HaveNewPlaces Stands (λ p. p) (places_below (place + 1)) after
    in_place-step {place} {after = after} have pushed stands behind =
        subst (λ n. HaveNewPlaces Stands (λ p. p) (places_below n) after) one_more
        (places-step have pushed stands (λ q i. refl) (sym (in_place-length have) ∙ sym behind))
      where
        one_more : suc place ≡ place + 1
        one_more = omega arith

    pub in_place-end : {order : List ℕ} {place : ℕ} {copies : Slots T L} → HaveNewPlaces Stands (λ p. p) (places_below place) copies
        → order ≡ places_below (length order) → place ≡ length order → HaveNewPlaces Stands (λ p. p) order copies
    in_place-end {copies = copies} have dense all =
        subst (λ ps. HaveNewPlaces Stands (λ p. p) ps copies) (ap places_below all ∙ sym dense) have
