-- Items that come one after another to a list, each to a new place that is noted for its old one.
use Rattle.std.proofs.Common.{◌≡◌, ◌≢◌, ℕ, ◌<◌, List, [], ◌∷◌, ◌++◌, map, length, get_or, set, Option, Some, refl, sym, ap, ◌∙◌, subst, inl}
use Rattle.std.proofs.Common.{inr}
use Rattle.std.proofs.lemmas.List.{get_or-set_same, get_or-set_other, length-map, map-append}
use Rattle.multimap_slots.specs.Lists.{IsIn}
use Rattle.multimap_slots.specs.Slots.{Slots, IsEmpty, PushesBack, item_at, link_at}
use Rattle.multimap_slots.proofs.Callers.PlaceLists.{IsIn-append}
use Rattle.ordered_multimap.specs.Private.KeyRelocations.{HaveNewPlaces, new_place_in}
use Rattle.ordered_multimap.proofs.Agreement.LookUps.{map-agree}
use Rattle.ordered_multimap.proofs.Agreement.Relocated.{IsIn-map, IsIn-name}
use Rattle.ordered_multimap.proofs.Append.Steps.{old_other}

-- the old place of what stands at a place
pub record CameFrom {T L : Type 0} (Stands : ℕ → Option T → Option L → Type 0) (name : ℕ → ℕ) (places : List ℕ) (after : Slots T L)
    (place : ℕ) : Type 0 where
  pub old : ℕ
  pub old_listed : IsIn old places
  pub place_is : place ≡ name old
  pub stands : Stands old (item_at after place) (link_at after place)

module _ {T L : Type 0} {Stands : ℕ → Option T → Option L → Type 0} where
  pub came_from : {name : ℕ → ℕ} {places : List ℕ} {after : Slots T L} → HaveNewPlaces Stands name places after → (place : ℕ)
      → IsIn place after.order → CameFrom Stands name places after place
  came_from {name} {places} {after} have place listed =
      let n = IsIn-map name place places (subst (IsIn place) have.order listed) in
      record {
        old = n.place;
        old_listed = n.member;
        place_is = n.is;
        stands = subst (λ p. Stands n.place (item_at after p) (link_at after p)) (sym n.is) (have.slots n.place n.member);
      }

  pub places-start : (name : ℕ → ℕ) (after : Slots T L) → IsEmpty after → HaveNewPlaces Stands name [] after
  places-start name after none = record { apart = λ p q i. absurd i; order = none.order; slots = λ q i. absurd i }

  pub places-length : {name : ℕ → ℕ} {places : List ℕ} {before : Slots T L} → HaveNewPlaces Stands name places before
      → length before.order ≡ length places
  places-length {name} {places} have = ap length have.order ∙ length-map places name

  module _ {name name_after : ℕ → ℕ} {places : List ℕ} {place to : ℕ} {before after : Slots T L} {item : T} {link : L}
      (have : HaveNewPlaces Stands name places before) (pushed : PushesBack before after to item link)
      (stands : Stands place (Some item) (Some link)) (old_name : (q : ℕ) → IsIn q places → name_after q ≡ name q)
      (new_name : name_after place ≡ to) where
    -- no old name is the new one
    taken : (q : ℕ) → IsIn q places → name_after q ≢ to
    taken q i same = old_other pushed (name q) (subst (IsIn (name q)) (sym have.order) (IsIn-name name q places i))
        (sym (old_name q i) ∙ same)

    cases : {P : ℕ → Type 0} → ((q : ℕ) → IsIn q places → P q) → P place → (q : ℕ) → IsIn q (places ++ place ∷ []) → P q
    cases {P} before here q i = elim (IsIn-append q places (place ∷ []) i) [
      | inl old ↦ before q old
      | inr last ↦ elim last [ inl same ↦ subst P (sym same) here | inr none ↦ absurd none ]
    ]

    pub places-step : HaveNewPlaces Stands name_after (places ++ place ∷ []) after
    places-step = record {
      apart = λ p q i j.
          cases {P = λ x. name_after x ≡ name_after q → x ≡ q}
          (λ x old. cases {P = λ y. name_after x ≡ name_after y → x ≡ y}
          (λ y too e. have.apart x y old too (sym (old_name x old) ∙ e ∙ old_name y too))
          (λ e. absurd (taken x old (e ∙ new_name))) q j)
          (cases {P = λ y. name_after place ≡ name_after y → place ≡ y}
          (λ y old e. absurd (taken y old (sym e ∙ new_name)))
          (λ e. refl) q j) p i;
      order =
          pushed.order ∙ ap (λ ps. ps ++ to ∷ []) (have.order ∙ sym (map-agree name_after name places old_name))
          ∙ ap (λ p. map name_after places ++ p ∷ []) (sym new_name)
          ∙ sym (map-append name_after places (place ∷ []));
      slots = cases {P = λ q. Stands q (item_at after (name_after q)) (link_at after (name_after q))}
          (λ q old.
          let items = pushed.others.items (name_after q) (taken q old) ∙ ap (item_at before) (old_name q old) in
          let links = pushed.others.links (name_after q) (taken q old) ∙ ap (link_at before) (old_name q old) in
          subst (λ o. Stands q o (link_at after (name_after q))) (sym items)
          (subst (Stands q (item_at before (name q))) (sym links) (have.slots q old)))
          (subst (λ o. Stands place o (link_at after (name_after place)))
          (sym (ap (item_at after) new_name ∙ pushed.item_is))
          (subst (Stands place (Some item)) (sym (ap (link_at after) new_name ∙ pushed.link_is)) stands));
    }

  -- the new place is noted in a list
  pub noted-step : (new_places : List ℕ) {new_places_after places : List ℕ} {place to : ℕ} {before after : Slots T L} {item : T} {link : L}
      → HaveNewPlaces Stands (new_place_in new_places) places before → PushesBack before after to item link
      → Stands place (Some item) (Some link)
      → new_places_after ≡ set new_places place to → (IsIn place places → ⊥) → place < length new_places
      → HaveNewPlaces Stands (new_place_in new_places_after) (places ++ place ∷ []) after
  noted-step new_places {places = places} {place} {to} have pushed stands new_places_are new within =
      places-step have pushed stands
      (λ q i. ap (λ ns. get_or ns q 0) new_places_are
      ∙ get_or-set_other new_places place q to 0 (λ same. new (subst (λ p. IsIn p places) same i)))
      (ap (λ ns. get_or ns place 0) new_places_are ∙ get_or-set_same new_places place to 0 within)
