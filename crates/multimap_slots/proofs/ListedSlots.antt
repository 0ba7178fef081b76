-- The list of places, items and links under each change of it.
use Rattle.std.proofs.Common.{◌≡◌, ◌≢◌, ℕ, List, [], ◌∷◌, ◌++◌}
use Rattle.std.proofs.Common.{get_or, slice_get, option_and_then, option_map, Option, Some, None, refl, sym, ap, subst, ◌∙◌, inl, inr}
use Rattle.std.proofs.lemmas.Bool.{cases_eq, eq-eqb, ne_eqb}
use Rattle.std.proofs.lemmas.List.Elements.{filter_map-append}
use Rattle.std.specs.List.{filter_map, cons_option}
use Rattle.multimap_slots.specs.ListedSlots.{Slot, listed_slots, slot_at, slots_without, ListsSlots}
use Rattle.multimap_slots.specs.Lists.{IsIn, without}
use Rattle.multimap_slots.specs.Slots.{Slots, item_at, link_at, KeepsOthers}

module _ {X Y : Type 0} (f g : X → Option Y) where
  -- functions that agree on a list
  filter_map-agree : (xs : List X) → ((x : X) → IsIn x xs → f x ≡ g x) → filter_map f xs ≡ filter_map g xs
  filter_map-agree [] same = refl
  filter_map-agree (x ∷ xs) same =
      ap (λ o. cons_option o (filter_map f xs)) (same x (inl refl))
      ∙ ap (cons_option (g x)) (filter_map-agree xs (λ y i. same y (inr i)))

module _ {T L : Type 0} where
  abbrev slot_of : ℕ → Option T → Option L → Option (Slot T L)
  slot_of p item link = option_and_then (λ x. option_map (λ l. (p, (x, l))) link) item

  -- a slot at the place is left out
  without-same : (p q : ℕ) (item : Option T) (link : Option L) (rest : List (Slot T L)) → q ≡ p
      → slots_without (cons_option (slot_of q item link) rest) p ≡ slots_without rest p
  without-same p q None link rest same = refl
  without-same p q (Some x) None rest same = refl
  without-same p q (Some x) (Some l) rest same = rw (eq-eqb q p same) refl

  -- and one at another place is not
  without-other : (p q : ℕ) (item : Option T) (link : Option L) (rest : List (Slot T L)) → q ≢ p
      → slots_without (cons_option (slot_of q item link) rest) p ≡ cons_option (slot_of q item link) (slots_without rest p)
  without-other p q None link rest differs = refl
  without-other p q (Some x) None rest differs = refl
  without-other p q (Some x) (Some l) rest differs = rw (ne_eqb q p differs) refl

  module _ (old new : Slots T L) (place : ℕ) (keeps : KeepsOthers old new place) where
    slot_at-other : (q : ℕ) → q ≢ place → slot_at new q ≡ slot_at old q
    slot_at-other q differs = ap (λ item. slot_of q item (link_at new q)) (keeps.items q differs)
        ∙ ap (slot_of q (item_at old q)) (keeps.links q differs)

    -- the slots of other places
    same_slots : (¬ IsIn place old.order) → filter_map (slot_at new) old.order ≡ listed_slots old
    same_slots absent = filter_map-agree (slot_at new) (slot_at old) old.order
        (λ q i. slot_at-other q (λ e. absent (subst (λ x. IsIn x old.order) e i)))

    left : (ps : List ℕ) → filter_map (slot_at new) (without ps place) ≡ slots_without (filter_map (slot_at old) ps) place
    left [] = refl
    left (p ∷ ps) =
        let rest = filter_map (slot_at old) ps in
        elim (cases_eq p place) [
          | inl same ↦ rw (eq-eqb p place same) (left ps)
              ∙ sym (without-same place p (item_at old p) (link_at old p) rest same)
          | inr differs ↦ rw (ne_eqb p place differs) (ap (λ o. cons_option o (filter_map (slot_at new) (without ps place)))
              (slot_at-other p differs) ∙ ap (cons_option (slot_at old p)) (left ps))
              ∙ sym (without-other place p (item_at old p) (link_at old p) rest differs)
        ]

  pub lists_slots : ListsSlots T L
  lists_slots = record {
    pushed = λ old new p x l c.
        ap (filter_map (slot_at new)) c.order
        ∙ filter_map-append (slot_at new) old.order (p ∷ [])
        ∙ ap (λ xs. xs ++ filter_map (slot_at new) (p ∷ [])) (same_slots old new p c.others c.was_absent)
        ∙ ap (λ o. listed_slots old ++ cons_option o []) (ap (λ i. slot_of p i (link_at new p)) c.item_is ∙ ap (slot_of p (Some x)) c.link_is);
    removed = λ old new p x c. ap (filter_map (slot_at new)) c.order ∙ left old new p c.others old.order;
    detached = λ old new p c.
        let keeps : KeepsOthers old new p = record {
          items = λ q differs. ap (λ items. get_or items q None) c.items;
          links = λ q differs. ap (λ links. slice_get links q) c.links;
        } in
        ap (filter_map (slot_at new)) c.order ∙ left old new p keeps old.order;
    taken = λ old new p x d c. ap (filter_map (slot_at new)) c.order ∙ same_slots old new p c.others d.not_listed;
  }
