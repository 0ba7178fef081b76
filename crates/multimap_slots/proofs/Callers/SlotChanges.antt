-- What callers need of the words on a slot list: a written item or link, and detached places.
use Rattle.std.proofs.Common.{◌≡◌, ◌≢◌, ◌⊎◌, ℕ, zero, suc, ◌<◌, ◌≤◌, List, [], ◌∷◌, length}
use Rattle.std.proofs.Common.{get_or, set, slice_get, Option, Some, None, IsSome, refl, sym, ap, subst, ◌∙◌, inl, inr}
use Rattle.std.proofs.lemmas.Bool.{cases_lt}
use Rattle.std.proofs.lemmas.List.{get_or-set_same, get_or-set_other, get_or_past}
use Rattle.multimap_slots.specs.Lists.{IsIn}
use Rattle.multimap_slots.proofs.Callers.PlaceLists.{IsIn-append, IsIn-without}
use Rattle.multimap_slots.specs.Slots.{Slots, item_at, link_at, KeepsOthers, with_item, with_link}
use Rattle.multimap_slots.specs.Slots.{IsSound, PushesBack, IsDetached, Detaches}

module _ {X : Type 0} where
  pub slice_get-set_same : (xs : List X) (i : ℕ) (x : X) → IsSome (slice_get xs i) → slice_get (set xs i x) i ≡ Some x
  slice_get-set_same [] i x some = absurd (let e = some in cc)
  slice_get-set_same (y ∷ ys) zero x some = refl
  slice_get-set_same (y ∷ ys) (suc i) x some = slice_get-set_same ys i x some

  pub slice_get-set_other : (xs : List X) (i q : ℕ) (x : X) → q ≢ i → slice_get (set xs i x) q ≡ slice_get xs q
  slice_get-set_other [] i q x differs = refl
  slice_get-set_other (y ∷ ys) zero zero x differs = absurd (differs refl)
  slice_get-set_other (y ∷ ys) zero (suc q) x differs = refl
  slice_get-set_other (y ∷ ys) (suc i) zero x differs = refl
  slice_get-set_other (y ∷ ys) (suc i) (suc q) x differs = slice_get-set_other ys i q x (λ e. differs (ap suc e))

-- another item or link at a place that has one
module _ {T L : Type 0} (s : Slots T L) (place : ℕ) where
  pub item_at-with_item : (item : T) → IsSome (item_at s place) → item_at (with_item s place item) place ≡ Some item
  item_at-with_item item some = get_or-set_same s.items place (Some item) None (below (cases_lt place (length s.items)))
    where
      none_past : (o : Option T) → o ≡ None → IsSome o → ⊥
      none_past o e is = let bad = rw e at is in cc

      below : (place < length s.items) ⊎ (length s.items ≤ place) → place < length s.items
      below (inl within) = within
      below (inr past) = absurd (none_past (item_at s place) (get_or_past s.items place None past) some)

  pub link_at-with_link : (link : L) → IsSome (link_at s place) → link_at (with_link s place link) place ≡ Some link
  link_at-with_link link some = slice_get-set_same s.links place link some

  pub KeepsOthers-with_item : (item : T) → KeepsOthers s (with_item s place item) place
  KeepsOthers-with_item item = record {
    items = λ q differs. get_or-set_other s.items place q (Some item) None differs;
    links = λ q differs. refl;
  }

  pub KeepsOthers-with_link : (link : L) → KeepsOthers s (with_link s place link) place
  KeepsOthers-with_link link = record {
    items = λ q differs. refl;
    links = λ q differs. slice_get-set_other s.links place q link differs;
  }

-- items that are kept out of the order
module _ {T L : Type 0} (old new : Slots T L) (place : ℕ) where
  -- the item of a place that has left the order is kept
  pub IsDetached-detach : IsSound old → IsIn place old.order → Detaches old new place → IsDetached new place
  IsDetached-detach sound listed change = record {
    not_listed = λ i. (IsIn-without place old.order place (subst (IsIn place) change.order i)).1 refl;
    has_item = subst (λ items. IsSome (get_or items place None)) (sym change.items) (sound.filled place listed);
  }

  -- an item that comes leaves the kept ones where they are
  pub IsDetached-push : (kept : ℕ) (item : T) (link : L) → PushesBack old new place item link → IsDetached old kept → IsDetached new kept
  IsDetached-push kept item link change was = record {
    not_listed = λ i. elim (IsIn-append kept old.order (place ∷ []) (subst (IsIn kept) change.order i)) [
      | inl listed ↦ was.not_listed listed
      | inr new ↦ elim new [ inl same ↦ differs same | inr none ↦ none ]
    ];
    has_item = subst IsSome (sym (change.others.items kept differs)) was.has_item;
  }
    where
      differs : kept ≢ place
      differs same = let bad = subst IsSome (ap (item_at old) same ∙ change.was_free) was.has_item in cc
