-- The changes of a slot list, from what its vectors and its order do.
use Rattle.std.proofs.Common.{◌≡◌, ℕ, ◌+◌, ◌<◌, ◌≤◌, [], ◌∷◌, ◌++◌, length, get_or, set, slice_get, Some, None, ap}
use Rattle.std.proofs.Common.{◌∙◌}
use Rattle.std.proofs.lemmas.List.{get_or-set_same, get_or-set_other}
use Rattle.multimap_slots.specs.Lists.{IsIn, without}
use Rattle.multimap_slots.specs.Private.ListLayout.{put}
use Rattle.multimap_slots.specs.Slots.{Slots, item_at, KeepsOthers, PushesBack, Removes, Detaches, TakesDetached}
use Rattle.multimap_slots.proofs.Changes.Put.{get_or-put_same, get_or-put_other, slice_get-put_same, slice_get-put_other}

module _ {T L : Type 0} (old new : Slots T L) (place : ℕ) (item : T) where
  pub PushesBack-put : (link : L) → item_at old place ≡ None → (IsIn place old.order → ⊥) → place ≤ length old.items
      → place ≤ length old.links
      → new.order ≡ old.order ++ place ∷ [] → new.items ≡ put old.items place (Some item) → new.links ≡ put old.links place link
      → PushesBack old new place item link
  PushesBack-put link was_free absent within within_links order items links =
      record {
        was_absent = absent;
        was_free = was_free;
        order = order;
        item_is = ap (λ xs. get_or xs place None) items ∙ get_or-put_same old.items place (Some item) None within;
        link_is = ap (λ xs. slice_get xs place) links ∙ slice_get-put_same old.links place link within_links;
        others = record {
          items = λ q differs. ap (λ xs. get_or xs q None) items ∙ get_or-put_other old.items place q (Some item) None within differs;
          links = λ q differs. ap (λ xs. slice_get xs q) links ∙ slice_get-put_other old.links place q link within_links differs;
        };
      }

  -- an item goes, and its place and its link stay
  others-set : new.items ≡ set old.items place None → new.links ≡ old.links → KeepsOthers old new place
  others-set items links = record {
    items = λ q differs. ap (λ xs. get_or xs q None) items ∙ get_or-set_other old.items place q None None differs;
    links = λ q differs. ap (λ xs. slice_get xs q) links;
  }

  pub Removes-set : IsIn place old.order → item_at old place ≡ Some item → place < length old.items
      → new.order ≡ without old.order place → length new.order + 1 ≡ length old.order → new.items ≡ set old.items place None
      → new.links ≡ old.links
      → new.capacity ≡ old.capacity → Removes old new place item
  Removes-set was_listed had within order shorter items links capacity =
      record {
        was_listed = was_listed;
        had = had;
        order = order;
        shorter = shorter;
        freed = ap (λ xs. get_or xs place None) items ∙ get_or-set_same old.items place None None within;
        others = others-set items links;
        capacity = capacity;
      }

  pub TakesDetached-set : (IsIn place old.order → ⊥) → item_at old place ≡ Some item → place < length old.items
      → new.order ≡ old.order → new.items ≡ set old.items place None → new.links ≡ old.links
      → TakesDetached old new place item
  TakesDetached-set not_listed had within order items links =
      record {
        had = had;
        order = order;
        freed = ap (λ xs. get_or xs place None) items ∙ get_or-set_same old.items place None None within;
        others = others-set items links;
      }

pub Detaches-kept : {T L : Type 0} (old new : Slots T L) (place : ℕ) → new.order ≡ without old.order place
    → length new.order + 1 ≡ length old.order
    → new.items ≡ old.items → new.links ≡ old.links → Detaches old new place
Detaches-kept old new place order shorter items links =
    record {
      order = order;
      shorter = shorter;
      items = items;
      links = links;
    }
