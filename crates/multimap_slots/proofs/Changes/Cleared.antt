-- What is left while the items of a list leave it one after another.
use Rattle.std.proofs.Common.{◌≡◌, ◌≢◌, ◌⊎◌, ℕ, None, sym, subst, ◌∙◌, inl, inr}
use Rattle.std.proofs.lemmas.Bool.{cases_eq}
use Rattle.multimap_slots.specs.Lists.{IsIn}
use Rattle.multimap_slots.specs.Slots.{Slots, item_at, HasDetached, Removes}
use Rattle.multimap_slots.proofs.Callers.PlaceLists.{IsIn-stays, IsIn-without}

module _ {T L : Type 0} where
  -- some items of the list have gone, and nothing else
  pub record IsClearing (old now : Slots T L) : Type 0 where
    pub listed : (p : ℕ) → IsIn p now.order → IsIn p old.order
    pub freed : (p : ℕ) → IsIn p old.order → IsIn p now.order ⊎ (item_at now p ≡ None)
    pub detached : (p : ℕ) (item : T) (link : L) → HasDetached old p item link → HasDetached now p item link
    pub capacity : now.capacity ≡ old.capacity

  pub clearing-step : {old now new : Slots T L} {place : ℕ} {item : T} → IsClearing old now → Removes now new place item → IsClearing old new
  clearing-step {old} {now} {new} {place} {item} w r = record {
    listed = λ p i. w.listed p (was p i);
    freed = λ p i. elim (cases_eq p place) [
      | inl same ↦ inr (subst (λ q. item_at new q ≡ None) (sym same) r.freed)
      | inr differs ↦ elim (w.freed p i) [
        | inl here ↦ inl (subst (IsIn p) (sym r.order) (IsIn-stays p now.order place differs here))
        | inr gone ↦ inr (r.others.items p differs ∙ gone)
      ]
    ];
    detached = λ p x l d.
        let there = w.detached p x l d in
        let differs : p ≢ place = λ same. there.not_listed (subst (λ q. IsIn q now.order) (sym same) r.was_listed) in
        record {
          not_listed = λ i. there.not_listed (was p i);
          item_is = r.others.items p differs ∙ there.item_is;
          link_is = r.others.links p differs ∙ there.link_is;
        };
    capacity = r.capacity ∙ w.capacity;
  }
    where
      was : (p : ℕ) → IsIn p new.order → IsIn p now.order
      was p i = (IsIn-without p now.order place (subst (IsIn p) r.order i)).0
