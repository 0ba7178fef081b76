-- The links of the keys, one after the other, name lower places.
use Rattle.std.proofs.Common.{◌≡◌, ◌≢◌, ℕ, List, [], ◌∷◌, ◌++◌, Option, Some, None, IsSome, refl, sym, ap, ◌∙◌, subst, inl, inr}
use Rattle.multimap_slots.specs.Lists.{AreDistinct, IsIn, first_of, next_of}
use Rattle.multimap_slots.specs.Slots.{Slots, link_at, with_link}
use Rattle.multimap_slots.proofs.Callers.PlaceLists.{IsIn-append, IsIn-left, IsIn-right}
use Rattle.multimap_slots.proofs.Callers.SlotChanges.{link_at-with_link, KeepsOthers-with_link}
use Rattle.multimap_walks.specs.declared.links.KeyLink.{KeyLink}
use Rattle.ordered_multimap.specs.Private.Relocations.{relocated_key}
use Rattle.ordered_multimap.specs.Private.Lowered.{LowersKey, LowersKeys, lowered}
use Rattle.ordered_multimap.proofs.Callers.Places.{held}
use Rattle.ordered_multimap.proofs.Clone.Passing.{HasPassed, passing-end, passing-listed, passing-new, passing-start, passing-step}

-- the links of the keys that are passed were lowered, and this key follows
pub record AreLowering {K : Type 0} (by : ℕ) (old now : Slots K KeyLink) (following : Option ℕ) : Type 0 where
  pub done : List ℕ
  pub passed : HasPassed old.order done following
  pub rest : now ≡ record old { links = now.links }
  pub links : (q : ℕ) (l : KeyLink) → IsIn q done → link_at old q ≡ Some l → link_at now q ≡ Some (relocated_key (lowered by) l)
  pub others : (q : ℕ) → ¬ IsIn q done → link_at now q ≡ link_at old q

module _ {K : Type 0} {by : ℕ} {old : Slots K KeyLink} where
  pub lowering-start : (following : Option ℕ) → following ≡ first_of old.order → AreLowering by old old following
  lowering-start following is = record {
    done = [];
    passed = passing-start old.order following is;
    rest = refl;
    links = λ q l i. absurd i;
    others = λ q absent. refl;
  }

  pub lowering-end : {now : Slots K KeyLink} {following : Option ℕ} → AreLowering by old now following → following ≡ None
      → LowersKeys by old now
  lowering-end w none = record {
    rest = w.rest;
    links = λ q l i is. w.links q l (subst (IsIn q) (sym (passing-end w.passed none)) i) is;
  }

  module _ {now : Slots K KeyLink} {following : Option ℕ} (distinct : AreDistinct old.order) (w : AreLowering by old now following)
      (place : ℕ) (here : following ≡ Some place) where
    pub lowering-same : link_at now place ≡ link_at old place
    lowering-same = w.others place (passing-new distinct w.passed place here)

    pub lowering-listed : IsIn place now.order
    lowering-listed = subst (IsIn place) (sym (ap (λ s. s.order) w.rest)) (passing-listed distinct w.passed place here)

    module _ {after : Slots K KeyLink} (linked : IsSome (link_at old place)) (m : LowersKey by now after place) where
      some : IsSome (link_at now place)
      some = subst IsSome (sym lowering-same) linked

      written : (l : KeyLink) → link_at old place ≡ Some l → link_at after place ≡ Some (relocated_key (lowered by) l)
      written l is = ap (λ s. link_at s place) (m.link l (lowering-same ∙ is))
          ∙ link_at-with_link now place (relocated_key (lowered by) l) some

      abbrev new_link : KeyLink
      new_link = relocated_key (lowered by) (held (link_at now place) some).value

      change : after ≡ with_link now place new_link
      change = m.link (held (link_at now place) some).value (held (link_at now place) some).is

      kept : (q : ℕ) → q ≢ place → link_at after q ≡ link_at now q
      kept q differs = ap (λ s. link_at s q) change ∙ (KeepsOthers-with_link now place new_link).links q differs

      rest : after ≡ record old { links = after.links }
      rest = change ∙ ap (λ s. with_link s place new_link) w.rest ∙ sym (ap (λ s. record old { links = s.links }) change)

      pub lowering-next : IsIn place after.order
      lowering-next = subst (IsIn place) (sym (ap (λ s. s.order) rest)) (passing-listed distinct w.passed place here)

      module _ (next : Option ℕ) (next_is : next ≡ next_of after.order place) where
        pub lowering-follows : next ≡ next_of old.order place
        lowering-follows = next_is ∙ ap (λ ps. next_of ps place) (ap (λ s. s.order) rest)

        pub lowering-step : AreLowering by old after next
        lowering-step = record {
          done = w.done ++ place ∷ [];
          passed = passing-step distinct w.passed place here next lowering-follows;
          rest = rest;
          links = λ q l i is. elim (IsIn-append q w.done (place ∷ []) i) [
            | inl before ↦
                kept q (λ e. passing-new distinct w.passed place here (subst (λ p. IsIn p w.done) e before)) ∙ w.links q l before is
            | inr last ↦ elim last [
              | inl same ↦ ap (link_at after) same ∙ written l (ap (link_at old) (sym same) ∙ is)
              | inr none ↦ absurd none
            ]
          ];
          others = λ q absent. kept q (λ e. absent (IsIn-right q w.done (place ∷ []) (inl e)))
              ∙ w.others q (λ i. absent (IsIn-left q w.done (place ∷ []) i));
        }
