-- Passes along the places of a list, from the first on.
use Rattle.std.proofs.Common.{◌≡◌, ℕ, ◌<◌, List, [], ◌∷◌, ◌++◌, length, length-append, Option, Some, None, refl, sym, ap, ◌∙◌, subst, inl}
use Rattle.std.proofs.Common.{arith}
use Rattle.std.proofs.Common.{append_assoc}
use Rattle.std.proofs.lemmas.List.{append-nil}
use Rattle.multimap_slots.specs.Lists.{AreDistinct, IsIn, first_of, next_of}
use Rattle.multimap_slots.proofs.Callers.PlaceLists.{AreDistinct-gone, IsIn-left, IsIn-right, next_of-split}
use Rattle.multimap_walks.specs.Chained.{position_in}
use Rattle.ordered_multimap.proofs.Callers.Places.{begins, no_rest, places_from, places_from-split, position_in-split}

-- these places are passed, and this one follows
pub record HasPassed (order done : List ℕ) (following : Option ℕ) : Type 0 where
  pub rest : List ℕ
  pub order_is : order ≡ done ++ rest
  pub following_is : following ≡ first_of rest

pub passing-start : (order : List ℕ) (following : Option ℕ) → following ≡ first_of order → HasPassed order [] following
passing-start order following is = record { rest = order; order_is = refl; following_is = is }

pub passing-end : {order done : List ℕ} {following : Option ℕ} → HasPassed order done following → following ≡ None → done ≡ order
passing-end {done = done} passed none =
    sym (passed.order_is ∙ ap (λ ps. done ++ ps) (no_rest passed.rest (sym passed.following_is ∙ none)) ∙ append-nil done)

module _ {order done : List ℕ} {following : Option ℕ} (distinct : AreDistinct order) (passed : HasPassed order done following)
    (place : ℕ) (here : following ≡ Some place) where
  abbrev behind : List ℕ
  behind = (begins passed.rest place (sym passed.following_is ∙ here)).rest

  split : order ≡ done ++ place ∷ behind
  split = passed.order_is ∙ ap (λ ps. done ++ ps) (begins passed.rest place (sym passed.following_is ∙ here)).is

  pub passing-listed : IsIn place order
  passing-listed = subst (IsIn place) (sym split) (IsIn-right place done (place ∷ behind) (inl refl))

  gone : IsIn place (done ++ behind) → ⊥
  gone = AreDistinct-gone done place behind (subst AreDistinct split distinct)

  pub passing-new : IsIn place done → ⊥
  passing-new i = gone (IsIn-left place done behind i)

  -- as many places stand before it as are passed
  pub passing-position : position_in order place ≡ length done
  passing-position = ap (λ ps. position_in ps place) split ∙ position_in-split done place behind passing-new

  pub passing-fewer : length done < length order
  passing-fewer = omega (arith, ap length split, length-append done (place ∷ behind))

  module _ (next : Option ℕ) (next_is : next ≡ next_of order place) where
    first_behind : next ≡ first_of behind
    first_behind = next_is ∙ ap (λ ps. next_of ps place) split ∙ next_of-split done place behind passing-new

    split_behind : order ≡ (done ++ place ∷ []) ++ behind
    split_behind = split ∙ sym (append_assoc done (place ∷ []) behind)

    pub passing-step : HasPassed order (done ++ place ∷ []) next
    passing-step = record {
      rest = behind;
      order_is = split_behind;
      following_is = first_behind;
    }

    left : (o : Option ℕ) (passed_part rest : List ℕ) → order ≡ passed_part ++ rest → o ≡ first_of rest
        → places_from order o ≡ length rest
    left o passed_part rest is first =
        (λ i. places_from (is i) (first i)) ∙ places_from-split passed_part rest (subst AreDistinct is distinct)

    -- one place fewer is left
    pub passing-smaller : places_from order next < places_from order following
    passing-smaller = omega (
      arith,
      left next (done ++ place ∷ []) behind split_behind first_behind,
      left following done (place ∷ behind) split here,
    )
