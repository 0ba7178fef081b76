-- How each change keeps an item at each place that is not free.
use Rattle.std.proofs.Common.{◌≡◌, ◌≢◌, ◌⊎◌, ℕ, ◌<◌, ◌≤◌, List, [], ◌∷◌, length, get_or, set, Option, Some, None, IsSome, refl, sym}
use Rattle.std.proofs.Common.{ap, ◌∙◌, inl, inr, arith}
use Rattle.std.proofs.lemmas.Bool.{cases_eq, cases_lt}
use Rattle.std.proofs.lemmas.List.{length-set, get_or-set_same, get_or-set_other, get_or_past}
use Rattle.multimap_slots.specs.declared.order.node.State.{State}
use Rattle.multimap_slots.specs.declared.order.node.State.TheVariants.{Listed, Free, Detached}
use Rattle.multimap_slots.specs.Lists.{IsIn, without}
use Rattle.multimap_slots.specs.Private.ListLayout.{Places, AddsLast, IsFilled, put}
use Rattle.multimap_slots.proofs.Callers.PlaceLists.{IsIn-append, IsIn-without}
use Rattle.multimap_slots.proofs.Changes.Put.{put-length, get_or-put_same, get_or-put_other}

module _ {T : Type 0} where
  no_item : (o : Option T) → o ≡ None → IsSome o → ⊥
  no_item o e s = let bad = rw e at s in cc

  module _ {items : List (Option T)} {order : List ℕ} {states : List State} (f : IsFilled items order states) where
    -- a place without an item is not listed
    pub empty_absent : (p : ℕ) → get_or items p None ≡ None → IsIn p order → ⊥
    empty_absent p e i = no_item (get_or items p None) e (f.filled p i)

    -- a place with an item is within
    pub some_within : (p : ℕ) → IsSome (get_or items p None) → p < length items
    some_within p some = elim (cases_lt p (length items)) [
      | inl below ↦ below
      | inr past ↦ absurd (no_item (get_or items p None) (get_or_past items p None past) some)
    ]

    pub filled_within : (p : ℕ) → IsIn p order → p < length items
    filled_within p i = some_within p (f.filled p i)

    -- a place with an item is not free
    pub some_not_free : (p : ℕ) → IsSome (get_or items p None) → get_or states p Free ≢ Free
    some_not_free p some e = no_item (get_or items p None) (f.empty p e) some

    -- the same places are listed in another order
    pub IsFilled-reorder : (order' : List ℕ) → ((p : ℕ) → IsIn p order' → IsIn p order) → IsFilled items order' states
    IsFilled-reorder order' into = record {
      same_length = f.same_length;
      filled = λ p i. f.filled p (into p i);
      kept = f.kept;
      empty = f.empty;
    }

    -- a place is freed, and its item goes
    pub IsFilled-free : (place : ℕ) (left : List ℕ) → place < length items → ((p : ℕ) → IsIn p left → IsIn p order × (p ≢ place))
        → IsFilled (set items place None) left (set states place Free)
    IsFilled-free place left within others =
        record {
          same_length = length-set items place None ∙ f.same_length ∙ sym (length-set states place Free);
          filled = λ p j.
              let was = others p j in
              rw (get_or-set_other items place p None None was.1) (f.filled p was.0);
          kept = λ p e. elim (cases_eq p place) [
            | inl same ↦ absurd (let bad = sym (get_or-set_same states place Free Free within_states)
                ∙ ap (λ x. get_or (set states place Free) x Free) (sym same) ∙ e in cc)
            | inr differs ↦ rw (get_or-set_other items place p None None differs)
                (f.kept p (sym (get_or-set_other states place p Free Free differs) ∙ e))
          ];
          empty = λ p e. elim (cases_eq p place) [
            | inl same ↦ rw (same, get_or-set_same items place None None within) refl
            | inr differs ↦ get_or-set_other items place p None None differs
                ∙ f.empty p (sym (get_or-set_other states place p Free Free differs) ∙ e)
          ];
        }
      where
        within_states : place < length states
        within_states = omega (arith, within, f.same_length)

    pub IsFilled-remove : (place : ℕ) → IsIn place order → IsFilled (set items place None) (without order place) (set states place Free)
    IsFilled-remove place i =
        IsFilled-free place (without order place) (filled_within place i) (λ p j. IsIn-without p order place j)

    -- a place leaves the order, and its item stays
    pub IsFilled-detach : (place : ℕ) → IsIn place order → IsFilled items (without order place) (set states place Detached)
    IsFilled-detach place i =
        record {
          same_length = f.same_length ∙ sym (length-set states place Detached);
          filled = λ p j. f.filled p (IsIn-without p order place j).0;
          kept = λ p e. elim (cases_eq p place) [
            | inl same ↦ f.filled p (rw same i)
            | inr differs ↦ f.kept p (sym (get_or-set_other states place p Detached Free differs) ∙ e)
          ];
          empty = λ p e. elim (cases_eq p place) [
            | inl same ↦ absurd (let bad = sym (get_or-set_same states place Detached Free within_states)
                ∙ ap (λ x. get_or (set states place Detached) x Free) (sym same) ∙ e in cc)
            | inr differs ↦ f.empty p (sym (get_or-set_other states place p Detached Free differs) ∙ e)
          ];
        }
      where
        within_states : place < length states
        within_states = omega (arith, filled_within place i, f.same_length)

  pub IsFilled-push : {L : Type 0} {items : List (Option T)} {old new : Places L} {place : ℕ} {link : L} (item : T)
      → IsFilled items old.order old.states → AddsLast old new place link → IsFilled (put items place (Some item)) new.order new.states
  IsFilled-push {items = items} {old = old} {new = new} {place = place} item f a =
      record {
        same_length = rw a.states (put-length items old.states place (Some item) Listed f.same_length);
        filled = λ p i. filled_then p (IsIn-append p old.order (place ∷ []) (rw a.order at i));
        kept = λ p e. kept_then p (rw a.states at e);
        empty = λ p e. empty_then p (rw a.states at e);
      }
    where
      within : place ≤ length items
      within = omega (arith, a.within, f.same_length)

      filled_then : (p : ℕ) → IsIn p old.order ⊎ IsIn p (place ∷ []) → IsSome (get_or (put items place (Some item)) p None)
      filled_then p i = elim (cases_eq p place) [
        | inl same ↦ rw (same, get_or-put_same items place (Some item) None within) refl
        | inr differs ↦
            rw (get_or-put_other items place p (Some item) None within differs)
            (elim i [ inl was ↦ f.filled p was | inr b ↦ absurd (elim b [ inl e ↦ differs e | inr none ↦ none ]) ])
      ]

      kept_then : (p : ℕ) → get_or (put old.states place Listed) p Free ≡ Detached → IsSome (get_or (put items place (Some item)) p None)
      kept_then p e = elim (cases_eq p place) [
        | inl same ↦ rw (same, get_or-put_same items place (Some item) None within) refl
        | inr differs ↦
            rw (get_or-put_other items place p (Some item) None within differs)
            (f.kept p (sym (get_or-put_other old.states place p Listed Free a.within differs) ∙ e))
      ]

      empty_then : (p : ℕ) → get_or (put old.states place Listed) p Free ≡ Free → get_or (put items place (Some item)) p None ≡ None
      empty_then p e = elim (cases_eq p place) [
        | inl same ↦ absurd (let bad = sym (get_or-put_same old.states place Listed Free a.within)
            ∙ ap (λ x. get_or (put old.states place Listed) x Free) (sym same) ∙ e in cc)
        | inr differs ↦
            get_or-put_other items place p (Some item) None within differs
            ∙ f.empty p (sym (get_or-put_other old.states place p Listed Free a.within differs) ∙ e)
      ]
