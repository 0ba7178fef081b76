-- How each change of a tape keeps its vectors in agreement.
use Rattle.std.proofs.Common.{◌≡◌, ◌≢◌, ◌⊎◌, ℕ, zero, suc, ◌+◌, ◌<◌, ◌≤◌, List, [], ◌∷◌, ◌++◌, length, get_or, set, slice_get, take, Option}
use Rattle.std.proofs.Common.{Some, None, IsSome, refl, sym, ap, subst, ◌∙◌, inl, inr, arith, length-append, length-take-le}
use Rattle.std.proofs.lemmas.Bool.{cases_eq}
use Rattle.std.proofs.lemmas.List.{length-set, get_or-set_same, get_or-set_other, get_or-take}
use Rattle.std.proofs.lemmas.Option.{slice_get-get_or}
use Rattle.multimap_slots.specs.Lists.{IsIn, AreDistinct, IsRelocated, without}
use Rattle.multimap_slots.specs.Slots.{Slots}
use Rattle.multimap_slots.specs.Tapes.{MovesDown}
use Rattle.multimap_slots.specs.Private.ListLayout.{put}
use Rattle.multimap_slots.specs.Private.Runs.{RunLengths}
use Rattle.multimap_slots.specs.Private.TapeLayout.{IsTape}
use Rattle.multimap_slots.proofs.Callers.PlaceLists.{IsIn-append, IsIn-right, IsIn-was, IsIn-besides, IsIn-without, AreDistinct-gone}
use Rattle.multimap_slots.proofs.Callers.SlotChanges.{slice_get-set_other}
use Rattle.multimap_slots.proofs.Changes.Put.{put-push, get_or-put_same, get_or-put_other}

module _ {T L : Type 0} {items : List (Option T)} {links : List L} {runs : RunLengths} {a b : ℕ}
    (t : IsTape items links runs a b) where
  pub IsTape-push : (new : RunLengths) (item : T) (link : L) → new.order ≡ runs.order ++ runs.used ∷ [] → new.used ≡ runs.used + 1
      → {a' b' : ℕ} → new.capacity ≤ a' → new.capacity ≤ b' → IsTape (items ++ Some item ∷ []) (links ++ link ∷ []) new a' b'
  IsTape-push new item link order used items_fit links_fit =
      record {
        items_used = rw length-append (omega (arith, used, t.items_used));
        links_used = rw length-append (omega (arith, used, t.links_used));
        filled = λ p i. rw (← put-push items runs.used (Some item) (omega (arith, t.items_used)))
            (filled p (IsIn-append p runs.order (runs.used ∷ []) (rw order at i)));
        items_fit = items_fit;
        links_fit = links_fit;
      }
    where
      filled : (p : ℕ) → IsIn p runs.order ⊎ IsIn p (runs.used ∷ []) → IsSome (get_or (put items runs.used (Some item)) p None)
      filled p i = elim (cases_eq p runs.used) [
        | inl same ↦ rw (same, get_or-put_same items runs.used (Some item) None (omega (arith, t.items_used))) refl
        | inr differs ↦
            rw (get_or-put_other items runs.used p (Some item) None (omega (arith, t.items_used)) differs)
            (elim i [ inl was ↦ t.filled p was | inr b ↦ absurd (elim b [ inl e ↦ differs e | inr none ↦ none ]) ])
      ]

  pub IsTape-remove : (new : RunLengths) (place : ℕ) → new.order ≡ without runs.order place → new.used ≡ runs.used
      → {a' b' : ℕ} → new.capacity ≤ a' → new.capacity ≤ b' → IsTape (set items place None) links new a' b'
  IsTape-remove new place order used items_fit links_fit =
      record {
        items_used = rw length-set (omega (arith, used, t.items_used));
        links_used = omega (arith, used, t.links_used);
        filled = λ p i.
            let was = IsIn-without p runs.order place (rw order at i) in
            rw (get_or-set_other items place p None None was.1) (t.filled p was.0);
        items_fit = items_fit;
        links_fit = links_fit;
      }

  pub IsTape-detach : (new : RunLengths) (place : ℕ) → new.order ≡ without runs.order place → new.used ≡ runs.used
      → {a' b' : ℕ} → new.capacity ≤ a' → new.capacity ≤ b' → IsTape items links new a' b'
  IsTape-detach new place order used items_fit links_fit =
      record {
        items_used = omega (arith, used, t.items_used);
        links_used = omega (arith, used, t.links_used);
        filled = λ p i. t.filled p (IsIn-without p runs.order place (rw order at i)).0;
        items_fit = items_fit;
        links_fit = links_fit;
      }

  pub IsTape-cut : (new : RunLengths) → new.order ≡ runs.order → new.used ≤ runs.used → ((p : ℕ) → IsIn p new.order → p < new.used)
      → {a' b' : ℕ} → new.capacity ≤ a' → new.capacity ≤ b' → IsTape (take new.used items) (take new.used links) new a' b'
  IsTape-cut new order no_more within items_fit links_fit =
      record {
        items_used = length-take-le new.used items (omega (arith, no_more, t.items_used));
        links_used = length-take-le new.used links (omega (arith, no_more, t.links_used));
        filled = λ p i. rw (get_or-take new.used items p None (within p i)) (t.filled p (rw order at i));
        items_fit = items_fit;
        links_fit = links_fit;
      }

  pub IsTape-move : (new : RunLengths) (from to : ℕ) (link : L) → IsRelocated runs.order new.order from to → AreDistinct runs.order
      → new.used ≡ runs.used → to < runs.used
      → {a' b' : ℕ} → new.capacity ≤ a' → new.capacity ≤ b'
      → IsTape (set (set items from None) to (get_or items from None)) (set links to link) new a' b'
  IsTape-move new from to link r distinct used within items_fit links_fit =
      record {
        items_used = rw length-set (rw length-set (omega (arith, used, t.items_used)));
        links_used = rw length-set (omega (arith, used, t.links_used));
        filled = λ p i. filled p (cases_eq p to) i;
        items_fit = items_fit;
        links_fit = links_fit;
      }
    where
      in_old : (p : ℕ) → p ≢ to → IsIn p new.order → IsIn p (r.front ++ r.back)
      in_old p differs i = IsIn-besides p r.front to r.back differs (rw r.is at i)

      filled : (p : ℕ) → (p ≡ to) ⊎ (p ≢ to) → IsIn p new.order
          → IsSome (get_or (set (set items from None) to (get_or items from None)) p None)
      filled p (inl same) i =
          rw (
            same,
            get_or-set_same (set items from None) to (get_or items from None) None
                (rw length-set (omega (arith, within, t.items_used))),
          )
          (t.filled from (rw r.was (IsIn-right from r.front (from ∷ r.back) (inl refl))))
      filled p (inr differs) i =
          rw (
            get_or-set_other (set items from None) to p (get_or items from None) None differs,
            get_or-set_other items from p None None (λ e. AreDistinct-gone r.front from r.back (subst AreDistinct r.was distinct)
                (subst (λ x. IsIn x (r.front ++ r.back)) e (in_old p differs i))),
          )
          (t.filled p (rw r.was (IsIn-was p r.front from r.back (in_old p differs i))))

-- an item goes down with its link
module _ {T L : Type 0} (old new : Slots T L) (from to : ℕ) where
  pub MovesDown-set : (link : L) → ¬ IsIn to old.order → IsRelocated old.order new.order from to → from ≢ to
      → from < length old.items → to < length old.items → from < length old.links → to < length old.links
      → link ≡ get_or old.links from link
      → new.items ≡ set (set old.items from None) to (get_or old.items from None) → new.links ≡ set old.links to link
      → MovesDown old new from to
  MovesDown-set link absent order apart from_in to_in from_linked to_linked read items links =
      record {
        was_absent = absent;
        order = order;
        item_is = rw items (get_or-set_same (set old.items from None) to (get_or old.items from None) None (rw length-set to_in));
        link_is = rw links (slice_get-get_or (set old.links to link) to link (rw length-set to_linked)
            ∙ ap Some (get_or-set_same old.links to link link to_linked ∙ read) ∙ sym (slice_get-get_or old.links from link from_linked));
        gone = rw items (get_or-set_other (set old.items from None) to from (get_or old.items from None) None apart
            ∙ get_or-set_same old.items from None None from_in);
        items = λ q not_from not_to. rw items (get_or-set_other (set old.items from None) to q (get_or old.items from None) None not_to
            ∙ get_or-set_other old.items from q None None not_from);
        links = λ q not_to. rw links (slice_get-set_other old.links to q link not_to);
      }

-- where an item stands, there is a slot
pub IsSome-within : {X : Type 0} (xs : List (Option X)) (p : ℕ) → IsSome (get_or xs p None) → p < length xs
IsSome-within [] p some = absurd (let bad = some in cc)
IsSome-within (x ∷ xs) zero some = omega arith
IsSome-within (x ∷ xs) (suc p) some = omega (arith, IsSome-within xs p some)

pub slice_get-take : {X : Type 0} (n : ℕ) (xs : List X) (q : ℕ) → q < n → slice_get (take n xs) q ≡ slice_get xs q
slice_get-take zero xs q below = absurd (omega (arith, below))
slice_get-take (suc n) [] q below = refl
slice_get-take (suc n) (x ∷ xs) zero below = refl
slice_get-take (suc n) (x ∷ xs) (suc q) below = slice_get-take n xs q (omega (arith, below))

-- a listed place is in use, since an item stands there
pub listed_used : {T L : Type 0} {items : List (Option T)} {links : List L} {runs : RunLengths} {a b : ℕ} → IsTape items links runs a b
    → (p : ℕ) → IsIn p runs.order → p < runs.used
listed_used {items = items} t p i = omega (arith, IsSome-within items p (t.filled p i), t.items_used)
