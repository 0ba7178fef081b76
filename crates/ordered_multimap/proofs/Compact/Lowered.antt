-- Values in a row that all go down by one distance.
use Rattle.std.proofs.Common.{◌≡◌, ◌≢◌, ℕ, zero, suc, ◌+◌, ◌-◌, ◌<◌, ◌≤◌, List, [], ◌∷◌, ◌++◌, map, length, Some, refl, sym, ap, ◌∙◌, subst}
use Rattle.std.proofs.Common.{inl, inr, arith, append_assoc, unwrap_or}
use Rattle.std.proofs.lemmas.Bool.{cases_eq}
use Rattle.std.proofs.lemmas.List.{map-append, append-nil}
use Rattle.multimap_slots.specs.Lists.{IsIn, AreDistinct, Rises, first_of, places_below}
use Rattle.multimap_slots.specs.Slots.{Slots, item_at, link_at}
use Rattle.multimap_slots.specs.Tapes.{Taped, MovesDown}
use Rattle.multimap_slots.proofs.Callers.DensePlaces.{below-less}
use Rattle.multimap_walks.specs.declared.links.KeyLink.{KeyLink}
use Rattle.multimap_walks.specs.declared.links.ValueLink.{ValueLink}
use Rattle.ordered_multimap.specs.Private.Relocations.{FollowsDense, Relocates, WritesLink, relocated}
use Rattle.ordered_multimap.specs.Private.Lowered.{LowersFirst, LowersKeys, LowersValue, lowered, lowered_next, lowered_previous, places_on}
use Rattle.ordered_multimap.proofs.Compact.OneMove.{order-relocated, relocated-from, relocated-none}

pub on-from : (first n q : ℕ) → IsIn q (places_on first n) → first ≤ q
on-from first zero q i = absurd i
on-from first (suc n) q (inl e) = omega (arith, e)
on-from first (suc n) q (inr i) = omega (arith, on-from (suc first) n q i)

pub on-below : (first n q : ℕ) → IsIn q (places_on first n) → q < first + n
on-below first zero q i = absurd i
on-below first (suc n) q (inl e) = omega (arith, e)
on-below first (suc n) q (inr i) = omega (arith, on-below (suc first) n q i)

-- places that rise between two bounds are no more than there is room for
fit : (ps : List ℕ) (low high : ℕ) → Rises ps → ((q : ℕ) → IsIn q ps → low ≤ q) → ((q : ℕ) → IsIn q ps → q < high) → low ≤ high
    → low + length ps ≤ high
fit [] low high rises above below fits = omega (arith, fits)
fit (p ∷ ps) low high rises above below fits =
    let from : low ≤ p = above p (inl refl) in
    let under : p < high = below p (inl refl) in
    let rest = fit ps (suc p) high rises.1 (λ q i. omega (arith, rises.0 q i)) (λ q i. below q (inr i)) (omega (arith, under)) in
    omega (arith, from, rest)

-- and where they fill the room, they stand in a row
row : (ps : List ℕ) (low : ℕ) → Rises ps → ((q : ℕ) → IsIn q ps → low ≤ q) → ((q : ℕ) → IsIn q ps → q < low + length ps)
    → ps ≡ places_on low (length ps)
row [] low rises above below = refl
row (p ∷ ps) low rises above below =
    let from : low ≤ p = above p (inl refl) in
    let under : p < low + suc (length ps) = below p (inl refl) in
    let behind = fit ps (suc p) (low + suc (length ps)) rises.1 (λ q i. omega (arith, rises.0 q i)) (λ q i. below q (inr i))
    (omega (arith, under)) in
    let same : p ≡ low = omega (arith, behind, from) in
    let rest = row ps (suc low) rises.1 (λ q i. omega (arith, rises.0 q i, same)) (λ q i. omega (arith, below q (inr i))) in
    ap (λ x. x ∷ ps) same ∙ ap (λ qs. low ∷ qs) rest

-- the first place, or 0, is no higher than the end
pub first-fits : (order : List ℕ) (by end : ℕ) → by ≡ unwrap_or (first_of order) 0 → ((q : ℕ) → IsIn q order → q < end) → by ≤ end
first-fits [] by end first below = omega (arith, first)
first-fits (p ∷ ps) by end first below = omega (arith, first, below p (inl refl))

pub row-found : (order : List ℕ) (by end : ℕ) → Rises order → by ≡ unwrap_or (first_of order) 0 → ((q : ℕ) → IsIn q order → q < end)
    → 0 < by → end - by ≡ length order → order ≡ places_on by (length order)
row-found [] by end rises first below some count = refl
row-found (p ∷ ps) by end rises first below some count =
    let under : p < end = below p (inl refl) in
    row (p ∷ ps) by rises (λ q i. elim i [ inl e ↦ omega (arith, first, e) | inr later ↦ omega (arith, first, rises.0 q later) ])
    (λ q i. omega (arith, below q i, count, first, under))

-- the places of the row, lowered, are the next ones
below-on : (by k m : ℕ) → places_below (k + m) ≡ places_below k ++ map (lowered by) (places_on (by + k) m)
below-on by k zero =
    let none : k + 0 ≡ k = omega arith in
    ap places_below none ∙ sym (append-nil (places_below k))
below-on by k (suc m) =
    let step : k + suc m ≡ suc k + m = omega arith in
    let next : by + suc k ≡ suc (by + k) = omega arith in
    let down : k ≡ by + k - by = omega arith in
    ap places_below step ∙ below-on by (suc k) m ∙ ap (λ x. places_below (suc k) ++ map (lowered by) (places_on x m)) next
    ∙ append_assoc (places_below k) (k ∷ []) (map (lowered by) (places_on (suc (by + k)) m))
    ∙ ap (λ x. places_below k ++ x ∷ map (lowered by) (places_on (suc (by + k)) m)) down

pub row-lowered : (by n : ℕ) → places_below n ≡ map (lowered by) (places_on by n)
row-lowered by n =
    let same : by + 0 ≡ by = omega arith in
    let whole : n ≡ 0 + n = omega arith in
    ap places_below whole ∙ below-on by 0 n ∙ ap (λ x. map (lowered by) (places_on x n)) same

other : (to q : ℕ) → q ≢ to → Some to ≢ Some q
other to q differs e = differs (let same : to ≡ q = cc in sym same)

module _ {V : Type 0} {by to : ℕ} {old : Slots V ValueLink} {first second third : Taped V ValueLink} (distinct : AreDistinct old.order)
    (down : MovesDown old first.list (by + to) to)
    (previous : WritesLink first second (Some to) (lowered_previous by)) (next : WritesLink second third (Some to) (lowered_next by)) where
  -- the steps that take one value down
  pub lowers-value : LowersValue by old third.list to
  lowers-value = record {
    order = ap (λ t. t.list.order) next.rest ∙ ap (λ t. t.list.order) previous.rest ∙ order-relocated distinct down.order;
    item_is = ap (λ t. item_at t.list to) next.rest ∙ ap (λ t. item_at t.list to) previous.rest ∙ down.item_is;
    link_is = λ l is. next.here to (lowered_previous by l) refl (previous.here to l refl (down.link_is ∙ is));
    items = λ q not_from not_to. ap (λ t. item_at t.list q) next.rest ∙ ap (λ t. item_at t.list q) previous.rest
        ∙ down.items q not_from not_to;
    links = λ q not_to. next.others q (other to q not_to) ∙ previous.others q (other to q not_to) ∙ down.links q not_to;
  }

module _ {V : Type 0} {by : ℕ} {old : Slots V ValueLink} where
  pub lowers-start : old.order ≡ places_on by (length old.order) → LowersFirst by old old 0
  lowers-start row = record {
    left = length old.order;
    counted = omega arith;
    order = let same : by ≡ by + 0 = omega arith in row ∙ ap (λ x. places_on x (length old.order)) same;
    items = λ k below. absurd (omega (arith, below));
    links = λ k l below. absurd (omega (arith, below));
    items_left = λ q above. refl;
    links_left = λ q above. refl;
  }

  -- the next value stands behind holes alone
  pub follows : {now : Slots V ValueLink} {to : ℕ} → to < length old.order → LowersFirst by old now to → FollowsDense now.order to (by + to)
  follows {now} {to} more w = go w.left w.counted w.order
    where
      go : (left : ℕ) → to + left ≡ length old.order → now.order ≡ places_below to ++ places_on (by + to) left
          → FollowsDense now.order to (by + to)
      go zero counted order = absurd (omega (arith, counted, more))
      go (suc m) counted order = record {
        rest = places_on (suc (by + to)) m;
        parts = order;
        above = omega arith;
        low = λ q i. omega (arith, below-less to q i);
        high = λ q i. omega (arith, on-from (suc (by + to)) m q i);
      }

  pub lowers-step : {now after : Slots V ValueLink} {to : ℕ} → 0 < by → to < length old.order → LowersFirst by old now to
      → LowersValue by now after to → LowersFirst by old after (suc to)
  lowers-step {now} {after} {to} some more w v = go w.left w.counted w.order
    where
      from : ℕ
      from = by + to

      next_row : by + suc to ≡ suc (by + to)
      next_row = omega arith

      go : (left : ℕ) → to + left ≡ length old.order → now.order ≡ places_below to ++ places_on (by + to) left
          → LowersFirst by old after (suc to)
      go zero counted order = absurd (omega (arith, counted, more))
      go (suc m) counted order = record {
        left = m;
        counted = omega (arith, counted);
        order =
            let rest = places_on (suc (by + to)) m in
            v.order ∙ ap (map (relocated (by + to) to)) order
            ∙ map-append (relocated (by + to) to) (places_below to) ((by + to) ∷ rest)
            ∙ (λ i. relocated-none (by + to) to (places_below to) (λ j. omega (arith, below-less to (by + to) j)) i
            ++ relocated-from (by + to) to (by + to) refl i
            ∷ relocated-none (by + to) to rest (λ j. omega (arith, on-from (suc (by + to)) m (by + to) j)) i)
            ∙ sym (append_assoc (places_below to) (to ∷ []) rest)
            ∙ ap (λ x. places_below (suc to) ++ places_on x m) (sym next_row);
        items = λ k below. elim (cases_eq k to) [
          | inl same ↦ ap (item_at after) same ∙ v.item_is ∙ w.items_left (by + to) (omega arith)
              ∙ ap (λ x. item_at old (by + x)) (sym same)
          | inr differs ↦ v.items k (λ e. omega (arith, e, below, differs)) differs ∙ w.items k (omega (arith, below, differs))
        ];
        links = λ k l below is. elim (cases_eq k to) [
          | inl same ↦
              ap (link_at after) same ∙ v.link_is l (w.links_left (by + to) (omega arith) ∙ ap (λ x. link_at old (by + x)) (sym same) ∙ is)
          | inr differs ↦ v.links k differs ∙ w.links k l (omega (arith, below, differs)) is
        ];
        items_left = λ q above. v.items q (λ e. omega (arith, e, above)) (λ e. omega (arith, e, above))
            ∙ w.items_left q (omega (arith, above));
        links_left = λ q above. v.links q (λ e. omega (arith, e, above)) ∙ w.links_left q (omega (arith, above));
      }

  -- once all have gone down, they stand at the first places
  pub lowers-order : {after : Slots V ValueLink} → LowersFirst by old after (length old.order)
      → after.order ≡ places_below (length old.order)
  lowers-order {after} w =
      let none : w.left ≡ 0 = omega (arith, w.counted) in
      w.order ∙ ap (λ left. places_below (length old.order) ++ places_on (by + length old.order) left) none
      ∙ append-nil (places_below (length old.order))

module _ {K V : Type 0} {by : ℕ} {keys keys_after : Slots K KeyLink} {values values_after : Slots V ValueLink}
    (row : values.order ≡ places_on by (length values.order)) (w : LowersFirst by values values_after (length values.order))
    (lowers : LowersKeys by keys keys_after) where
  from : (q : ℕ) → IsIn q values.order → by ≤ q
  from q i = on-from by (length values.order) q (subst (IsIn q) row i)

  below : (q : ℕ) → IsIn q values.order → q - by < length values.order
  below q i = omega (arith, from q i, on-below by (length values.order) q (subst (IsIn q) row i))

  back : (q : ℕ) → IsIn q values.order → by + (q - by) ≡ q
  back q i = omega (arith, from q i)

  -- a renaming of all places
  pub relocates-lowered : length keys.order ≤ keys.capacity → length values.order ≤ values_after.capacity
      → Relocates (lowered by) keys keys_after values values_after
  relocates-lowered key_room room = record {
    apart = λ p q i j e. omega (arith, e, from p i, from q j);
    key_order = ap (λ s. s.order) lowers.rest;
    key_items = λ q. ap (λ s. item_at s q) lowers.rest;
    key_links = lowers.links;
    key_room = omega (arith, key_room, ap (λ s. s.capacity) lowers.rest);
    order = lowers-order w ∙ row-lowered by (length values.order) ∙ sym (ap (map (lowered by)) row);
    items = λ q i. w.items (q - by) (below q i) ∙ ap (item_at values) (back q i);
    links = λ q l i is. w.links (q - by) l (below q i) (ap (link_at values) (back q i) ∙ is);
    room = room;
  }
