-- What the steps of a packing leave: each key goes to the end of the new list, and each value to its place on the new tape.
use Rattle.std.proofs.Common.{◌≡◌, ◌≢◌, ◌==◌, ℕ, suc, ◌<◌, not, List, [], ◌∷◌, ◌++◌, length, Some}
use Rattle.std.proofs.Common.{refl, sym, ap, ◌∙◌, subst, inl, inr, arith, append_assoc, ◌≤◌}
use Rattle.std.proofs.lemmas.Bool.{ne_eqb}
use Rattle.std.specs.Ordering.{nat_cmp}
use Rattle.std.specs.FinMap.{FinMap}
use Rattle.multimap_slots.specs.Lists.{IsIn, AreDistinct, first_of, places_below, without}
use Rattle.multimap_slots.specs.Slots.{Slots, IsEmpty, IsSound, PushesBack, Removes, item_at, link_at}
use Rattle.multimap_slots.proofs.Callers.DensePlaces.{below-less, in-below, length-below}
use Rattle.multimap_slots.proofs.Callers.PlaceLists.{AreDistinct-gone, IsIn-append, IsIn-left, IsIn-right, IsIn-without, without-split}
use Rattle.multimap_walks.specs.declared.links.KeyLink.{KeyLink}
use Rattle.multimap_walks.specs.declared.links.ValueLink.{ValueLink}
use Rattle.ordered_multimap.specs.Private.KeyRelocations.{AreMoved, HaveCome, HaveNewPlaces, MovesKey, new_place_in, with_new_key}
use Rattle.ordered_multimap.proofs.Agreement.NewPlaces.{noted-step, places-start}
use Rattle.ordered_multimap.proofs.Callers.Members.{IsIn-filter}
use Rattle.ordered_multimap.proofs.Callers.Places.{Begins, begins}

-- a first part of the keys has gone, and the others are left as they were
pub record AreGoing {K : Type 0} (new_places : List ℕ) (keys left packed : Slots K KeyLink)
    : Type 0 where
  pub part : List ℕ
  pub parts : keys.order ≡ part ++ left.order
  pub gone : HaveNewPlaces (AreMoved keys) (new_place_in new_places) part packed
  pub left_items : (q : ℕ) → IsIn q left.order → item_at left q ≡ item_at keys q
  pub left_links : (q : ℕ) → IsIn q left.order → link_at left q ≡ link_at keys q

-- the values at the first n places have come, and the others are left as they were
pub record AreComing {V : Type 0} (name : ℕ → ℕ) (n : ℕ) (values left packed : Slots V ValueLink)
    : Type 0 where
  pub come : HaveCome name (places_below n) values packed
  pub there : (q : ℕ) → n ≤ q → IsIn q values.order → IsIn q left.order
  pub left_items : (q : ℕ) → IsIn q left.order → item_at left q ≡ item_at values q
  pub left_links : (q : ℕ) → IsIn q left.order → link_at left q ≡ link_at values q

pub going-start : {K : Type 0} (new_places : List ℕ) (keys packed : Slots K KeyLink) → IsEmpty packed → AreGoing new_places keys keys packed
going-start new_places keys packed none = record {
  part = [];
  parts = refl;
  gone = places-start (new_place_in new_places) packed none;
  left_items = λ q i. refl;
  left_links = λ q i. refl;
}

module _ {K : Type 0} {left left_after packed packed_after : Slots K KeyLink} {rows rows_after : FinMap nat_cmp ℕ} {new_places
    new_places_after : List
    ℕ} {place : ℕ}
    (moves : MovesKey left left_after packed packed_after rows rows_after new_places new_places_after place) where
  module _ {keys : Slots K KeyLink} (sound : IsSound keys) (going : AreGoing new_places keys left packed) (b : Begins left.order place)
      (within : place < length new_places) where
    -- the place is in neither part
    not_in : IsIn place (going.part ++ b.rest) → ⊥
    not_in = AreDistinct-gone going.part place b.rest (subst AreDistinct (going.parts ∙ ap (λ ps. going.part ++ ps) b.is) sound.distinct)

    left_after_is : left_after.order ≡ b.rest
    left_after_is = moves.removed.order ∙ ap (λ ps. without ps place) b.is
        ∙ without-split [] place b.rest (λ i. not_in (IsIn-right place going.part b.rest i))

    pub going-step : AreGoing new_places_after keys left_after packed_after
    going-step = record {
      part = going.part ++ place ∷ [];
      parts =
          going.parts ∙ ap (λ ps. going.part ++ ps) (b.is ∙ ap (λ ps. place ∷ ps) (sym left_after_is))
          ∙ sym (append_assoc going.part (place ∷ []) left_after.order);
      gone = noted-step new_places going.gone moves.pushed
          (record {
            item_is = sym moves.removed.had ∙ going.left_items place moves.removed.was_listed;
            link_is = sym moves.link_was ∙ going.left_links place moves.removed.was_listed;
          }) moves.new_places_are (λ i. not_in (IsIn-left place going.part b.rest i)) within;
      left_items = λ q i. let was = still q i in moves.removed.others.items q was.1 ∙ going.left_items q was.0;
      left_links = λ q i. let was = still q i in moves.removed.others.links q was.1 ∙ going.left_links q was.0;
    }
      where
        still : (q : ℕ) → IsIn q left_after.order → IsIn q left.order × (q ≢ place)
        still q i = IsIn-without q left.order place (subst (IsIn q) moves.removed.order i)

-- the next key is one of all
pub going-listed : {K : Type 0} {new_places : List ℕ} {keys left packed : Slots K KeyLink} {place : ℕ}
    → AreGoing new_places keys left packed
    → first_of left.order ≡ Some place → IsIn place keys.order
going-listed {keys = keys} {left} {place = place} going first =
    let b = begins left.order place first in
    subst (IsIn place) (sym going.parts) (IsIn-right place going.part left.order (subst (IsIn place) (sym b.is) (inl refl)))

pub coming-start : {V : Type 0} (name : ℕ → ℕ) (values packed : Slots V ValueLink) → IsEmpty packed → AreComing name 0 values values packed
coming-start name values packed none = record {
  come = record { order = none.order; items = λ q i. absurd i; links = λ q l i. absurd i };
  there = λ q above i. i;
  left_items = λ q i. refl;
  left_links = λ q i. refl;
}

module _ {V : Type 0} {name : ℕ → ℕ} {n : ℕ} {values left packed : Slots V ValueLink} (coming : AreComing name n values left packed)
    (dense : values.order ≡ places_below (length values.order)) where
  -- the next place has a value, as it had before
  pub was_there : n < length values.order → IsIn n values.order
  was_there more = subst (IsIn n) (sym dense) (in-below (length values.order) n more)

  pub next_there : n < length values.order → IsIn n left.order
  next_there more = coming.there n (omega arith) (was_there more)

  pub come_length : length packed.order ≡ n
  come_length = ap length coming.come.order ∙ length-below n

  pub coming-end : n ≡ length values.order → HaveCome name values.order values packed
  coming-end all = subst (λ ps. HaveCome name ps values packed) (ap places_below all ∙ sym dense) coming.come

  module _ {left_after packed_after : Slots V ValueLink} {value : V} {link : ValueLink} {to : ℕ} (removed : Removes left left_after n value)
      (link_was : link_at left n ≡ Some link)
      (pushed : PushesBack packed packed_after to value (with_new_key name link)) (to_is : to ≡ n) where
    pub coming-step : AreComing name (suc n) values left_after packed_after
    coming-step = record {
      come = record {
        order = pushed.order ∙ (λ i. coming.come.order i ++ to_is i ∷ []);
        items = λ q i. elim (IsIn-append q (places_below n) (n ∷ []) i) [
          | inl below ↦ pushed.others.items q (low q below) ∙ coming.come.items q below
          | inr last ↦ elim last [
            | inl same ↦ ap (item_at packed_after) (same ∙ sym to_is) ∙ pushed.item_is ∙ sym removed.had
                ∙ coming.left_items n removed.was_listed ∙ ap (item_at values) (sym same)
            | inr none ↦ absurd none
          ]
        ];
        links = λ q l i is. elim (IsIn-append q (places_below n) (n ∷ []) i) [
          | inl below ↦ pushed.others.links q (low q below) ∙ coming.come.links q l below is
          | inr last ↦ elim last [
            | inl same ↦
                let both : Some link ≡ Some l = sym link_was ∙ coming.left_links n removed.was_listed ∙ ap (link_at values) (sym same)
                ∙ is in
                let own : link ≡ l = cc in
                ap (link_at packed_after) (same ∙ sym to_is) ∙ pushed.link_is ∙ ap (λ m. Some (with_new_key name m)) own
            | inr none ↦ absurd none
          ]
        ];
      };
      there = λ q above i.
          subst (IsIn q) (sym removed.order) (IsIn-filter (λ p. not (p == n)) q left.order
          (ap not (ne_eqb q n (λ e. omega (arith, above, e)))) (coming.there q (omega (arith, above)) i));
      left_items = λ q i. let was = still q i in removed.others.items q was.1 ∙ coming.left_items q was.0;
      left_links = λ q i. let was = still q i in removed.others.links q was.1 ∙ coming.left_links q was.0;
    }
      where
        low : (q : ℕ) → IsIn q (places_below n) → q ≢ to
        low q below same = omega (arith, below-less n q below, same, to_is)

        still : (q : ℕ) → IsIn q left_after.order → IsIn q left.order × (q ≢ n)
        still q i = IsIn-without q left.order n (subst (IsIn q) removed.order i)
