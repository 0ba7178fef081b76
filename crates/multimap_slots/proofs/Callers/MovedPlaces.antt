-- An order in which a place has moved to an end has the same places.
use Rattle.std.proofs.Common.{◌≡◌, ◌⊎◌, ℕ, ◌+◌, List, [], ◌∷◌, ◌++◌, length, sym, ap, subst, ◌∙◌, inl, inr, arith}
use Rattle.std.proofs.lemmas.List.{length-append}
use Rattle.multimap_slots.specs.Lists.{IsIn, AreDistinct, without, moved_last, moved_first}
use Rattle.multimap_slots.proofs.Callers.PlaceLists.{Split, IsIn-append, IsIn-left, IsIn-right, IsIn-split, IsIn-without, AreDistinct-push}
use Rattle.multimap_slots.proofs.Callers.PlaceLists.{AreDistinct-remove, AreDistinct-gone, without-split}

-- no place is new, none is lost, and none stands twice
pub record IsReordered (old new : List ℕ) : Type 0 where
  pub into : (q : ℕ) → IsIn q new → IsIn q old
  pub out_of : (q : ℕ) → IsIn q old → IsIn q new
  pub distinct : AreDistinct new
  pub same_length : length new ≡ length old

-- a place of the new order is one of the old
pub IsIn-moved_last : (q : ℕ) (ps : List ℕ) (p : ℕ) → IsIn p ps → IsIn q (moved_last ps p) → IsIn q ps
IsIn-moved_last q ps p i j = elim (IsIn-append q (without ps p) (p ∷ []) j) [
  | inl other ↦ (IsIn-without q ps p other).0
  | inr own ↦ elim own [ inl e ↦ subst (λ x. IsIn x ps) (sym e) i | inr none ↦ absurd none ]
]

pub IsIn-moved_first : (q : ℕ) (ps : List ℕ) (p : ℕ) → IsIn p ps → IsIn q (moved_first ps p) → IsIn q ps
IsIn-moved_first q ps p i (inl e) = subst (λ x. IsIn x ps) (sym e) i
IsIn-moved_first q ps p i (inr other) = (IsIn-without q ps p other).0

module _ (ps : List ℕ) (p : ℕ) (distinct : AreDistinct ps) (i : IsIn p ps) where
  split : Split p ps
  split = IsIn-split p ps i

  split_distinct : AreDistinct (split.front ++ p ∷ split.back)
  split_distinct = subst AreDistinct split.is distinct

  -- the others, on both sides of the place
  others_are : without ps p ≡ split.front ++ split.back
  others_are =
      ap (λ qs. without qs p) split.is
      ∙ without-split split.front p split.back (AreDistinct-gone split.front p split.back split_distinct)

  one_more : length (split.front ++ split.back) + 1 ≡ length ps
  one_more =
      omega (arith, length-append split.front split.back, ap length split.is, length-append split.front (p ∷ split.back))

  besides : (q : ℕ) → IsIn q ps → (q ≡ p) ⊎ IsIn q (split.front ++ split.back)
  besides q j = elim (IsIn-append q split.front (p ∷ split.back) (subst (IsIn q) split.is j)) [
    | inl before ↦ inr (IsIn-left q split.front split.back before)
    | inr here ↦ elim here [ inl e ↦ inl e | inr behind ↦ inr (IsIn-right q split.front split.back behind) ]
  ]

  pub moved_last-reordered : IsReordered ps (moved_last ps p)
  moved_last-reordered = record {
    into = λ q. IsIn-moved_last q ps p i;
    out_of = λ q j. elim (besides q j) [
      | inl e ↦ IsIn-right q (without ps p) (p ∷ []) (inl e)
      | inr other ↦ IsIn-left q (without ps p) (p ∷ []) (subst (IsIn q) (sym others_are) other)
    ];
    distinct = subst (λ qs. AreDistinct (qs ++ p ∷ [])) (sym others_are)
        (AreDistinct-push (split.front ++ split.back) p (AreDistinct-gone split.front p split.back split_distinct)
        (AreDistinct-remove split.front p split.back split_distinct));
    same_length = length-append (without ps p) (p ∷ []) ∙ ap (λ qs. length qs + 1) others_are ∙ one_more;
  }

  pub moved_first-reordered : IsReordered ps (moved_first ps p)
  moved_first-reordered = record {
    into = λ q. IsIn-moved_first q ps p i;
    out_of = λ q j. elim (besides q j) [
      | inl e ↦ inl e
      | inr other ↦ inr (subst (IsIn q) (sym others_are) other)
    ];
    distinct = (
      λ j. AreDistinct-gone split.front p split.back split_distinct (subst (IsIn p) others_are j),
      subst AreDistinct (sym others_are) (AreDistinct-remove split.front p split.back split_distinct),
    );
    same_length = omega (arith, ap length others_are, one_more);
  }
