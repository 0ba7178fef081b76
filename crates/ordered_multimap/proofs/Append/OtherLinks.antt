-- What the links of a map say of a value with all values before it taken out.
use Rattle.std.proofs.Common.{◌≡◌, ◌≢◌, ℕ, Bool, true, cond, List, [], ◌∷◌, ◌++◌, filter, Some, None, refl, sym, ap, ◌∙◌, subst, inl, inr}
use Rattle.std.proofs.lemmas.Bool.{eq-eqb}
use Rattle.std.proofs.lemmas.List.Elements.{filter-append}
use Rattle.multimap_slots.specs.Lists.{IsIn, AreDistinct, first_of, last_of, next_of, previous_of}
use Rattle.multimap_slots.specs.Slots.{Slots, link_at}
use Rattle.multimap_slots.proofs.Callers.PlaceLists.{AreDistinct-gone, IsIn-kept, IsIn-left, IsIn-right, next_of-split, previous_of-split}
use Rattle.multimap_walks.specs.declared.links.KeyLink.{KeyLink}
use Rattle.multimap_walks.specs.declared.links.ValueLink.{ValueLink}
use Rattle.multimap_walks.specs.Chained.{is_value_of, chain_of}
use Rattle.ordered_multimap.specs.Private.Relocations.{AreChained}
use Rattle.ordered_multimap.proofs.Agreement.Agreed.{is_value_of-is}
use Rattle.ordered_multimap.proofs.Callers.Places.{last_of-member}
use Rattle.ordered_multimap.proofs.Chains.LongerLists.{no_last}
use Rattle.ordered_multimap.proofs.Chains.Neighbours.{first_of-member}

module _ {K V : Type 0} {keys : Slots K KeyLink} {values : Slots V ValueLink} (chains : AreChained keys values) where
  module _ (taken : List ℕ) (p : ℕ) (rest : List ℕ) (order : values.order ≡ taken ++ p ∷ rest) where
    pub gone : IsIn p (taken ++ rest) → ⊥
    gone = AreDistinct-gone taken p rest (subst AreDistinct order chains.sound.distinct)

    pub listed_here : IsIn p values.order
    listed_here = subst (IsIn p) (sym order) (IsIn-right p taken (p ∷ rest) (inl refl))

    pub listed_behind : (q : ℕ) → IsIn q rest → IsIn q values.order
    listed_behind q i = subst (IsIn q) (sym order) (IsIn-right q taken (p ∷ rest) (inr i))

    pub behind_other : (q : ℕ) → IsIn q rest → q ≢ p
    behind_other q i same = gone (IsIn-right p taken rest (subst (λ r. IsIn r rest) same i))

    pub taken_other : (q : ℕ) → IsIn q taken → q ≢ p
    taken_other q i same = gone (IsIn-left p taken rest (subst (λ r. IsIn r taken) same i))

    module _ (l : ValueLink) (link_is : link_at values p ≡ Some l) where
      abbrev own : ℕ → Bool
      own = is_value_of values l.key

      pub own_here : own p ≡ true
      own_here = is_value_of-is keys values l.key p l link_is ∙ eq-eqb l.key l.key refl

      chain_is : chain_of values l.key ≡ filter own taken ++ p ∷ filter own rest
      chain_is =
          ap (filter own) order ∙ filter-append own taken (p ∷ rest)
          ∙ ap (λ b. filter own taken ++ cond b (p ∷ filter own rest) (filter own rest)) own_here

      previous : last_of (filter own taken) ≡ l.previous
      previous =
          sym (previous_of-split (filter own taken) p (filter own rest)
          (λ i. gone (IsIn-right p taken rest (IsIn-kept own p rest i).0)))
          ∙ ap (λ ps. previous_of ps p) (sym chain_is) ∙ chains.chained.previous p l listed_here link_is

      next : first_of (filter own rest) ≡ l.next
      next =
          sym (next_of-split (filter own taken) p (filter own rest)
          (λ i. gone (IsIn-left p taken rest (IsIn-kept own p taken i).0)))
          ∙ ap (λ ps. next_of ps p) (sym chain_is) ∙ chains.chained.next p l listed_here link_is

      -- the one before it was taken, or none was of its key, and the next one is still there
      pub before_own : (q : ℕ) → l.previous ≡ Some q → IsIn q (filter own taken)
      before_own q e = last_of-member (filter own taken) q (previous ∙ e)

      pub before : (q : ℕ) → l.previous ≡ Some q → IsIn q taken
      before q e = (IsIn-kept own q taken (before_own q e)).0

      pub none_before : l.previous ≡ None → filter own taken ≡ []
      none_before e = no_last (filter own taken) (previous ∙ e)

      pub behind : (q : ℕ) → l.next ≡ Some q → IsIn q rest
      behind q e = (IsIn-kept own q rest (first_of-member (filter own rest) q (next ∙ e))).0
