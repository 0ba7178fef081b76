-- The neighbours that a link names: they name its place in turn, and have the same key.
use Rattle.std.proofs.Common.{◌≡◌, ℕ, Bool, List, Option, Some, sym, ap, ◌∙◌}
use Rattle.multimap_slots.specs.Lists.{IsIn, AreDistinct, next_of, previous_of}
use Rattle.multimap_slots.specs.Slots.{Slots, IsSound, link_at}
use Rattle.multimap_slots.proofs.Callers.PlaceLists.{IsIn-kept}
use Rattle.multimap_walks.specs.declared.links.KeyLink.{KeyLink}
use Rattle.multimap_walks.specs.declared.links.ValueLink.{ValueLink}
use Rattle.multimap_walks.specs.Chained.{IsChained, is_value_of, chain_of}
use Rattle.ordered_multimap.proofs.Agreement.Agreed.{value_owner}
use Rattle.ordered_multimap.proofs.Callers.Places.{AreDistinct-filter}
use Rattle.ordered_multimap.proofs.Chains.Neighbours.{next_is, next_of-members, previous_is, previous_of-members}

module _ {K V : Type 0} {keys : Slots K KeyLink} {values : Slots V ValueLink} (sound : IsSound values) (chained : IsChained keys values) where
  -- a side of a link, and the other one, tell of two directions that lead back to each other
  named_by : (onward back : List ℕ → ℕ → Option ℕ) (side other : ValueLink → Option ℕ)
      → ((ps : List ℕ) (p q : ℕ) → onward ps p ≡ Some q → IsIn q ps)
      → ((ps : List ℕ) → AreDistinct ps → (p q : ℕ) → onward ps p ≡ Some q → back ps q ≡ Some p)
      → ((p : ℕ) (l : ValueLink) → IsIn p values.order → link_at values p ≡ Some l → onward (chain_of values l.key) p ≡ side l)
      → ((p : ℕ) (l : ValueLink) → IsIn p values.order → link_at values p ≡ Some l → back (chain_of values l.key) p ≡ other l)
      → (p q : ℕ) (l m : ValueLink) → IsIn p values.order → link_at values p ≡ Some l → side l ≡ Some q → link_at values q ≡ Some m
      → (other m ≡ Some p) × (m.key ≡ l.key)
  named_by onward back side other member turns told told_back p q l m listed link_is side_is other_is =
      let own : ℕ → Bool = is_value_of values l.key in
      let leads : onward (chain_of values l.key) p ≡ Some q = told p l listed link_is ∙ side_is in
      let kept = IsIn-kept own q values.order (member (chain_of values l.key) p q leads) in
      let same = value_owner keys values l.key q m other_is kept.1 in (
        sym (told_back q m kept.0 other_is) ∙ ap (λ k. back (chain_of values k) q) same
            ∙ turns (chain_of values l.key) (AreDistinct-filter own values.order sound.distinct) p q leads,
        same,
      )

  pub by_next : (p q : ℕ) (l m : ValueLink) → IsIn p values.order → link_at values p ≡ Some l → l.next ≡ Some q → link_at values q ≡ Some m
      → (m.previous ≡ Some p) × (m.key ≡ l.key)
  by_next = named_by next_of previous_of (λ l. l.next) (λ l. l.previous) (λ ps p q e. (next_of-members ps p q e).1)
      (λ ps distinct p q e. previous_is ps distinct p q e) chained.next chained.previous

  pub by_previous : (p q : ℕ) (l m : ValueLink) → IsIn p values.order → link_at values p ≡ Some l → l.previous ≡ Some q
      → link_at values q ≡ Some m → (m.next ≡ Some p) × (m.key ≡ l.key)
  by_previous = named_by previous_of next_of (λ l. l.previous) (λ l. l.next) (λ ps p q e. (previous_of-members ps p q e).1)
      (λ ps distinct p q e. next_is ps distinct q p e) chained.previous chained.next
