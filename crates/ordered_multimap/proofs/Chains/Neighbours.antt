-- Neighbours in a list of distinct places: each names the other, and no two stand behind each other.
use Rattle.std.proofs.Common.{◌≡◌, ◌≢◌, ℕ, List, [], ◌∷◌, ◌++◌, reverse, Some, None, refl, sym, ap, ◌∙◌, subst, inl, inr, append_assoc}
use Rattle.std.proofs.lemmas.Bool.{cases_eq, eq-eqb, ne_eqb}
use Rattle.std.proofs.lemmas.List.{reverse-reverse}
use Rattle.multimap_slots.specs.Lists.{IsIn, AreDistinct, first_of, next_of, previous_of}
use Rattle.multimap_slots.proofs.Callers.PlaceLists.{IsIn-reverse, IsIn-split, IsIn-left, IsIn-right, AreDistinct-gone, next_of-split}
use Rattle.multimap_slots.proofs.Callers.PlaceLists.{previous_of-split}
use Rattle.multimap_walks.proofs.Callers.Paths.{AreDistinct-reverse}
use Rattle.ordered_multimap.proofs.Callers.Places.{begins}
use Rattle.ordered_multimap.proofs.Chains.LongerLists.{last_or-push}

pub first_of-member : (ps : List ℕ) (p : ℕ) → first_of ps ≡ Some p → IsIn p ps
first_of-member ps p e = let b = begins ps p e in subst (IsIn p) (sym b.is) (inl refl)

-- a place that has one behind it stands in the list, and so does that one
pub next_of-members : (ps : List ℕ) (q p : ℕ) → next_of ps q ≡ Some p → IsIn q ps × IsIn p ps
next_of-members [] q p e = absurd (cc)
next_of-members (r ∷ ps) q p e = elim (cases_eq r q) [
  | inl same ↦ (inl (sym same), inr (first_of-member ps p (rw (eq-eqb r q same) at e)))
  | inr differs ↦ let m = next_of-members ps q p (rw (ne_eqb r q differs) at e) in (inr m.0, inr m.1)
]

pub previous_of-members : (ps : List ℕ) (p q : ℕ) → previous_of ps p ≡ Some q → IsIn p ps × IsIn q ps
previous_of-members ps p q e =
    let m = next_of-members (reverse ps) p q e in
    (IsIn-reverse p ps m.0, IsIn-reverse q ps m.1)

module _ (ps : List ℕ) (distinct : AreDistinct ps) where
  -- two neighbours
  record AreNeighbours (q p : ℕ) : Type 0 where
    front : List ℕ
    back : List ℕ
    is : ps ≡ front ++ q ∷ p ∷ back

  from_next : (q p : ℕ) → next_of ps q ≡ Some p → AreNeighbours q p
  from_next q p e =
      let s = IsIn-split q ps (next_of-members ps q p e).0 in
      let apart = subst AreDistinct s.is distinct in
      let b = begins s.back p (sym (next_of-split s.front q s.back
      (λ j. AreDistinct-gone s.front q s.back apart (IsIn-left q s.front s.back j))) ∙ ap (λ xs. next_of xs q) (sym s.is) ∙ e) in
      record { front = s.front; back = b.rest; is = s.is ∙ ap (λ xs. s.front ++ q ∷ xs) b.is }

  pub previous_is : (q p : ℕ) → next_of ps q ≡ Some p → previous_of ps p ≡ Some q
  previous_is q p e =
      let n = from_next q p e in
      let is = n.is ∙ sym (append_assoc n.front (q ∷ []) (p ∷ n.back)) in
      ap (λ xs. previous_of xs p) is
      ∙ previous_of-split (n.front ++ q ∷ []) p n.back
      (λ j. AreDistinct-gone (n.front ++ q ∷ []) p n.back (subst AreDistinct is distinct) (IsIn-right p (n.front ++ q ∷ []) n.back j))
      ∙ last_or-push None n.front q

  pub no_cycle : (q p : ℕ) → next_of ps q ≡ Some p → next_of ps p ≢ Some q
  no_cycle q p e back =
      let n = from_next q p e in
      let is = n.is ∙ sym (append_assoc n.front (q ∷ []) (p ∷ n.back)) in
      let apart = subst AreDistinct is distinct in
      let behind = sym (next_of-split (n.front ++ q ∷ []) p n.back
      (λ j. AreDistinct-gone (n.front ++ q ∷ []) p n.back apart (IsIn-left p (n.front ++ q ∷ []) n.back j)))
      ∙ ap (λ xs. next_of xs p) (sym is) ∙ back in
      AreDistinct-gone n.front q (p ∷ n.back) (subst AreDistinct n.is distinct)
      (IsIn-right q n.front (p ∷ n.back) (inr (first_of-member n.back q behind)))

-- the other way round, in the reversed list
pub next_is : (ps : List ℕ) → AreDistinct ps → (q p : ℕ) → previous_of ps p ≡ Some q → next_of ps q ≡ Some p
next_is ps distinct q p e =
    ap (λ xs. next_of xs q) (sym (reverse-reverse ps)) ∙ previous_is (reverse ps) (AreDistinct-reverse ps distinct) p q e
