-- What the links name is high enough to be lowered.
use Rattle.std.proofs.Common.{◌≡◌, ℕ, zero, suc, ◌+◌, ◌<◌, ◌≤◌, length, Some, IfSome, IsSome, refl, sym, ◌∙◌, subst}
use Rattle.std.proofs.Common.{inl, inr, arith, ◌∷◌}
use Rattle.multimap_slots.specs.Lists.{IsIn}
use Rattle.multimap_slots.specs.Slots.{Slots, link_at}
use Rattle.multimap_slots.specs.Tapes.{Taped, MovesDown}
use Rattle.multimap_slots.proofs.Callers.PlaceLists.{IsIn-kept, IsIn-right}
use Rattle.multimap_walks.specs.declared.links.KeyLink.{KeyLink}
use Rattle.multimap_walks.specs.declared.links.ValueLink.{ValueLink}
use Rattle.multimap_walks.specs.Chained.{is_value_of, chain_of}
use Rattle.ordered_multimap.specs.Private.Relocations.{AreChained, WritesLink}
use Rattle.ordered_multimap.specs.Private.Lowered.{NamesHigh, NamesHighEnds, lowered_previous, places_on}
use Rattle.ordered_multimap.proofs.Append.Steps.{if_each}
use Rattle.ordered_multimap.proofs.Callers.Places.{held, last_of-member}
use Rattle.ordered_multimap.proofs.Chains.Neighbours.{first_of-member}
use Rattle.ordered_multimap.proofs.Compact.Lowered.{on-from}
use Rattle.ordered_multimap.proofs.Compact.Relinked.{next_listed, previous_listed}

-- the value that went down is listed
pub moved-listed : {V : Type 0} {old new : Slots V ValueLink} {from to : ℕ} → MovesDown old new from to → IsIn to new.order
moved-listed {to = to} down = subst (IsIn to) (sym down.order.is) (IsIn-right to down.order.front (to ∷ down.order.back) (inl refl))

-- its link names a next place as high as before
pub next-high : {V : Type 0} (by to : ℕ) {old : Slots V ValueLink} {first second : Taped V ValueLink}
    → MovesDown old first.list (by + to) to → IsSome (link_at old (by + to))
    → ((l : ValueLink) → link_at old (by + to) ≡ Some l → NamesHigh by l) → WritesLink first second (Some to) (lowered_previous by)
    → (l : ValueLink) → link_at second.list to ≡ Some l → IfSome l.next (λ p. by ≤ p)
next-high by to {old} down some high w l is =
    let m = held (link_at old (by + to)) some in
    let both : Some l ≡ Some (lowered_previous by m.value) = sym is ∙ w.here to m.value refl (down.link_is ∙ m.is) in
    let same : l ≡ lowered_previous by m.value = cc in
    subst (λ x. IfSome x.next (λ p. by ≤ p)) (sym same) (high m.value m.is).next

pub row-listed : (first n k : ℕ) → k < n → IsIn (first + k) (places_on first n)
row-listed first zero k below = absurd (omega (arith, below))
row-listed first (suc n) zero below = inl (omega arith)
row-listed first (suc n) (suc k) below =
    let step : suc first + k ≡ first + suc k = omega arith in
    inr (subst (λ p. IsIn p (places_on (suc first) n)) step (row-listed (suc first) n k (omega (arith, below))))

-- the links name listed places alone
module _ {K V : Type 0} (by : ℕ) {keys : Slots K KeyLink} {values : Slots V ValueLink} (chains : AreChained keys values)
    (row : values.order ≡ places_on by (length values.order)) where
  high : (q : ℕ) → IsIn q values.order → by ≤ q
  high q i = on-from by (length values.order) q (subst (IsIn q) row i)

  pub names-high : (q : ℕ) (l : ValueLink) → IsIn q values.order → link_at values q ≡ Some l → NamesHigh by l
  names-high q l listed is = record {
    previous = if_each l.previous (λ p e. high p (previous_listed chains.keys_sound chains.sound chains.chained q l listed is p e));
    next = if_each l.next (λ p e. high p (next_listed chains.keys_sound chains.sound chains.chained q l listed is p e));
  }

  pub names-high-ends : (q : ℕ) (l : KeyLink) → IsIn q keys.order → link_at keys q ≡ Some l → NamesHighEnds by l
  names-high-ends q l listed is = record {
    head = high l.head (IsIn-kept (is_value_of values q) l.head values.order
        (first_of-member (chain_of values q) l.head (chains.chained.head q l listed is))).0;
    tail = high l.tail (IsIn-kept (is_value_of values q) l.tail values.order
        (last_of-member (chain_of values q) l.tail (chains.chained.tail q l listed is))).0;
  }
