-- What stands at the place of a key's first value.
use Rattle.std.proofs.Common.{◌≡◌, ℕ, Bool, slice_get, Some, sym, ap, ◌∙◌, subst}
use Rattle.std.specs.Cmp.{IsEquivalence}
use Rattle.std.specs.Ordering.{nat_cmp}
use Rattle.std.specs.FinMap.{FinMap}
use Rattle.multimap_slots.specs.Lists.{IsIn}
use Rattle.multimap_slots.specs.Slots.{Slots, item_at, link_at}
use Rattle.multimap_walks.specs.Chained.{pairs_of, position_in}
use Rattle.multimap_walks.specs.declared.links.KeyLink.{KeyLink}
use Rattle.multimap_walks.specs.declared.links.ValueLink.{ValueLink}
use Rattle.ordered_multimap.specs.Agrees.{Agrees}
use Rattle.ordered_multimap.specs.Pairs.{values_of, with_first_value, with_value_at}
use Rattle.ordered_multimap.specs.Private.Heads.{HasHead, IsHead}
use Rattle.ordered_multimap.proofs.Agreement.LookUps.{first_value, head_listed}
use Rattle.ordered_multimap.proofs.Callers.Places.{held}
use Rattle.ordered_multimap.proofs.Callers.Writes.{head_at-is, with_first_value-head_at}

module _ {K V : Type 0} {eq : K → K → Bool} (laws : IsEquivalence eq) {hash : K
    → ℕ} {keys : Slots K KeyLink} {rows : FinMap nat_cmp ℕ} {values : Slots V ValueLink}
    (agrees : Agrees eq hash keys rows values) where
  pub IsHead-listed : (head : ℕ) → IsHead keys head → IsIn head values.order
  IsHead-listed head h =
      let l = held (link_at keys h.place) (agrees.keys_sound.linked h.place h.listed) in
      subst (λ p. IsIn p values.order) (sym (h.head_is ∙ head_at-is keys h.place l.value l.is))
      (head_listed laws agrees h.place l.value h.listed l.is)

  pub first_value-head : (k : K) (head : ℕ) (v : V) → HasHead eq keys k head → item_at values head ≡ Some v
      → slice_get (values_of eq (pairs_of keys values) k) 0 ≡ Some v
  first_value-head k head v h item_is =
      let l = held (link_at keys h.place) (agrees.keys_sound.linked h.place h.has.listed) in
      first_value laws agrees k h.place l.value v h.has l.is
      (sym (ap (item_at values) (h.head_is ∙ head_at-is keys h.place l.value l.is)) ∙ item_is)

  -- another value there is another first value
  pub with_first_value-head : (k : K) (head : ℕ) → HasHead eq keys k head → (v : V)
      → with_value_at (pairs_of keys values) (position_in values.order head) v ≡ with_first_value eq (pairs_of keys values) k v
  with_first_value-head k head h v =
      let l = held (link_at keys h.place) (agrees.keys_sound.linked h.place h.has.listed) in
      ap (λ p. with_value_at (pairs_of keys values) (position_in values.order p) v) h.head_is
      ∙ with_first_value-head_at laws agrees k h.place l.value h.has l.is v
