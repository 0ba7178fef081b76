-- What a call that makes a drain answers: the stored key, and the values that are left.
use Rattle.std.proofs.Common.{◌≡◌, ℕ, Bool, [], ◌∷◌, ◌++◌, refl, sym, ap, ◌∙◌}
use Rattle.std.proofs.lemmas.List.Elements.{filter_map-append}
use Rattle.std.specs.Cmp.{IsEquivalence}
use Rattle.std.specs.List.{cons_option}
use Rattle.std.specs.Ordering.{nat_cmp}
use Rattle.std.specs.FinMap.{FinMap}
use Rattle.multimap_slots.specs.Slots.{Slots, item_at}
use Rattle.multimap_walks.specs.declared.links.KeyLink.{KeyLink}
use Rattle.multimap_walks.specs.declared.links.ValueLink.{ValueLink}
use Rattle.multimap_walks.specs.declared.links.ChainEnds.{ChainEnds}
use Rattle.multimap_walks.specs.Chained.{pairs_of, values_at}
use Rattle.ordered_multimap.specs.Keys.{stored_key}
use Rattle.ordered_multimap.specs.Pairs.{values_of}
use Rattle.ordered_multimap.specs.Agrees.{Agrees, HasKey, items_of}
use Rattle.ordered_multimap.specs.Detaches.{drained}
use Rattle.ordered_multimap.specs.Private.Remove.{InsertsBehind}
use Rattle.ordered_multimap.proofs.Callers.ListedKeys.{is_listed-member, stored_key_member}
use Rattle.ordered_multimap.proofs.Agreement.Kept.{push_inj}
use Rattle.ordered_multimap.proofs.Callers.Places.{IsIn-filter_map, held}
use Rattle.ordered_multimap.proofs.Agreement.LookUps.{values_of-chain}
use Rattle.ordered_multimap.proofs.Append.Inserted.{pushed_agrees, pushed_has, pushed_pairs, values_of-append}
use Rattle.ordered_multimap.proofs.Remove.OlderValues.{parts, tail_own}

module _ {K V : Type 0} {eq : K → K → Bool} (laws : IsEquivalence eq) {hash : K
    → ℕ} {keys : Slots K KeyLink} {rows : FinMap nat_cmp ℕ} {values : Slots V ValueLink}
    (agrees : Agrees eq hash keys rows values) (k : K) where
  -- an insertion leaves the old values to the drain
  pub left-inserted : (v : V) (place : ℕ) (has : HasKey eq keys k place) {keys_after : Slots K KeyLink} {values_after : Slots V ValueLink}
      (ends : ChainEnds)
      → (d : InsertsBehind keys keys_after values values_after place v)
      → drained values_after ends ≡ values_at d.pushed_values d.older.taking.gone
      → drained values_after ends ≡ values_of eq (pairs_of keys values) k
  left-inserted v place has ends d left =
      let after = pushed_agrees laws agrees k v place has d in
      let there = pushed_has laws agrees k v place has d in
      let tail = d.older.link.tail in
      let item = held (item_at d.pushed_values tail)
      (after.values_sound.filled tail (tail_own laws after k place there d.older).0) in
      let listed = is_listed-member laws k has.stored (items_of keys)
      (IsIn-filter_map (item_at keys) place has.stored keys.order has.listed has.item_is) has.equal in
      let own = (stored_key_member laws k (items_of keys) listed).1 in
      let alone : values_of eq ((stored_key eq (items_of keys) k, v) ∷ []) k ≡ v ∷ [] = rw own refl in
      left
      ∙ sym (push_inj (values_of eq (pairs_of keys values) k) (values_at d.pushed_values d.older.taking.gone) v item.value
      (ap (λ vs. values_of eq (pairs_of keys values) k ++ vs) (sym alone)
      ∙ sym (values_of-append eq k (pairs_of keys values) ((stored_key eq (items_of keys) k, v) ∷ []))
      ∙ ap (λ ps. values_of eq ps k) (sym (pushed_pairs laws agrees k v place has d))
      ∙ values_of-chain laws after k place there
      ∙ ap (values_at d.pushed_values) (parts laws after k place there d.older)
      ∙ filter_map-append (item_at d.pushed_values) d.older.taking.gone (tail ∷ [])
      ∙ ap (λ o. values_at d.pushed_values d.older.taking.gone ++ cons_option o []) item.is)).0
