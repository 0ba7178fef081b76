-- Another first value of a key, which is put there at once: the map stays one, and its lists have that value.
use Rattle.std.proofs.Common.{◌≡◌, ℕ, Bool, Some, sym, ap, ◌∙◌, subst}
use Rattle.std.specs.Cmp.{IsEquivalence}
use Rattle.std.specs.Ordering.{nat_cmp}
use Rattle.std.specs.FinMap.{FinMap}
use Rattle.multimap_slots.specs.Lists.{IsIn}
use Rattle.multimap_slots.specs.Slots.{Slots, link_at, with_item}
use Rattle.multimap_slots.specs.Tapes.{Taped, with_list}
use Rattle.multimap_walks.specs.declared.links.KeyLink.{KeyLink}
use Rattle.multimap_walks.specs.declared.links.ValueLink.{ValueLink}
use Rattle.multimap_walks.specs.Chained.{position_in, pairs_of}
use Rattle.ordered_multimap.specs.Agrees.{HasKey, IsMap, items_of, lists_of}
use Rattle.ordered_multimap.specs.Changes.{first_written}
use Rattle.ordered_multimap.specs.Lists.{lists}
use Rattle.ordered_multimap.specs.Pairs.{with_value_at}
use Rattle.ordered_multimap.proofs.Agreement.LookUps.{head_listed}
use Rattle.ordered_multimap.proofs.Callers.Writes.{IsMap-with_item, head_at-is, pairs_of-with_item, with_first_value-head_at}

module _ {K V : Type 0} {eq : K → K → Bool} (laws : IsEquivalence eq) {hash : K → ℕ} {keys : Slots K KeyLink} {rows : FinMap nat_cmp ℕ}
    {values values_after : Taped V ValueLink} (is_map : IsMap eq hash keys rows values) (place : ℕ) (link : KeyLink) (v : V)
    (listed : IsIn place keys.order) (link_is : link_at keys place ≡ Some link)
    (written : values_after ≡ with_list values (with_item values.list link.head v)) where
  head_is : IsIn link.head values.list.order
  head_is = head_listed laws is_map.agrees place link listed link_is

  pub map-rewritten : IsMap eq hash keys rows values_after
  map-rewritten = subst (IsMap eq hash keys rows) (sym written) (IsMap-with_item is_map link.head head_is v)

  pub lists_of-rewritten : (k : K) → HasKey eq keys k place
      → lists_of keys values_after.list ≡ first_written eq (lists_of keys values.list) k v
  lists_of-rewritten k has =
      ap (λ (t : Taped V ValueLink). lists_of keys t.list) written
      ∙ ap (lists (items_of keys)) (pairs_of-with_item is_map.agrees link.head head_is v
      ∙ ap (λ head. with_value_at (pairs_of keys values.list) (position_in values.list.order head) v) (sym (head_at-is keys place link link_is))
      ∙ with_first_value-head_at laws is_map.agrees k place link has link_is v)
