-- The value at an index of a key's chain has left, and the key with its only one: key list, table and values agree, and the lists are
-- without its pair.
use Rattle.std.proofs.Common.{◌≡◌, ℕ, Bool, List, slice_get, Option, Some, None}
use Rattle.std.proofs.Common.{option_and_then, option_map, IsSome, refl, sym, ap, ◌∙◌, subst}
use Rattle.std.proofs.lemmas.Option.{slice_get-map}
use Rattle.std.specs.Cmp.{IsEquivalence}
use Rattle.std.specs.List.{remove}
use Rattle.std.specs.Ordering.{nat_cmp}
use Rattle.std.specs.FinMap.{FinMap}
use Rattle.multimap_slots.specs.Lists.{IsIn}
use Rattle.multimap_slots.specs.Slots.{Slots, item_at}
use Rattle.multimap_slots.specs.Tapes.{Taped, HasTapeRoomFor}
use Rattle.multimap_table.specs.Table.{Table}
use Rattle.multimap_walks.specs.declared.links.KeyLink.{KeyLink}
use Rattle.multimap_walks.specs.declared.links.ValueLink.{ValueLink}
use Rattle.multimap_walks.specs.Chained.{position_in, chain_of, pair_at, pairs_of}
use Rattle.ordered_multimap.specs.Agrees.{Agrees, HasKey, lists_of}
use Rattle.ordered_multimap.specs.Changes.{kept}
use Rattle.ordered_multimap.specs.Lists.{lists}
use Rattle.ordered_multimap.specs.OneValue.{index_removed}
use Rattle.ordered_multimap.specs.Pairs.{positions_where, values_of}
use Rattle.ordered_multimap.specs.Private.RemoveAt.{TakesPairAt, TakesPairIndexed}
use Rattle.ordered_multimap.specs.Private.RemoveOne.{TakesByKey}
use Rattle.ordered_multimap.specs.declared.list_ordered_multimap.remove.one.TakenKey.{TakenKey}
use Rattle.ordered_multimap.specs.declared.list_ordered_multimap.remove.one.TakenKey.TheVariants.{Kept, Gone}
use Rattle.ordered_multimap.proofs.Agreement.Agreed.{pair_in}
use Rattle.ordered_multimap.proofs.Agreement.LookUps.{positions_of-chain, values_of-chain}
use Rattle.ordered_multimap.proofs.Chains.Indexes.{indexed_listed, indexed_shown, shown_without}
use Rattle.ordered_multimap.proofs.Remove.AtEnds.{fits-freed, pairs_of-without}
use Rattle.ordered_multimap.proofs.Remove.OnePair.{LeavesAt, leaves_at, named_by-all}
use Rattle.ordered_multimap.proofs.Remove.ValueByValue.{in_list}

-- the value that a pair leaves with stood at its place
value_had : {K V : Type 0} (keys keys_after : Slots K KeyLink) (rows rows_after : FinMap nat_cmp ℕ) (values values_after : Slots V ValueLink)
    (place : ℕ) (v : V) (key : TakenKey K) → TakesByKey keys keys_after rows rows_after values values_after place v key
    → item_at values place ≡ Some v
value_had keys keys_after rows rows_after values values_after place v (Kept key) beside = beside.one.had
value_had keys keys_after rows rows_after values values_after place v (Gone key) last = last.had

module _ {K V : Type 0} {eq : K → K → Bool} (laws : IsEquivalence eq) {hash : K → ℕ} (keys : Slots K KeyLink) (table : Table)
    (values : Taped V ValueLink) (agrees : Agrees eq hash keys table.rows values.list) (key index : ℕ) where
  module _ (k : K) (has : HasKey eq keys k key) where
    position_is : (p : Option ℕ) → slice_get (chain_of values.list key) index ≡ p
        → slice_get (positions_where (eq k) (pairs_of keys values.list)) index ≡ option_map (position_in values.list.order) p
    position_is p is =
        ap (λ ps. slice_get ps index) (positions_of-chain laws agrees k key has)
        ∙ slice_get-map (position_in values.list.order) (chain_of values.list key) index ∙ ap (option_map (position_in values.list.order)) is

    -- the lists without the pair at a position, if there is one
    without_is : (p : Option ℕ) → slice_get (chain_of values.list key) index ≡ p
        → kept eq (lists_of keys values.list) (elim (option_map (position_in values.list.order) p) as (λ _. List (K × V)) [
          | None ↦ pairs_of keys values.list
          | Some i ↦ remove (pairs_of keys values.list) i
        ]) ≡ index_removed eq (eq k) (lists_of keys values.list) index
    without_is p is = sym (ap (λ o. kept eq (lists_of keys values.list) (elim o as (λ _. List (K × V)) [
      | None ↦ pairs_of keys values.list
      | Some i ↦ remove (pairs_of keys values.list) i
    ])) (position_is p is))

  module _ (keys_after : Slots K KeyLink) (table_after : Table) (values_after : Taped V ValueLink) where
    taken_listed : (v : V) (takes : TakesPairIndexed keys keys_after table table_after values values_after key index v)
        → IsIn takes.place values.list.order
    taken_listed v takes = indexed_listed values.list key index takes.place takes.place_is

    taken_leaves : (v : V) (takes : TakesPairIndexed keys keys_after table table_after values values_after key index v)
        → LeavesAt eq hash keys keys_after table_after.rows values.list values_after.list takes.place
    taken_leaves v takes = leaves_at laws agrees takes.place (taken_listed v takes) takes.taken takes.leaves.takes

    pub agrees-out : (o : Option V) → TakesPairAt keys keys_after table table_after values values_after key index o
        → Agrees eq hash keys_after table_after.rows values_after.list
    agrees-out None lacks =
        subst (λ ks. Agrees eq hash ks table_after.rows values_after.list) (sym lacks.keys_are)
        (subst (λ (t : Table). Agrees eq hash keys t.rows values_after.list) (sym lacks.table_is)
        (subst (λ (t : Taped V ValueLink). Agrees eq hash keys table.rows t.list) (sym lacks.values_are) agrees))
    agrees-out (Some v) takes = (taken_leaves v takes).agrees

    -- the rest fits
    pub fits-out : (o : Option V) → TakesPairAt keys keys_after table table_after values values_after key index o
        → HasTapeRoomFor values 0 → HasTapeRoomFor values_after 0
    fits-out None lacks fits = subst (λ (t : Taped V ValueLink). HasTapeRoomFor t 0) (sym lacks.values_are) fits
    fits-out (Some v) takes fits = fits-freed values values_after takes.place (taken_leaves v takes).order takes.leaves.room.value_room fits

    module _ (k : K) (has : HasKey eq keys k key) where
      -- what was taken is the value at the index
      pub value_is-out : (o : Option V) → TakesPairAt keys keys_after table table_after values values_after key index o
          → o ≡ slice_get (values_of eq (pairs_of keys values.list) k) index
      value_is-out o takes =
          shown o takes
          ∙ sym (ap (λ vs. slice_get vs index) (values_of-chain laws agrees k key has)
          ∙ indexed_shown (item_at values.list) (chain_of values.list key) index
          (λ q i. agrees.values_sound.filled q (in_list agrees.values_sound agrees.chained key q i).0))
        where
          shown : (o : Option V) → TakesPairAt keys keys_after table table_after values values_after key index o
              → o ≡ option_and_then (item_at values.list) (slice_get (chain_of values.list key) index)
          shown None lacks = sym (ap (option_and_then (item_at values.list)) lacks.no_place)
          shown (Some v) takes = sym (ap (option_and_then (item_at values.list)) takes.place_is
              ∙ value_had _ _ _ _ _ _ takes.place takes.taken.value takes.taken.key takes.leaves.takes ∙ ap Some takes.value_is)

      -- and the lists are without its pair
      pub lists_of-out : (o : Option V) → TakesPairAt keys keys_after table table_after values values_after key index o
          → lists_of keys_after values_after.list ≡ index_removed eq (eq k) (lists_of keys values.list) index
      lists_of-out None lacks =
          ap (λ ks. lists_of ks values_after.list) lacks.keys_are ∙ ap (λ (t : Taped V ValueLink). lists_of keys t.list) lacks.values_are
          ∙ ap (λ ks. lists ks (pairs_of keys values.list)) (named_by-all laws agrees)
          ∙ without_is k has None lacks.no_place
      lists_of-out (Some v) takes =
          let left = taken_leaves v takes in
          let shown = shown_without (pair_at keys values.list) values.list.order takes.place agrees.values_sound.distinct
          (λ q i. subst IsSome (sym (pair_in agrees q i).pair_is) refl) (taken_listed v takes) in
          let pairs_are = pairs_of-without keys keys_after values.list values_after.list takes.place left.order left.same ∙ shown in
          ap (λ ks. lists ks (pairs_of keys_after values_after.list)) left.keys_are
          ∙ ap (kept eq (lists_of keys values.list)) pairs_are
          ∙ without_is k has (Some takes.place) takes.place_is
