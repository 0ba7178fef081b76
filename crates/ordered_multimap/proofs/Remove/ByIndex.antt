-- The value at an index of a key's chain has left, where the key has others: key list, table and values agree, and the lists are without
-- its pair.
use Rattle.std.proofs.Common.{◌≡◌, ℕ, ◌+◌, ◌/◌, ◌≤◌, Bool, List, length, slice_get, option_map, option_and_then, Option, Some, None, IsSome}
use Rattle.std.proofs.Common.{sym, ap, ◌∙◌, subst, refl}
use Rattle.std.proofs.lemmas.Option.{slice_get-map}
use Rattle.std.specs.Cmp.{IsEquivalence}
use Rattle.std.specs.List.{remove}
use Rattle.std.specs.Ordering.{nat_cmp}
use Rattle.std.specs.FinMap.{FinMap}
use Rattle.multimap_slots.specs.Lists.{IsIn}
use Rattle.multimap_slots.specs.Slots.{Slots, item_at}
use Rattle.multimap_slots.specs.Tapes.{Taped, HasTapeRoomFor}
use Rattle.multimap_walks.specs.declared.links.KeyLink.{KeyLink}
use Rattle.multimap_walks.specs.declared.links.ValueLink.{ValueLink}
use Rattle.multimap_walks.specs.Chained.{position_in, chain_of, pair_at, pairs_of}
use Rattle.ordered_multimap.specs.Agrees.{Agrees, HasKey, HasKeyWhere, items_of, lists_of}
use Rattle.ordered_multimap.specs.Lists.{Lists, lists}
use Rattle.ordered_multimap.specs.RemovedAt.{several, position_beside, removed_at, removable_value_at}
use Rattle.ordered_multimap.specs.Private.Relocations.{KeepsCapacities}
use Rattle.ordered_multimap.specs.Private.RemoveAt.{TakesAt, TakesIndexed}
use Rattle.ordered_multimap.proofs.Agreement.Agreed.{pair_in}
use Rattle.ordered_multimap.proofs.Chains.Indexes.{indexed_listed, of_several, several-map, several_shown, shown_without}
use Rattle.ordered_multimap.proofs.Agreement.LookUps.{positions_of-chain, values_of-chain}
use Rattle.ordered_multimap.proofs.Remove.OneValue.{agrees-one, items_of-one, pair_at-one}
use Rattle.ordered_multimap.proofs.Remove.AtEnds.{fits-freed, pairs_of-without}
use Rattle.ordered_multimap.proofs.Remove.ValueByValue.{in_list}

module _ {K V : Type 0} {eq : K → K → Bool} {hash : K → ℕ} {keys : Slots K KeyLink} {rows : FinMap nat_cmp ℕ} {values : Slots V ValueLink}
    (agrees : Agrees eq hash keys rows values) (key index : ℕ) where
  -- the position of the value at the index is that of its place
  module _ (laws : IsEquivalence eq) (k : K) (has : HasKey eq keys k key) where
    position_is : (p : Option ℕ) → slice_get (several (chain_of values key)) index ≡ p
        → position_beside eq (pairs_of keys values) k index ≡ option_map (position_in values.order) p
    position_is p is =
        ap (λ ps. slice_get (several ps) index) (positions_of-chain laws agrees k key has)
        ∙ ap (λ ps. slice_get ps index) (several-map (position_in values.order) (chain_of values key))
        ∙ slice_get-map (position_in values.order) (several (chain_of values key)) index ∙ ap (option_map (position_in values.order)) is

    -- the lists without the pair at a position, if there is one
    abbrev lists_without : Option ℕ → Lists K V
    lists_without p = lists (items_of keys) (elim p as
        (λ _. List (K × V)) [ None ↦ pairs_of keys values | Some i ↦ remove (pairs_of keys values) i ])

    without_is : (p : Option ℕ) → slice_get (several (chain_of values key)) index ≡ p
        → lists_without (option_map (position_in values.order) p) ≡ removed_at eq (lists_of keys values) k index
    without_is p is = sym (ap lists_without (position_is p is))

  module _ (keys_after : Slots K KeyLink) (values_after : Slots V ValueLink) where
    -- the place is listed
    taken_listed : (v : V) (takes : TakesIndexed keys keys_after values values_after key index v) → IsIn takes.place values.order
    taken_listed v takes = indexed_listed values key index takes.place (of_several (chain_of values key) index takes.place takes.place_is)

    pub agrees-at : (o : Option V) → TakesAt keys keys_after values values_after key index o → Agrees eq hash keys_after rows values_after
    agrees-at None lacks = subst (λ ks. Agrees eq hash ks rows values_after) (sym lacks.keys_are)
        (subst (Agrees eq hash keys rows) (sym lacks.values_are) agrees)
    agrees-at (Some v) takes = agrees-one agrees takes.place (taken_listed v takes) takes.one

    module _ (laws : IsEquivalence eq) (k : K) (has : HasKey eq keys k key) where
      -- what was taken is the value at the index
      pub value_is-at : (o : Option V) → TakesAt keys keys_after values values_after key index o
          → o ≡ removable_value_at eq (pairs_of keys values) k index
      value_is-at o takes =
          shown o takes
          ∙ sym (ap (λ vs. slice_get (several vs) index) (values_of-chain laws agrees k key has)
          ∙ several_shown (item_at values) (chain_of values key) index
          (λ q i. agrees.values_sound.filled q (in_list agrees.values_sound agrees.chained key q i).0))
        where
          shown : (o : Option V) → TakesAt keys keys_after values values_after key index o
              → o ≡ option_and_then (item_at values) (slice_get (several (chain_of values key)) index)
          shown None lacks = sym (ap (option_and_then (item_at values)) lacks.no_place)
          shown (Some v) taken = sym (ap (option_and_then (item_at values)) taken.place_is ∙ taken.one.had)

      -- and the lists are without its pair
      pub lists_of-at : (o : Option V) → TakesAt keys keys_after values values_after key index o
          → lists_of keys_after values_after ≡ removed_at eq (lists_of keys values) k index
      lists_of-at None lacks =
          ap (λ ks. lists_of ks values_after) lacks.keys_are ∙ ap (lists_of keys) lacks.values_are
          ∙ without_is laws k has None lacks.no_place
      lists_of-at (Some v) takes =
          let listed = taken_listed v takes in
          let same = pair_at-one agrees takes.place listed takes.one in
          let shown = shown_without (pair_at keys values) values.order takes.place agrees.values_sound.distinct
          (λ q i. subst IsSome (sym (pair_in agrees q i).pair_is) refl) listed in
          ap (λ js. lists js (pairs_of keys_after values_after)) (items_of-one agrees takes.place listed takes.one)
          ∙ ap (lists (items_of keys)) (pairs_of-without keys keys_after values values_after takes.place takes.one.order same ∙ shown)
          ∙ without_is laws k has (Some takes.place) takes.place_is

module _ {K V : Type 0} (keys keys_after : Slots K KeyLink) (key index : ℕ) where
  -- the rest fits
  pub fits-at : (values values_after : Taped V ValueLink) (o : Option V)
      → TakesAt keys keys_after values.list values_after.list key index o → HasTapeRoomFor values 0 → HasTapeRoomFor values_after 0
  fits-at values values_after None lacks fits = subst (λ (s : Slots V ValueLink). length s.order + 0 ≤ s.capacity / 2)
      (sym lacks.values_are) fits
  fits-at values values_after (Some v) takes fits = fits-freed values values_after takes.place takes.one.order takes.one.capacity fits

  -- the key stays at its place
  pub stays-at : (values values_after : Slots V ValueLink) (o : Option V) → TakesAt keys keys_after values values_after key index o
      → (accepts : K → Bool) (place : ℕ) → HasKeyWhere accepts keys place → HasKeyWhere accepts keys_after place
  stays-at values values_after None lacks accepts place has = subst (λ s. HasKeyWhere accepts s place) (sym lacks.keys_are) has
  stays-at values values_after (Some v) takes accepts place has =
      subst (λ s. HasKeyWhere accepts s place) (sym takes.one.keys_are)
      (record { listed = has.listed; stored = has.stored; item_is = has.item_is; equal = has.equal })

  -- keys and values have as many slots as before
  pub capacities-at : (values values_after : Taped V ValueLink) (o : Option V)
      → TakesAt keys keys_after values.list values_after.list key index o → KeepsCapacities keys keys_after values values_after
  capacities-at values values_after None lacks = record {
    keys_capacity = ap (λ (s : Slots K KeyLink). s.capacity) lacks.keys_are;
    capacity = ap (λ (s : Slots V ValueLink). s.capacity) lacks.values_are;
  }
  capacities-at values values_after (Some v) takes = record {
    keys_capacity = ap (λ (s : Slots K KeyLink). s.capacity) takes.one.keys_are;
    capacity = takes.one.capacity;
  }
