-- The lists of the walks over all values and over the keys with their values.
use Rattle.std.proofs.Common.{◌≡◌, ℕ, Bool, List, [], ◌∷◌, map, option_map, refl, sym, ap, ◌∙◌, subst, inl, inr}
use Rattle.std.specs.Cmp.{IsEquivalence}
use Rattle.std.specs.List.{filter_map, cons_option}
use Rattle.std.specs.Ordering.{nat_cmp}
use Rattle.std.specs.FinMap.{FinMap}
use Rattle.multimap_slots.specs.Lists.{IsIn, next_of, previous_of}
use Rattle.multimap_slots.specs.Slots.{Slots, item_at}
use Rattle.multimap_walks.specs.declared.links.ChainEnds.{ChainEnds}
use Rattle.multimap_walks.specs.declared.links.KeyLink.{KeyLink}
use Rattle.multimap_walks.specs.declared.links.ValueLink.{ValueLink}
use Rattle.multimap_walks.specs.Along.{AreLeft, items_left, places_left}
use Rattle.multimap_walks.specs.ChainWalk.{ChainWalk}
use Rattle.multimap_walks.specs.Chained.{chain_of, pair_at, pairs_of, positions_at, values_at}
use Rattle.multimap_walks.specs.KeyWalk.{key_values_at, whole_walk}
use Rattle.multimap_walks.proofs.Callers.Paths.{path-is}
use Rattle.ordered_multimap.specs.Agrees.{Agrees, HasKey, lists_of}
use Rattle.ordered_multimap.specs.KeyLists.{each_with_values, with_values, keys_with_values}
use Rattle.ordered_multimap.specs.Pairs.{all_values, values_of}
use Rattle.ordered_multimap.proofs.Agreement.Agreed.{pair_in}
use Rattle.ordered_multimap.proofs.Agreement.LookUps.{values_of-chain, positions_of-chain}
use Rattle.ordered_multimap.proofs.Callers.Places.{held}

module _ {K V : Type 0} {eq : K → K → Bool} {hash : K → ℕ} {keys : Slots K KeyLink} {rows : FinMap nat_cmp ℕ} {values : Slots V ValueLink}
    (agrees : Agrees eq hash keys rows values) where
  values_along : (places : List ℕ) → ((q : ℕ) → IsIn q places → IsIn q values.order)
      → all_values (filter_map (pair_at keys values) places) ≡ values_at values places
  values_along [] listed = refl
  values_along (q ∷ places) listed =
      let p = pair_in agrees q (listed q (inl refl)) in
      ap (λ o. all_values (cons_option o (filter_map (pair_at keys values) places))) p.pair_is
      ∙ ap (λ vs. p.value ∷ vs) (values_along places (λ r later. listed r (inr later)))
      ∙ sym (ap (λ o. cons_option o (values_at values places)) p.value_is)

  -- the values of all pairs are the listed ones
  pub all_values-listed : all_values (pairs_of keys values) ≡ values_at values values.order
  all_values-listed = values_along values.order (λ q member. member)

  module _ (laws : IsEquivalence eq) where
    -- the walk over the values at a key's place is that over the key's values
    whole_walk-key : (k : K) (place : ℕ) → HasKey eq keys k place → (k, whole_walk values place) ≡ with_values eq (pairs_of keys values) k
    whole_walk-key k place has =
        let make : List V → List ℕ → K × ChainWalk V = λ left positions. (k, record { left = left; positions = positions; reads = 0 }) in
        ap (λ vs. make vs (positions_at values (chain_of values place))) (sym (values_of-chain laws agrees k place has))
        ∙ ap (make (values_of eq (pairs_of keys values) k)) (sym (positions_of-chain laws agrees k place has))

    keys_along : (places : List ℕ) → ((q : ℕ) → IsIn q places → IsIn q keys.order)
        → filter_map (key_values_at keys values) places ≡ map (with_values eq (pairs_of keys values)) (filter_map (item_at keys) places)
    keys_along [] listed = refl
    keys_along (q ∷ places) listed =
        let k = held (item_at keys q) (agrees.keys_sound.filled q (listed q (inl refl))) in
        let has : HasKey eq keys k.value q = record {
          listed = listed q
              (inl refl);
          stored = k.value;
          item_is = k.is;
          equal = laws.refl k.value;
        } in
        let one = with_values eq (pairs_of keys values) in
        ap (λ o. cons_option (option_map (λ j. (j, whole_walk values q)) o) (filter_map (key_values_at keys values) places)) k.is
        ∙ ap (λ e. e ∷ filter_map (key_values_at keys values) places) (whole_walk-key k.value q has)
        ∙ ap (λ es. one k.value ∷ es) (keys_along places (λ r later. listed r (inr later)))
        ∙ sym (ap (λ o. map one (cons_option o (filter_map (item_at keys) places))) k.is)

    -- so are the walks over the values at the places of keys that are left
    pub keys_with_values-left : (left : ChainEnds) → AreLeft keys.order left
        → items_left keys.order (key_values_at keys values) left ≡ each_with_values eq (pairs_of keys values)
        (items_left keys.order (item_at keys) left)
    keys_with_values-left left are =
        let places = path-is (λ place. IsIn place keys.order) (next_of keys.order)
        (previous_of keys.order) left.first left.last left.length are in
        keys_along (places_left keys.order left) (λ q member. are.there q (subst (IsIn q) places member))

    -- the listed keys with their walks are those of the lists
    pub keys_with_values-listed : filter_map (key_values_at keys values) keys.order ≡ keys_with_values eq (lists_of keys values)
    keys_with_values-listed = keys_along keys.order (λ q member. member)
