-- Whether a new key is taken, by the place that is found of it, and what a call that renames a key returns.
use Rattle.std.proofs.Common.{◌≡◌, ◌≢◌, ◌==◌, ◌&&◌, ◌||◌, find, ℕ, Bool, true, false, not, List, [], ◌∷◌, refl, sym, ap}
use Rattle.std.proofs.Common.{Some, Ok, Err, ◌∙◌, inl, inr, true≢false}
use Rattle.std.proofs.lemmas.Bool.{cases_eq, eq-eqb, ne_eqb}
use Rattle.std.specs.Cmp.{IsEquivalence}
use Rattle.std.specs.List.{list_any}
use Rattle.std.specs.Ordering.{nat_cmp}
use Rattle.std.specs.FinMap.{FinMap}
use Rattle.multimap_slots.specs.Lists.{IsIn}
use Rattle.multimap_slots.specs.Slots.{Slots, item_at}
use Rattle.multimap_walks.specs.declared.links.KeyLink.{KeyLink}
use Rattle.multimap_walks.specs.declared.links.ValueLink.{ValueLink}
use Rattle.ordered_multimap.specs.Agrees.{Agrees, HasKey, items_of}
use Rattle.ordered_multimap.specs.declared.list_ordered_multimap.rename_fault.RenameFault.TheVariants.{Absent, Taken}
use Rattle.ordered_multimap.specs.Keys.{stored_where}
use Rattle.ordered_multimap.specs.Renames.{answer_of, is_taken, rename_answer}
use Rattle.ordered_multimap.proofs.Agreement.LookUps.{same_place, stored_at}
use Rattle.ordered_multimap.proofs.Callers.ListedKeys.{any_member, find_none, find_stored}
use Rattle.ordered_multimap.proofs.Callers.Places.{origin, IsIn-filter_map}
use Rattle.ordered_multimap.proofs.Remove.WholeKeys.{own_place}

-- where no item passes, none is found
none_passes : {X : Type 0} (test : X → Bool) (xs : List X) → ((x : X) → IsIn x xs → test x ≡ false) → list_any test xs ≡ false
none_passes test [] fails = refl
none_passes test (x ∷ xs) fails =
    ap (λ b. b || list_any test xs) (fails x (inl refl)) ∙ none_passes test xs (λ y i. fails y (inr i))

-- whether the new key is taken, by the place that is found of it
module _ {K V : Type 0} {eq : K → K → Bool} (laws : IsEquivalence eq) {hash : K → ℕ} {keys : Slots K KeyLink}
    {rows : FinMap nat_cmp ℕ} {values : Slots V ValueLink} (agrees : Agrees eq hash keys rows values) (k new : K) (place : ℕ)
    (has : HasKey eq keys k place) where
  pub taken-absent : list_any (eq new) (items_of keys) ≡ false → is_taken eq (eq k) new (items_of keys) ≡ false
  taken-absent none = none_passes (λ j. eq new j && not (eq k j)) (items_of keys) (λ j member.
      let P : Bool → Type 0 = λ b. eq new j ≡ b → (b && not (eq k j)) ≡ false in
      elim (eq new j) as P [
        | true ↦ λ e. absurd (true≢false (sym (any_member (eq new) j (items_of keys) member e) ∙ none))
        | false ↦ λ _. refl
      ] refl)

  module _ (q : ℕ) (found : HasKey eq keys new q) where
    taken-here : q ≡ place → is_taken eq (eq k) new (items_of keys) ≡ false
    taken-here same = none_passes (λ j. eq new j && not (eq k j)) (items_of keys) (λ j member.
        let o = origin (item_at keys) j keys.order member in
        let own = own_place laws agrees.distinct k place has o.from o.member j o.gives in
        let P : Bool → Type 0 = λ b. eq new j ≡ b → (b && not (eq k j)) ≡ false in
        elim (eq new j) as P [
          | true ↦ λ e.
              let one = same_place laws keys keys.order agrees.distinct q o.from found.stored j found.listed o.member found.item_is o.gives
              (sym (laws.congr new found.stored j found.equal) ∙ e) in
              ap not (sym own ∙ eq-eqb o.from place (sym one ∙ same))
          | false ↦ λ _. refl
        ] refl)

    taken-elsewhere : q ≢ place → is_taken eq (eq k) new (items_of keys) ≡ true
    taken-elsewhere differs =
        any_member (λ j. eq new j && not (eq k j)) found.stored (items_of keys)
        (IsIn-filter_map (item_at keys) q found.stored keys.order found.listed found.item_is)
        (ap (λ b. b && not (eq k found.stored)) found.equal
        ∙ ap not (sym (own_place laws agrees.distinct k place has q found.listed found.stored found.item_is) ∙ ne_eqb q place differs))

    pub taken-found : is_taken eq (eq k) new (items_of keys) ≡ not (q == place)
    taken-found = elim (cases_eq q place) [
      | inl same ↦ taken-here same ∙ ap not (sym (eq-eqb q place same))
      | inr differs ↦ taken-elsewhere differs ∙ ap not (sym (ne_eqb q place differs))
    ]

  -- the key that stood there is the one that is found
  pub found_old : (old : K) → item_at keys place ≡ Some old → find (eq k) (items_of keys) ≡ Some old
  found_old old is =
      find_stored (eq k) k (items_of keys) (any_member (eq k) has.stored (items_of keys)
      (IsIn-filter_map (item_at keys) place has.stored keys.order has.listed has.item_is) has.equal)
      ∙ ap Some (sym (stored_at laws agrees k place old has is))

-- what comes back
module _ {K : Type 0} (eq : K → K → Bool) (accepts : K → Bool) (new : K) (keys : List K) where
  pub answer-absent : list_any accepts keys ≡ false → rename_answer eq accepts new keys ≡ Err (Absent new)
  answer-absent none = ap (λ o. answer_of o (is_taken eq accepts new keys) new) (find_none accepts keys none)

  pub answer-taken : list_any accepts keys ≡ true → is_taken eq accepts new keys ≡ true
      → rename_answer eq accepts new keys ≡ Err (Taken new)
  answer-taken listed taken =
      ap (λ o. answer_of o (is_taken eq accepts new keys) new) (find_stored accepts new keys listed)
      ∙ ap (λ b. answer_of (Some (stored_where accepts keys new)) b new) taken

  pub answer-renamed : (old : K) → find accepts keys ≡ Some old → is_taken eq accepts new keys ≡ false
      → rename_answer eq accepts new keys ≡ Ok old
  answer-renamed old found free =
      ap (λ o. answer_of o (is_taken eq accepts new keys) new) found ∙ ap (λ b. answer_of (Some old) b new) free
