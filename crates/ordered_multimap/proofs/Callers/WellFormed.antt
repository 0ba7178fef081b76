-- Each change leaves well-formed lists.
use Rattle.std.proofs.Common.{◌≡◌, ◌⊎◌, ℕ, zero, suc, ◌-◌, Bool, true, false, not, cond, length, take, slice_get, Option, Some, None, ap}
use Rattle.std.proofs.Common.{List, [], ◌∷◌, ◌++◌, refl, sym, ◌∙◌, subst, inl, inr, true≢false}
use Rattle.std.specs.List.{IsDistinct, list_any}
use Rattle.std.specs.Map.{keys_of}
use Rattle.std.specs.Cmp.{IsEquivalence}
use Rattle.multimap_slots.specs.Lists.{IsIn}
use Rattle.ordered_multimap.specs.Lists.{Lists, lists, empty_lists, IsWellFormed}
use Rattle.ordered_multimap.specs.Pairs.{has_items, is_present, pairs_without, positions_of, with_value_at, with_first_value, end_position}
use Rattle.ordered_multimap.specs.Keys.{is_listed, stored_key, keys_with}
use Rattle.ordered_multimap.specs.Changes.{appended, inserted, kept, removed, first_written, end_written}
use Rattle.ordered_multimap.specs.Popped.{popped}
use Rattle.multimap_walks.specs.declared.End.{End}
use Rattle.multimap_walks.specs.declared.End.TheVariants.{Front, Back}
use Rattle.multimap_walks.specs.Walk.{end_rest}
use Rattle.multimap_slots.proofs.Callers.PlaceLists.{IsIn-append, IsIn-kept, IsIn-left, IsIn-right}
use Rattle.ordered_multimap.proofs.Callers.Members.{IsIn-filter, keys_of-append, keys_of-filter}
use Rattle.ordered_multimap.proofs.Agreement.Kept.{keys_of-without}
use Rattle.ordered_multimap.proofs.Callers.ListedKeys.{any_found, any_member, is_listed-self}
use Rattle.ordered_multimap.proofs.Callers.ListedKeys.{is_present-is_listed, stored_key_member}
use Rattle.ordered_multimap.proofs.Callers.ListedKeys.{stored_key_only}
use Rattle.ordered_multimap.proofs.Callers.ListedKeys.{IsDistinct-filter, keys_with-stored_key, keys_with-old, keys_with-cases}
use Rattle.ordered_multimap.proofs.Callers.ListedKeys.{keys_with-distinct}

pub empty_well_formed : {K V : Type 0} (eq : K → K → Bool) → IsWellFormed {V = V} eq empty_lists
unfolding IsDistinct
empty_well_formed eq = record { distinct = tt; listed = λ k member. member; used = λ k member. member }

-- the keys of the first pairs, and of those behind the first one
keys_of-take : {K V : Type 0} (n : ℕ) (pairs : List (K × V)) (j : K) → IsIn j (keys_of (take n pairs)) → IsIn j (keys_of pairs)
keys_of-take zero pairs j member = absurd member
keys_of-take (suc n) [] j member = absurd member
keys_of-take (suc n) (p ∷ pairs) j member = elim member [ inl here ↦ inl here | inr later ↦ inr (keys_of-take n pairs j later) ]

rest_keys : {K V : Type 0} (end : End) (pairs : List (K × V)) (j : K) → IsIn j (keys_of (end_rest end pairs)) → IsIn j (keys_of pairs)
rest_keys Front [] j member = absurd member
rest_keys Front (p ∷ pairs) j member = inr member
rest_keys Back pairs j member = keys_of-take (length pairs - 1) pairs j member

-- the pairs name a key that a test accepts exactly if one is listed
pub same_any : {K V : Type 0} {eq : K → K → Bool} (accepts : K → Bool) (m : Lists K V) → IsWellFormed eq m
    → list_any accepts (keys_of m.pairs) ≡ list_any accepts m.keys
same_any accepts m formed =
    let P : Bool → Type 0 = λ b. list_any accepts m.keys ≡ b → list_any accepts (keys_of m.pairs) ≡ b in
    let Q : Bool → Type 0 = λ b. list_any accepts (keys_of m.pairs) ≡ b → list_any accepts m.keys ≡ false → b ≡ false in
    elim (list_any accepts m.keys) as P [
      | true ↦ λ e. let f = any_found accepts m.keys e in any_member accepts f.0 (keys_of m.pairs) (formed.used f.0 f.1.0) f.1.1
      | false ↦ λ e. elim (list_any accepts (keys_of m.pairs)) as Q [
        | true ↦ λ found absent. let f = any_found accepts (keys_of m.pairs) found in
            absurd (true≢false (sym (any_member accepts f.0 m.keys (formed.listed f.0 f.1.0) f.1.1) ∙ absent))
        | false ↦ λ _ _. refl
      ] refl e
    ] refl

module _ {K V : Type 0} {eq : K → K → Bool} (laws : IsEquivalence eq) where
  -- the pairs name a key exactly if it is listed
  pub same_keys : (m : Lists K V) (k : K) → IsWellFormed eq m → is_listed eq (keys_of m.pairs) k ≡ is_listed eq m.keys k
  same_keys m k formed = same_any (eq k) m formed

  -- so a key is present exactly if it is listed
  pub is_present-keys : (m : Lists K V) (k : K) → IsWellFormed eq m → is_present eq m.pairs k ≡ is_listed eq m.keys k
  is_present-keys m k formed = is_present-is_listed eq k m.pairs ∙ same_keys m k formed

  -- a pair goes last behind pairs that name the old keys, but perhaps its own
  put_last : (m : Lists K V) (pairs : List (K × V)) (k : K) (v : V) → IsWellFormed eq m
      → ((j : K) → IsIn j (keys_of pairs) → IsIn j (keys_of m.pairs))
      → ((j : K) → IsIn j m.keys → IsIn j (keys_of pairs) ⊎ (stored_key eq m.keys k ≡ j))
      → IsWellFormed eq (lists (keys_with eq m.keys k) (pairs ++ (stored_key eq m.keys k, v) ∷ []))
  put_last m pairs k v formed old rest = record {
    distinct = keys_with-distinct laws k m.keys formed.distinct;
    listed = λ j member. elim (IsIn-append j (keys_of pairs) (stored_key eq m.keys k ∷ [])
        (subst (IsIn j) (keys_of-append pairs _) member)) [
          | inl among ↦ keys_with-old laws k j m.keys (formed.listed j (old j among))
          | inr last ↦ elim last [
            | inl here ↦ subst (λ i. IsIn i (keys_with eq m.keys k)) (sym here)
                (keys_with-stored_key laws k m.keys)
            | inr never ↦ absurd never
          ]
        ];
    used = λ j member. subst (IsIn j) (sym (keys_of-append pairs _)) (elim (keys_with-cases laws k j m.keys member) [
      | inl among ↦ elim (rest j among) [
        | inl named ↦ IsIn-left j (keys_of pairs) _ named
        | inr here ↦ IsIn-right j (keys_of pairs) _ (inl (sym here))
      ]
      | inr here ↦ IsIn-right j (keys_of pairs) _ (inl (sym here))
    ]);
  }

  pub appended_well_formed : (m : Lists K V) (k : K) (v : V) → IsWellFormed eq m → IsWellFormed eq (appended eq m k v)
  appended_well_formed m k v formed = put_last m m.pairs k v formed (λ j member. member) (λ j member. inl (formed.used j member))

  -- some of the pairs stay
  pub kept_well_formed : (m : Lists K V) (pairs : List (K × V)) → IsWellFormed eq m
      → ((j : K) → IsIn j (keys_of pairs) → IsIn j (keys_of m.pairs)) → IsWellFormed eq (kept eq m pairs)
  kept_well_formed m pairs formed old = record {
    distinct = IsDistinct-filter laws _ m.keys formed.distinct;
    listed = λ j member. IsIn-filter (is_listed eq (keys_of pairs)) j m.keys (is_listed-self laws j (keys_of pairs) member)
        (formed.listed j (old j member));
    used = λ j member.
        let found = IsIn-kept (is_listed eq (keys_of pairs)) j m.keys member in
        let s = stored_key_member laws j (keys_of pairs) found.1 in
        let own : stored_key eq m.keys j ≡ j = stored_key_only laws j j m.keys formed.distinct found.0 (laws.refl j) in
        let other : stored_key eq m.keys j ≡ stored_key eq (keys_of pairs) j = stored_key_only laws j _ m.keys formed.distinct
        (formed.listed _ (old _ s.0)) s.1 in
        subst (λ k. IsIn k (keys_of pairs)) (sym other ∙ own) s.0;
  }

  pub removed_well_formed : (m : Lists K V) (k : K) → IsWellFormed eq m → IsWellFormed eq (removed eq m k)
  removed_well_formed m k formed = kept_well_formed m (pairs_without eq m.pairs k) formed
      (λ j member. keys_of-filter (λ p. not (eq k p.0)) j m.pairs member)

  -- the old pairs of a key go, and a pair of it comes
  pub inserted_well_formed : (m : Lists K V) (k : K) (v : V) → IsWellFormed eq m → IsWellFormed eq (inserted eq m k v)
  inserted_well_formed m k v formed =
      put_last m (pairs_without eq m.pairs k) k v formed (λ j member. keys_of-filter (λ p. not (eq k p.0)) j m.pairs member) named
    where
      named : (j : K) → IsIn j m.keys → IsIn j (keys_of (pairs_without eq m.pairs k)) ⊎ (stored_key eq m.keys k ≡ j)
      named j member =
          let Named : Type 0 = IsIn j (keys_of (pairs_without eq m.pairs k)) ⊎ (stored_key eq m.keys k ≡ j) in
          elim (eq k j) as (λ b. eq k j ≡ b → Named) [
            | true ↦ λ e. inr (stored_key_only laws k j m.keys formed.distinct member e)
            | false ↦ λ e. inl (subst (IsIn j) (sym (keys_of-without eq k m.pairs))
                (IsIn-filter (λ i. not (eq k i)) j (keys_of m.pairs) (ap not e) (formed.used j member)))
          ] refl

  -- a pair goes at an end
  pub popped_well_formed : (end : End) (m : Lists K V) → IsWellFormed eq m → IsWellFormed eq (popped eq end m)
  popped_well_formed end m formed = elim (has_items m.pairs) as (λ b. IsWellFormed eq (cond b (kept eq m (end_rest end m.pairs)) m)) [
    | true ↦ kept_well_formed m (end_rest end m.pairs) formed (rest_keys end m.pairs)
    | false ↦ formed
  ]

-- the keys of the pairs stay where a value is written
keys_of-with_value_at : {K V : Type 0} (pairs : List (K × V)) (i : ℕ) (v : V) → keys_of (with_value_at pairs i v) ≡ keys_of pairs
keys_of-with_value_at [] i v = refl
keys_of-with_value_at (p ∷ pairs) zero v = refl
keys_of-with_value_at (p ∷ pairs) (suc i) v = ap (λ keys. p.0 ∷ keys) (keys_of-with_value_at pairs i v)

module _ {K V : Type 0} {eq : K → K → Bool} (m : Lists K V) (formed : IsWellFormed eq m) where
  -- other pairs under the same keys
  same_keys_well_formed : (pairs : List (K × V)) → keys_of pairs ≡ keys_of m.pairs → IsWellFormed eq (lists m.keys pairs)
  same_keys_well_formed pairs same = record {
    distinct = formed.distinct;
    listed = λ j member. formed.listed j (subst (IsIn j) same member);
    used = λ j member. subst (IsIn j) (sym same) (formed.used j member);
  }

  pub first_written_well_formed : (k : K) (v : V) → IsWellFormed eq (first_written eq m k v)
  first_written_well_formed k v = same_keys_well_formed (with_first_value eq m.pairs k v) (
      elim (slice_get (positions_of eq m.pairs k) 0) as
      (λ (o : Option ℕ). keys_of (elim o as (λ _. List (K × V)) [ None ↦ m.pairs | Some i ↦ with_value_at m.pairs i v ]) ≡ keys_of
      m.pairs) [
        | None ↦ refl
        | Some i ↦ keys_of-with_value_at m.pairs i v
      ]
      )

  pub end_written_well_formed : (end : End) (v : V) → IsWellFormed eq (end_written end m v)
  end_written_well_formed end v =
      same_keys_well_formed (with_value_at m.pairs (end_position end m.pairs) v)
      (keys_of-with_value_at m.pairs (end_position end m.pairs) v)
