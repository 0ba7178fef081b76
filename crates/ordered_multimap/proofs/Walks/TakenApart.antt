-- The pairs that are left of a map that was taken apart, and what a step at either end hands out.
use Rattle.std.proofs.Common.{◌≡◌, ◌≢◌, ◌⊎◌, ◌==◌, ℕ, ◌+◌, ◌<◌, ◌≤◌, ◌-◌, false, not, List, [], ◌∷◌, ◌++◌, filter, length}
use Rattle.std.proofs.Common.{Option, Some, None, Result, Ok, Err, IsSome, option_map, option_and_then, unwrap_or, refl, sym, ap, ◌∙◌, subst, inl, inr}
use Rattle.std.proofs.Common.{length-append, length-drop, arith, rules}
use Rattle.std.specs.Prelude.{MatchOption}
use Rattle.std.specs.Iterator.{MakesProgress, at_most}
use Rattle.std.specs.List.{filter_map}
use Rattle.std.specs.Map.{keys_of}
use Rattle.std.proofs.lemmas.Bool.{cases_eq, cases_lt, eq-eqb}
use Rattle.std.proofs.lemmas.List.{length-take}
use Rattle.multimap_slots.specs.Lists.{IsIn, AreDistinct, without}
use Rattle.multimap_slots.specs.Slots.{Removes, Slots, item_at, link_at, with_link}
use Rattle.multimap_slots.proofs.Callers.PlaceLists.{AreDistinct-gone, IsIn-kept, IsIn-split, IsIn-without, without-absent, without-split}
use Rattle.multimap_slots.proofs.Callers.SlotChanges.{KeepsOthers-with_link, link_at-with_link}
use Rattle.multimap_walks.specs.declared.End.{End}
use Rattle.multimap_walks.specs.declared.End.TheVariants.{Front, Back}
use Rattle.multimap_walks.specs.declared.links.KeyLink.{KeyLink}
use Rattle.multimap_walks.specs.declared.links.ValueLink.{ValueLink}
use Rattle.multimap_walks.specs.Chained.{chain_of, is_value_of, pair_at, pairs_of}
use Rattle.ordered_multimap.specs.IntoIters.{HandsOut, IsCounted, IsHanded, IsKeyOf}
use Rattle.ordered_multimap.specs.Private.IntoIters.{IsCountedAt, GivesKey}
use Rattle.ordered_multimap.specs.Private.RemoveOne.{end_of_list}
use Rattle.ordered_multimap.specs.declared.list_ordered_multimap.refused.UnclonedKey.{UnclonedKey}
use Rattle.ordered_multimap.proofs.Callers.Members.{IsIn-filter}
use Rattle.ordered_multimap.proofs.Callers.Places.{AreDistinct-filter, IsIn-filter_map, filter-agree, held, pair_named}
use Rattle.ordered_multimap.proofs.Chains.Parts.{filter-commute}
use Rattle.ordered_multimap.proofs.Agreement.Agreed.{is_value_of-is, pair_at-is, value_owner}
use Rattle.ordered_multimap.proofs.Remove.AtEnds.{at_end, pairs_of-without}
use Rattle.ordered_multimap.proofs.Remove.WholeKeys.{key_stays, key_still_listed}

-- a value has left its slot, and no other link has changed
module _ {K V : Type 0} {keys : Slots K KeyLink} {values values_after : Slots V ValueLink} {place : ℕ} {value : V} {link : ValueLink}
    (at : IsCountedAt keys values place) (removes : Removes values values_after place value) (link_is : link_at values place ≡ Some link) where
  value_stays : (q : ℕ) → IsIn q values_after.order → IsIn q values.order × (q ≢ place)
  value_stays q member = IsIn-without q values.order place (subst (IsIn q) removes.order member)

  link_kept : (q : ℕ) (l : ValueLink) → IsIn q values_after.order → link_at values_after q ≡ Some l → link_at values q ≡ Some l
  link_kept q l member is = sym (removes.others.links q (value_stays q member).1) ∙ is

  chain_of-left : (key : ℕ) → chain_of values_after key ≡ without (chain_of values key) place
  chain_of-left key =
      filter-agree (is_value_of values_after key) (is_value_of values key) values_after.order (λ q member.
      ap (λ o. unwrap_or (option_map (λ (m : ValueLink). m.key == key) o) false) (removes.others.links q (value_stays q member).1))
      ∙ ap (filter (is_value_of values key)) removes.order
      ∙ filter-commute (is_value_of values key) (λ q. not (q == place)) values.order

  other_chain : (key : ℕ) → key ≢ link.key → chain_of values_after key ≡ chain_of values key
  other_chain key differs = chain_of-left key ∙ without-absent (chain_of values key) place
      (λ i. let own = IsIn-kept (is_value_of values key) place values.order i in
      differs (sym (value_owner keys values key place link link_is own.1)))

  own_chain : length (chain_of values_after link.key) + 1 ≡ length (chain_of values link.key)
  own_chain =
      let own = IsIn-filter (is_value_of values link.key) place values.order
      (is_value_of-is keys values link.key place link link_is ∙ eq-eqb link.key link.key refl) at.listed in
      let s = IsIn-split place (chain_of values link.key) own in
      let distinct = subst AreDistinct s.is (AreDistinct-filter (is_value_of values link.key) values.order at.sound.distinct) in
      let left : chain_of values_after link.key ≡ s.front ++ s.back =
      chain_of-left link.key ∙ ap (λ ps. without ps place) s.is ∙ without-split s.front place s.back
      (AreDistinct-gone s.front place s.back distinct) in
      omega (arith, ap length left, ap length s.is, length-append s.front s.back, length-append s.front (place ∷ s.back))

  -- a value that is left is in the chain of its key
  in_chain : (q key : ℕ) (l : ValueLink) → IsIn q values_after.order → link_at values_after q ≡ Some l → l.key ≡ key
      → IsIn q (chain_of values_after key)
  in_chain q key l member is same = IsIn-filter (is_value_of values_after key) q values_after.order
      (is_value_of-is keys values_after key q l is ∙ eq-eqb l.key key same) member

  -- the key of the value has given what the step hands out
  module _ {is_clone : K → K → Type 0} {is_infallible : K → Type 0} {keys_after : Slots K KeyLink} {given : Option K}
      (gives : GivesKey is_clone is_infallible keys keys_after link.key given) where
    pub pair_is : pair_at keys values place ≡ Some (gives.key, value)
    pair_is = pair_at-is keys values place link gives.key value link_is gives.was.item_is removes.had

    count_is : length (chain_of values link.key) ≡ gives.link.length
    count_is = at.counted.length link.key gives.link gives.was.listed gives.was.link_is

    -- it was the last value, and the key has left with it
    module _ (one : gives.link.length < 2) where
      key_left : Removes keys keys_after link.key gives.key
      key_left = (gives.last one).0

      no_value : chain_of values_after link.key ≡ []
      no_value = empty (chain_of values_after link.key) (omega (arith, own_chain, count_is, one))
        where
          empty : (ps : List ℕ) → length ps ≡ 0 → ps ≡ []
          empty [] e = refl
          empty (p ∷ ps) e = absurd (omega (arith, e))

      other_key : (q : ℕ) (l : ValueLink) → IsIn q values_after.order → link_at values_after q ≡ Some l → l.key ≢ link.key
      other_key q l member is same = subst (IsIn q) no_value (in_chain q link.key l member is same)

      pub counted-last : IsCounted keys_after values_after
      counted-last = record {
        owned = λ q l member is. key_stays key_left l.key
            (at.counted.owned q l (value_stays q member).0 (link_kept q l member is)) (other_key q l member is);
        length = λ key l listed is. let was = key_still_listed key_left key listed in
            ap length (other_chain key was.1)
            ∙ at.counted.length key l was.0 (sym (key_left.others.links key was.1) ∙ is);
      }

      pub same_pair-last : (q : ℕ) → IsIn q values_after.order → pair_at keys_after values_after q ≡ pair_at keys values q
      same_pair-last q member = from (link_at values_after q) refl
        where
          from : (o : Option ValueLink) → link_at values_after q ≡ o → pair_at keys_after values_after q ≡ pair_at keys values q
          from None is = rw (sym (removes.others.links q (value_stays q member).1), is) refl
          from (Some l) is = rw (
            removes.others.items q (value_stays q member).1,
            sym (removes.others.links q (value_stays q member).1),
            is,
            key_left.others.items l.key (other_key q l member is),
          ) refl

    -- it has others, and is counted one less
    module _ (more : 2 ≤ gives.link.length) where
      relinked : keys_after ≡ with_link keys link.key (record gives.link { length = gives.link.length - 1 })
      relinked = (gives.more more).0

      same_order : keys_after.order ≡ keys.order
      same_order = ap (λ (s : Slots K KeyLink). s.order) relinked

      same_items : (q : ℕ) → item_at keys_after q ≡ item_at keys q
      same_items q = ap (λ (s : Slots K KeyLink). item_at s q) relinked

      link_now : link_at keys_after link.key ≡ Some (record gives.link { length = gives.link.length - 1 })
      link_now = ap (λ (s : Slots K KeyLink). link_at s link.key) relinked
          ∙ link_at-with_link keys link.key (record gives.link { length = gives.link.length - 1 })
          (subst IsSome (sym gives.was.link_is) refl)

      other_link : (key : ℕ) → key ≢ link.key → link_at keys_after key ≡ link_at keys key
      other_link key differs = ap (λ (s : Slots K KeyLink). link_at s key) relinked
          ∙ (KeepsOthers-with_link keys link.key (record gives.link { length = gives.link.length - 1 })).links key differs

      pub counted-more : IsCounted keys_after values_after
      counted-more = record {
        owned = λ q l member is. subst (IsIn l.key) (sym same_order)
            (at.counted.owned q l (value_stays q member).0 (link_kept q l member is));
        length = λ key l listed is. from key l (subst (IsIn key) same_order listed) is (cases_eq key link.key);
      }
        where
          own : (l : KeyLink) → link_at keys_after link.key ≡ Some l → length (chain_of values_after link.key) ≡ l.length
          own l is =
              let both : Some l ≡ Some (record gives.link { length = gives.link.length - 1 }) = sym is ∙ link_now in
              let same : l ≡ record gives.link { length = gives.link.length - 1 } = cc in
              omega (arith, own_chain, count_is, more, ap (λ (m : KeyLink). m.length) same)

          from : (key : ℕ) (l : KeyLink) → IsIn key keys.order → link_at keys_after key ≡ Some l → (key ≡ link.key) ⊎ (key ≢ link.key)
              → length (chain_of values_after key) ≡ l.length
          from key l listed is (inl same) = ap (λ k. length (chain_of values_after k)) same
              ∙ own l (ap (link_at keys_after) (sym same) ∙ is)
          from key l listed is (inr differs) =
              ap length (other_chain key differs) ∙ at.counted.length key l listed (sym (other_link key differs) ∙ is)

      pub same_pair-more : (q : ℕ) → IsIn q values_after.order → pair_at keys_after values_after q ≡ pair_at keys values q
      same_pair-more q member = rw (
        removes.others.items q (value_stays q member).1,
        removes.others.links q (value_stays q member).1,
      ) (from (link_at values q))
        where
          pair_with : Slots K KeyLink → Option ValueLink → Option (K × V)
          pair_with s o = option_and_then (λ k. option_map (λ v. (k, v)) (item_at values q)) (option_and_then (λ (l : ValueLink). item_at s l.key) o)

          from : (o : Option ValueLink) → pair_with keys_after o ≡ pair_with keys o
          from None = refl
          from (Some l) = ap (λ i. option_and_then (λ k. option_map (λ v. (k, v)) (item_at values q)) i) (same_items l.key)

      -- another value of the key is left
      pub another : IsIn gives.key (keys_of (pairs_of keys_after values_after))
      another = from (chain_of values_after link.key) (λ q i. i) (omega (arith, own_chain, count_is, more))
        where
          from : (ps : List ℕ) → ((q : ℕ) → IsIn q ps → IsIn q (chain_of values_after link.key)) → 1 ≤ length ps
              → IsIn gives.key (keys_of (pairs_of keys_after values_after))
          from [] among some = absurd (omega (arith, some))
          from (q ∷ ps) among some =
              let own = IsIn-kept (is_value_of values_after link.key) q values_after.order (among q (inl refl)) in
              let was = value_stays q own.0 in
              let l = held (link_at values q) (at.sound.linked q was.0) in
              let v = held (item_at values q) (at.sound.filled q was.0) in
              let now : link_at values_after q ≡ Some l.value = removes.others.links q was.1 ∙ l.is in
              let same = value_owner keys values_after link.key q l.value now own.1 in
              let pair = pair_at-is keys_after values_after q l.value gives.key v.value now
              (same_items l.value.key ∙ ap (item_at keys) same ∙ gives.was.item_is) (removes.others.items q was.1 ∙ v.is) in
              pair_named gives.key v.value (pairs_of keys_after values_after)
              (IsIn-filter_map (pair_at keys_after values_after) q (gives.key, v.value) values_after.order own.0 pair)

    -- either way
    pub counted_left : IsCounted keys_after values_after
    counted_left = elim (cases_lt gives.link.length 2) [ inl one ↦ counted-last one | inr more ↦ counted-more more ]

    pub pairs_left : pairs_of keys_after values_after ≡ filter_map (pair_at keys values) (without values.order place)
    pairs_left = pairs_of-without keys keys_after values values_after place removes.order
        (elim (cases_lt gives.link.length 2) [ inl one ↦ same_pair-last one | inr more ↦ same_pair-more more ])

    key_given : (key : K) → given ≡ Some key → IsKeyOf is_clone is_infallible (pairs_of keys_after values_after) gives.key key
    key_given key is = elim (cases_lt gives.link.length 2) [
      | inl one ↦ let both : Some key ≡ Some gives.key = sym is ∙ (gives.last one).1 in inl (let same : key ≡ gives.key = cc in same)
      | inr more ↦ inr (another more, subst (λ o. MatchOption o (¬ is_infallible gives.key) (is_clone gives.key)) is (gives.more more).1)
    ]

    none_given : given ≡ None → IsIn gives.key (keys_of (pairs_of keys_after values_after)) × ¬ is_infallible gives.key
    none_given is = elim (cases_lt gives.link.length 2) [
      | inl one ↦ let both : None ≡ Some gives.key = sym is ∙ (gives.last one).1 in absurd (let bad = both in cc)
      | inr more ↦ (another more, subst (λ o. MatchOption o (¬ is_infallible gives.key) (is_clone gives.key)) is (gives.more more).1)
    ]

    abbrev Hands : Result (K × V) (UnclonedKey V) → Option (K × V) → Type 0
    Hands result pair = MatchOption pair ⊥ (IsHanded is_clone is_infallible (pairs_of keys_after values_after) result)

    pub pair_handed : (key : K) → given ≡ Some key → Hands (Ok (key, value)) (pair_at keys values place)
    pair_handed key is = subst (Hands (Ok (key, value))) (sym pair_is) (key_given key is, refl)

    pub value_handed : given ≡ None → Hands (Err (record { value = value })) (pair_at keys values place)
    value_handed is = subst (Hands (Err (record { value = value }))) (sym pair_is) (refl, none_given is)

-- the pair at an end is handed out, and the others are left
pub hands_out : {K V : Type 0} (keys keys_after : Slots K KeyLink) (values values_after : Slots V ValueLink) (place : ℕ)
    (is_clone : K → K → Type 0) (is_infallible : K → Type 0) (end : End) → AreDistinct values.order
    → pairs_of keys_after values_after ≡ filter_map (pair_at keys values) (without values.order place)
    → end_of_list end values.order ≡ Some place → (given : Result (K × V) (UnclonedKey V))
    → MatchOption (pair_at keys values place) ⊥ (IsHanded is_clone is_infallible (pairs_of keys_after values_after) given)
    → HandsOut is_clone is_infallible end (pairs_of keys values) (Some given) (pairs_of keys_after values_after)
hands_out {K} {V} keys keys_after values values_after place is_clone is_infallible end distinct left at given handed =
    from (pair_at keys values place) refl handed
  where
    from : (o : Option (K × V)) → pair_at keys values place ≡ o
        → MatchOption o ⊥ (IsHanded is_clone is_infallible (pairs_of keys_after values_after) given)
        → HandsOut is_clone is_infallible end (pairs_of keys values) (Some given) (pairs_of keys_after values_after)
    from None is none = absurd none
    from (Some pair) is pair_handed =
        let e = at_end (pair_at keys values) end values.order place pair distinct at is in (
          subst (λ o. MatchOption o ⊥ (IsHanded is_clone is_infallible (pairs_of keys_after values_after) given)) (sym e.item) pair_handed,
          left ∙ e.left,
        )

-- fewer pairs are left behind a step that hands one out
module _ {K V : Type 0} (is_clone : K → K → Type 0) (is_infallible : K → Type 0) where
  fewer_left : (end : End) (given : Result (K × V) (UnclonedKey V)) (old new : List (K × V))
      → HandsOut is_clone is_infallible end old (Some given) new → length new < length old
  fewer_left Front given [] new hands = absurd hands.0
  fewer_left Back given [] new hands = absurd hands.0
  fewer_left Front given (p ∷ old) new hands = omega (arith, ap length hands.1, length-drop 1 (p ∷ old))
  fewer_left Back given (p ∷ old) new hands = omega (arith, ap length hands.1, length-take (length (p ∷ old) - 1) (p ∷ old))

  pub progress : (end : End) (given : Option (Result (K × V) (UnclonedKey V))) (old new : List (K × V))
      → HandsOut is_clone is_infallible end old given new → MakesProgress (λ _. Unit {0}) (λ s. at_most (length s)) old given new
  progress end None old new hands = search rules
  progress end (Some given) old new hands = let falls = fewer_left end given old new hands in search rules
