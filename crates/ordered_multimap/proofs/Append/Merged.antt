-- Pairs that take the place of those of their keys.
use Rattle.std.proofs.Common.{◌≡◌, ◌+◌, Bool, true, false, not, cond, ◌||◌, List, [], ◌∷◌, ◌++◌, filter, length, refl, sym, ap, ◌∙◌}
use Rattle.std.proofs.Common.{arith, append_assoc, length-append}
use Rattle.std.proofs.Math.Bool.{or-false}
use Rattle.std.proofs.lemmas.Bool.{or_parts}
use Rattle.std.proofs.lemmas.List.{append-nil, length-map}
use Rattle.std.proofs.lemmas.List.Elements.{filter-append}
use Rattle.std.proofs.lemmas.List.Filters.{length-filter_both}
use Rattle.std.proofs.lemmas.List.Folds.{list_any-append}
use Rattle.std.specs.Cmp.{IsEquivalence}
use Rattle.std.specs.List.{list_any}
use Rattle.std.specs.Map.{keys_of}
use Rattle.ordered_multimap.specs.Changes.{appended, all_appended, inserted, merged}
use Rattle.ordered_multimap.specs.Keys.{is_listed, keys_with, stored_key}
use Rattle.ordered_multimap.specs.Lists.{Lists, lists}
use Rattle.ordered_multimap.specs.Pairs.{is_present, pairs_except, pairs_without}
use Rattle.ordered_multimap.specs.Private.AppendMap.{all_put, count_for, count_for_all, put}
use Rattle.ordered_multimap.proofs.Append.Extended.{all_appended-push, length-pairs}
use Rattle.ordered_multimap.proofs.Callers.ListedKeys.{is_present-is_listed, stored_key_absent, stored_key_member}
use Rattle.ordered_multimap.proofs.Callers.Members.{keys_of-append}
use Rattle.ordered_multimap.proofs.Callers.Places.{filter-agree}

module _ {K V : Type 0} (eq : K → K → Bool) where
  -- what appending the pairs makes of these keys, with no pair
  abbrev behind : List K → List (K × V) → Lists K V
  behind keys pairs = all_appended eq (lists keys []) pairs

  abbrev in_front : List (K × V) → Lists K V → Lists K V
  in_front front m = lists m.keys (front ++ m.pairs)

  -- the pairs that were there stay in front
  all_appended-behind : (keys : List K) (front pairs : List (K × V))
      → all_appended eq (lists keys front) pairs ≡ in_front front (behind keys pairs)
  all_appended-behind keys front [] = ap (lists keys) (sym (append-nil front))
  all_appended-behind keys front (p ∷ pairs) =
      let one : List (K × V) = (stored_key eq keys p.0, p.1) ∷ [] in
      let now : List K = keys_with eq keys p.0 in
      all_appended-behind now (front ++ one) pairs
      ∙ ap (lists (behind now pairs).keys) (append_assoc front one (behind now pairs).pairs)
      ∙ sym (ap (in_front front) (all_appended-behind now one pairs))

  -- a key is among them where it was, or is that of the last one
  is_present-push : (pairs : List (K × V)) (k : K) (v : V) (j : K)
      → is_present eq (pairs ++ (k, v) ∷ []) j ≡ (is_present eq pairs j || eq j k)
  is_present-push pairs k v j =
      is_present-is_listed eq j (pairs ++ (k, v) ∷ [])
      ∙ ap (λ ks. is_listed eq ks j) (keys_of-append pairs ((k, v) ∷ []))
      ∙ list_any-append (eq j) (keys_of pairs) (k ∷ [])
      ∙ ap (λ b. is_listed eq (keys_of pairs) j || b) (or-false (eq j k))
      ∙ ap (λ b. b || eq j k) (sym (is_present-is_listed eq j pairs))

  -- those of some keys go, and then those of one more
  except_both : (accepts : K → Bool) (k : K) (whole : K → Bool) → ((j : K) → whole j ≡ (accepts j || eq k j)) → (pairs : List (K × V))
      → pairs_except whole pairs ≡ pairs_without eq (pairs_except accepts pairs) k
  except_both accepts k whole both [] = refl
  except_both accepts k whole both (p ∷ pairs) =
      let rest = except_both accepts k whole both pairs in
      let kept : List (K × V) = pairs_except accepts pairs in
      let P : Bool → Type 0 = λ b. cond (not (b || eq k p.0)) (p ∷ pairs_except whole pairs) (pairs_except whole pairs)
      ≡ pairs_without eq (cond (not b) (p ∷ kept) kept) k in
      ap (λ b. cond (not b) (p ∷ pairs_except whole pairs) (pairs_except whole pairs)) (both p.0)
      ∙ elim (accepts p.0) as P [
        | true ↦ rest
        | false ↦ ap (λ ps. cond (not (eq k p.0)) (p ∷ ps) ps) rest
      ]

  -- so many pairs there are
  pub length-put : (replaces : Bool) (m : Lists K V) (k : K) (v : V)
      → length (put eq replaces m k v).pairs + count_for eq replaces m k ≡ length m.pairs + 1
  length-put true m k v = omega (
    arith,
    length-append (pairs_without eq m.pairs k) ((stored_key eq m.keys k, v) ∷ []),
    length-filter_both (λ p. eq k p.0) (λ p. not (eq k p.0)) (λ p. refl) m.pairs,
    length-map (filter (λ p. eq k p.0) m.pairs) (λ p. p.1),
  )
  length-put false m k v = omega (arith, length-append m.pairs ((stored_key eq m.keys k, v) ∷ []))

  pub length-all_put : (replaces : Bool) (m : Lists K V) (pairs : List (K × V))
      → length (all_put eq replaces m pairs).pairs + count_for_all eq replaces m pairs ≡ length m.pairs + length pairs
  length-all_put true m pairs =
      let old : K → Bool = is_present eq pairs in
      omega (
        arith,
        length-pairs eq (lists m.keys (pairs_except old m.pairs)) pairs,
        length-filter_both (λ p. old p.0) (λ p. not (old p.0)) (λ p. refl) m.pairs,
        length-map (filter (λ p. old p.0) m.pairs) (λ p. p.1),
      )
  length-all_put false m pairs = omega (arith, length-pairs eq m pairs)

  pub put-keys : (replaces : Bool) (m : Lists K V) (k : K) (v : V) → (put eq replaces m k v).keys ≡ keys_with eq m.keys k
  put-keys true m k v = refl
  put-keys false m k v = refl

-- the stored key of one that differs from k differs from k
module _ {K : Type 0} {eq : K → K → Bool} (laws : IsEquivalence eq) where
  stored_apart : (keys : List K) (j k : K) → eq k j ≡ false → eq k (stored_key eq keys j) ≡ false
  stored_apart keys j k apart =
      let s : K = stored_key eq keys j in
      let P : Bool → Type 0 = λ b. is_listed eq keys j ≡ b → eq k s ≡ false in
      elim (is_listed eq keys j) as P [
        | true ↦ λ listed. laws.symm k s ∙ sym (laws.congr j s k (stored_key_member laws j keys listed).1) ∙ laws.symm j k ∙ apart
        | false ↦ λ absent. ap (eq k) (stored_key_absent laws j keys absent) ∙ apart
      ] refl

module _ {K V : Type 0} {eq : K → K → Bool} (laws : IsEquivalence eq) where
  -- where no pair of the key comes, none is appended
  behind_apart : (k : K) (keys : List K) (pairs : List (K × V)) → is_present eq pairs k ≡ false
      → pairs_without eq (behind eq keys pairs).pairs k ≡ (behind eq keys pairs).pairs
  behind_apart k keys [] none = refl
  behind_apart k keys (p ∷ pairs) none =
      let now : List K = keys_with eq keys p.0 in
      let first : K × V = (stored_key eq keys p.0, p.1) in
      let parts = or_parts (eq k p.0) (is_listed eq (keys_of pairs) k) (sym (is_present-is_listed eq k (p ∷ pairs)) ∙ none) in
      let rest : List (K × V) = (behind eq now pairs).pairs in
      let is : (behind eq keys (p ∷ pairs)).pairs ≡ first ∷ rest = ap (λ m. m.pairs) (all_appended-behind eq now (first ∷ []) pairs) in
      ap (λ ps. pairs_without eq ps k) is
      ∙ ap (λ b. cond (not b) (first ∷ pairs_without eq rest k) (pairs_without eq rest k)) (stored_apart laws keys p.0 k parts.0)
      ∙ ap (λ ps. first ∷ ps) (behind_apart k now pairs (is_present-is_listed eq k pairs ∙ parts.1))
      ∙ sym is

  -- the first pair of a key takes the place of the old ones
  merged-first : (m : Lists K V) (pairs : List (K × V)) (k : K) (v : V) → is_present eq pairs k ≡ false
      → merged eq m (pairs ++ (k, v) ∷ []) ≡ inserted eq (merged eq m pairs) k v
  merged-first m pairs k v none =
      let more : List (K × V) = pairs ++ (k, v) ∷ [] in
      let kept : List (K × V) = pairs_except (is_present eq pairs) m.pairs in
      let fewer : List (K × V) = pairs_without eq kept k in
      let last : Lists K V = behind eq m.keys pairs in
      all_appended-push eq (lists m.keys (pairs_except (is_present eq more) m.pairs)) pairs k v
      ∙ ap (λ ps. appended eq (all_appended eq (lists m.keys ps) pairs) k v) (except_both eq (is_present eq pairs) k (is_present eq more)
      (λ j. is_present-push eq pairs k v j ∙ ap (λ b. is_present eq pairs j || b) (laws.symm j k)) m.pairs)
      ∙ ap (λ l. appended eq l k v) (all_appended-behind eq m.keys fewer pairs)
      ∙ ap (λ ps. lists (keys_with eq last.keys k) (ps ++ (stored_key eq last.keys k, v) ∷ []))
      (ap (λ ps. fewer ++ ps) (sym (behind_apart k m.keys pairs none)) ∙ sym (filter-append (λ p. not (eq k p.0)) kept last.pairs))
      ∙ ap (λ l. inserted eq l k v) (sym (all_appended-behind eq m.keys kept pairs))

  -- of a key that has come no more pairs go
  merged-later : (m : Lists K V) (pairs : List (K × V)) (k : K) (v : V) → is_present eq pairs k ≡ true
      → merged eq m (pairs ++ (k, v) ∷ []) ≡ appended eq (merged eq m pairs) k v
  merged-later m pairs k v there =
      let more : List (K × V) = pairs ++ (k, v) ∷ [] in
      all_appended-push eq (lists m.keys (pairs_except (is_present eq more) m.pairs)) pairs k v
      ∙ ap (λ ps. appended eq (all_appended eq (lists m.keys ps) pairs) k v)
      (filter-agree (λ p. not (is_present eq more p.0)) (λ p. not (is_present eq pairs p.0)) m.pairs (λ p i. ap not (same p.0)))
    where
      equal : (j : K) (ks : List K) → eq j k ≡ true → list_any (eq j) ks ≡ list_any (eq k) ks
      equal j [] e = refl
      equal j (i ∷ ks) e = λ n. laws.congr j k i e n || equal j ks e n

      same : (j : K) → is_present eq (pairs ++ (k, v) ∷ []) j ≡ is_present eq pairs j
      same j =
          let P : Bool → Type 0 = λ b. eq j k ≡ b → (is_present eq pairs j || b) ≡ is_present eq pairs j in
          is_present-push eq pairs k v j
          ∙ elim (eq j k) as P [
            | true ↦ λ e.
                let is = is_present-is_listed eq j pairs ∙ equal j (keys_of pairs) e ∙ sym (is_present-is_listed eq k pairs) ∙ there in
                ap (λ b. b || true) is ∙ sym is
            | false ↦ λ _. or-false (is_present eq pairs j)
          ] refl

  pub all_put-first : (replaces : Bool) (m : Lists K V) (pairs : List (K × V)) (k : K) (v : V) → is_present eq pairs k ≡ false
      → all_put eq replaces m (pairs ++ (k, v) ∷ []) ≡ put eq replaces (all_put eq replaces m pairs) k v
  all_put-first true m pairs k v none = merged-first m pairs k v none
  all_put-first false m pairs k v none = all_appended-push eq m pairs k v

  pub all_put-later : (replaces : Bool) (m : Lists K V) (pairs : List (K × V)) (k : K) (v : V) → is_present eq pairs k ≡ true
      → all_put eq replaces m (pairs ++ (k, v) ∷ []) ≡ put eq false (all_put eq replaces m pairs) k v
  all_put-later true m pairs k v there = merged-later m pairs k v there
  all_put-later false m pairs k v there = all_appended-push eq m pairs k v
