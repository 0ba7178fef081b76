-- The first value of a key alone stays, with another value or the one that it has.
use Rattle.std.proofs.Common.{◌≡◌, ◌<◌, ℕ, suc, Bool, true, false, cond, not, List, [], ◌∷◌, ◌++◌, filter, length, map, slice_get}
use Rattle.std.proofs.Common.{Option, Some, None, option_map, refl, sym, ap, ◌∙◌, subst, inl, inr, true≢false, arith}
use Rattle.std.proofs.lemmas.Option.{slice_get-map}
use Rattle.std.specs.List.{enumerate_from}
use Rattle.multimap_slots.specs.Lists.{IsIn}
use Rattle.ordered_multimap.specs.OneValue.{pairs_with_only}
use Rattle.ordered_multimap.specs.Pairs.{pairs_except, positions_where, values_where, with_first_where, with_value_at}
use Rattle.ordered_multimap.proofs.Callers.OneValue.{later_positions, positions_from}

module _ {K V : Type 0} (accepts : K → Bool) where
  -- the pairs with another first value, by the first pair and the others
  pub with_first-step : (p : K × V) (pairs : List (K × V)) (v : V)
      → with_first_where accepts (p ∷ pairs) v ≡ cond (accepts p.0) ((p.0, v) ∷ pairs) (p ∷ with_first_where accepts pairs v)
  with_first-step p pairs v =
      elim (accepts p.0) as (λ b. put (p ∷ pairs) (slice_get
      (map (λ (e : ℕ × (K × V)). e.0) (cond b ((0, p) ∷ filter (λ e. accepts e.1.0) (enumerate_from 1 pairs))
      (filter (λ e. accepts e.1.0) (enumerate_from 1 pairs)))) 0)
      ≡ cond b ((p.0, v) ∷ pairs) (p ∷ with_first_where accepts pairs v)) [ true ↦ refl | false ↦ later ]
    where
      put : List (K × V) → Option ℕ → List (K × V)
      put ps o = elim o as (λ _. List (K × V)) [ None ↦ ps | Some i ↦ with_value_at ps i v ]

      behind : (o : Option ℕ) → put (p ∷ pairs) (option_map suc o) ≡ p ∷ put pairs o
      behind None = refl
      behind (Some j) = refl

      later : put (p ∷ pairs) (slice_get (positions_from accepts 1 pairs) 0) ≡ p ∷ with_first_where accepts pairs v
      later =
          ap (λ ps. put (p ∷ pairs) (slice_get {X = ℕ} ps 0)) (later_positions accepts 0 pairs)
          ∙ ap (put (p ∷ pairs)) (slice_get-map suc (positions_where accepts pairs) 0)
          ∙ behind (slice_get (positions_where accepts pairs) 0)

  -- so the first value is the new one, and the others stay
  pub with_first-values : (pairs : List (K × V)) (v : V) → 0 < length (values_where accepts pairs)
      → (slice_get (values_where accepts (with_first_where accepts pairs v)) 0 ≡ Some v)
      × (length (values_where accepts (with_first_where accepts pairs v)) ≡ length (values_where accepts pairs))
  with_first-values [] v some = absurd (omega (arith, some))
  with_first-values (p ∷ pairs) v some = elim (accepts p.0) as (λ b. accepts p.0 ≡ b → Goal) [
    | true ↦ λ e. subst Of (sym (with_first-step p pairs v ∙ ap (λ b. cond b ((p.0, v) ∷ pairs) (p ∷ with_first_where accepts pairs v)) e))
        (rw e (refl, refl))
    | false ↦ λ e. subst Of (sym (with_first-step p pairs v ∙ ap (λ b. cond b ((p.0, v) ∷ pairs) (p ∷ with_first_where accepts pairs v)) e))
        (rw e (with_first-values pairs v (rw e at some)))
  ] refl
    where
      Of : List (K × V) → Type 0
      Of ps = (slice_get (values_where accepts ps) 0 ≡ Some v)
          × (length (values_where accepts ps) ≡ length (values_where accepts (p ∷ pairs)))

      Goal : Type 0
      Goal = Of (with_first_where accepts (p ∷ pairs) v)

  -- and with that value alone they are what the old pairs are with it
  pub with_only-first : (pairs : List (K × V)) (v : V)
      → pairs_with_only accepts (with_first_where accepts pairs v) v ≡ pairs_with_only accepts pairs v
  with_only-first [] v = refl
  with_only-first (p ∷ pairs) v =
      ap (λ ps. pairs_with_only accepts ps v) (with_first-step p pairs v)
      ∙ elim (accepts p.0) as (λ b. accepts p.0 ≡ b
      → pairs_with_only accepts (cond b ((p.0, v) ∷ pairs) (p ∷ with_first_where accepts pairs v)) v
      ≡ cond b ((p.0, v) ∷ pairs_except accepts pairs) (p ∷ pairs_with_only accepts pairs v)) [
        | true ↦ λ e. rw e refl
        | false ↦ λ e. rw e (ap (λ ps. p ∷ ps) (with_only-first pairs v))
      ] refl

  -- keys without a value have no pair
  none-except : (pairs : List (K × V)) → length (values_where accepts pairs) ≡ 0 → pairs_except accepts pairs ≡ pairs
  none-except [] none = refl
  none-except (p ∷ pairs) none =
      elim (accepts p.0) as (λ b. length (map (λ (q : K × V). q.1) (cond b (p ∷ filter (λ q. accepts q.0) pairs)
      (filter (λ q. accepts q.0) pairs))) ≡ 0 → cond (not b) (p ∷ pairs_except accepts pairs) (pairs_except accepts pairs) ≡ p ∷ pairs) [
        | true ↦ λ e. absurd (omega (arith, e))
        | false ↦ λ e. ap (λ ps. p ∷ ps) (none-except pairs e)
      ] none

  -- where the value is the only one, the pairs are as they are
  pub with_only-itself : (pairs : List (K × V)) (v : V) → slice_get (values_where accepts pairs) 0 ≡ Some v
      → length (values_where accepts pairs) ≡ 1 → pairs_with_only accepts pairs v ≡ pairs
  with_only-itself [] v first one = refl
  with_only-itself (p ∷ pairs) v first one =
      elim (accepts p.0) as (λ b. slice_get (map (λ (q : K × V). q.1) (cond b (p ∷ filter (λ q. accepts q.0) pairs)
      (filter (λ q. accepts q.0) pairs))) 0 ≡ Some v
      → length (map (λ (q : K × V). q.1) (cond b (p ∷ filter (λ q. accepts q.0) pairs) (filter (λ q. accepts q.0) pairs))) ≡ 1
      → cond b ((p.0, v) ∷ pairs_except accepts pairs) (p ∷ pairs_with_only accepts pairs v) ≡ p ∷ pairs) [
        | true ↦ λ e n. let same : p.1 ≡ v = cc in (λ i. (p.0, sym same i) ∷ none-except pairs (omega (arith, n)) i)
        | false ↦ λ e n. ap (λ ps. p ∷ ps) (with_only-itself pairs v e n)
      ] first one

  -- behind pairs of other keys the first pair of the keys stays, and none of theirs behind it
  pub with_only-split : (before after : List (K × V)) (p : K × V) (v : V) → ((q : K × V) → IsIn q before → accepts q.0 ≡ false)
      → accepts p.0 ≡ true → slice_get (values_where accepts (before ++ p ∷ after)) 0 ≡ Some v
      → pairs_with_only accepts (before ++ p ∷ after) v ≡ pairs_except accepts before ++ p ∷ pairs_except accepts after
  with_only-split [] after p v none own first =
      elim (accepts p.0) as (λ b. b ≡ true → slice_get (map (λ (q : K × V). q.1) (cond b (p ∷ filter (λ q. accepts q.0) after)
      (filter (λ q. accepts q.0) after))) 0 ≡ Some v
      → cond b ((p.0, v) ∷ pairs_except accepts after) (p ∷ pairs_with_only accepts after v) ≡ p ∷ pairs_except accepts after) [
        | true ↦ λ e is. let same : p.1 ≡ v = cc in (λ i. (p.0, sym same i) ∷ pairs_except accepts after)
        | false ↦ λ e is. absurd (true≢false (sym e))
      ] own first
  with_only-split (q ∷ before) after p v none own first =
      elim (accepts q.0) as (λ b. b ≡ false → slice_get (map (λ (r : K × V). r.1)
      (cond b (q ∷ filter (λ r. accepts r.0) (before ++ p ∷ after)) (filter (λ r. accepts r.0) (before ++ p ∷ after)))) 0 ≡ Some v
      → cond b ((q.0, v) ∷ pairs_except accepts (before ++ p ∷ after)) (q ∷ pairs_with_only accepts (before ++ p ∷ after) v)
      ≡ cond (not b) (q ∷ pairs_except accepts before) (pairs_except accepts before) ++ p ∷ pairs_except accepts after) [
        | true ↦ λ e is. absurd (true≢false e)
        | false ↦ λ e is. ap (λ ps. q ∷ ps) (with_only-split before after p v (λ r i. none r (inr i)) own is)
      ] (none q (inl refl)) first
