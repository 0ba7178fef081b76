-- The values of a chain leave one after another.
use Rattle.std.proofs.Common.{◌≡◌, ◌≢◌, ◌==◌, ◌+◌, ◌<◌, ◌≤◌, ◌||◌, ℕ, suc, Bool, true, false, not, cond, List, [], ◌∷◌, ◌++◌, length}
use Rattle.std.proofs.Common.{filter, Option, Some, None, refl, sym, ap, ◌∙◌, subst, inl, inr, true≢false, arith, append_assoc}
use Rattle.std.proofs.Common.{length-append, unwrap_or}
use Rattle.std.proofs.lemmas.Bool.{cases_eq, eq-eqb, ne_eqb}
use Rattle.std.proofs.lemmas.List.{append-nil}
use Rattle.multimap_slots.specs.Lists.{IsIn, AreDistinct, first_of, last_of, next_of, without}
use Rattle.multimap_slots.specs.Slots.{Slots, IsSound, KeepsOthers, link_at}
use Rattle.multimap_slots.proofs.Callers.PlaceLists.{AreDistinct-gone, IsIn-kept, IsIn-left, IsIn-right, next_of-split}
use Rattle.multimap_walks.specs.declared.links.KeyLink.{KeyLink}
use Rattle.multimap_walks.specs.declared.links.ValueLink.{ValueLink}
use Rattle.multimap_walks.specs.Chained.{IsChained, is_value_of, chain_of}
use Rattle.ordered_multimap.specs.Private.Remove.{TakesValues, IsRow, IsTaking, among}
use Rattle.ordered_multimap.proofs.Callers.Members.{IsIn-filter, filter-all}
use Rattle.ordered_multimap.proofs.Callers.Places.{begins, AreDistinct-filter, filter-agree}
use Rattle.ordered_multimap.proofs.Agreement.Agreed.{is_value_of-is}
use Rattle.ordered_multimap.proofs.Chains.LongerLists.{last_or-push}

pub nothing : (rest : List ℕ) → length rest ≡ 0 → rest ≡ []
nothing [] e = refl
nothing (q ∷ rest) e = absurd (omega (arith, e))

-- whether a place is among others
pub among-none : (places : List ℕ) (q : ℕ) → ¬ IsIn q places → among places q ≡ false
among-none [] q absent = refl
among-none (p ∷ places) q absent = rw (ne_eqb p q (λ e. absent (inl (sym e)))) (among-none places q (λ i. absent (inr i)))

pub among_in : (places : List ℕ) (q : ℕ) → IsIn q places → among places q ≡ true
among_in [] q i = absurd i
among_in (p ∷ places) q i = elim (cases_eq p q) [
  | inl same ↦ rw (eq-eqb p q same) refl
  | inr differs ↦ elim i [
    | inl here ↦ absurd (differs (sym here))
    | inr later ↦ rw (ne_eqb p q differs) (among_in places q later)
  ]
]

pub in_among : (places : List ℕ) (q : ℕ) → among places q ≡ true → IsIn q places
in_among [] q e = absurd (true≢false (sym e))
in_among (p ∷ places) q e = elim (cases_eq p q) [
  | inl same ↦ inl (sym same)
  | inr differs ↦ inr (in_among places q (rw (ne_eqb p q differs) at e))
]

pub not_among : (places : List ℕ) (q : ℕ) → among places q ≡ false → ¬ IsIn q places
not_among places q e i = true≢false (sym (among_in places q i) ∙ e)

among-push : (places : List ℕ) (p q : ℕ) → among (places ++ p ∷ []) q ≡ (among places q || (p == q))
among-push [] p q = elim (p == q) as (λ b. (b || false) ≡ b) [ true ↦ refl | false ↦ refl ]
among-push (r ∷ places) p q = elim (r == q) as (λ b. (b || among (places ++ p ∷ []) q) ≡
    ((b || among places q) || (p == q))) [ true ↦ refl | false ↦ among-push places p q ]

pub among-filter : (test : ℕ → Bool) (xs : List ℕ) (q : ℕ) → IsIn q xs → among (filter test xs) q ≡ test q
among-filter test xs q i = cases (test q) refl
  where
    cases : (b : Bool) → test q ≡ b → among (filter test xs) q ≡ b
    cases true e = among_in (filter test xs) q (IsIn-filter test q xs e i)
    cases false e = among-none (filter test xs) q (λ j. true≢false (sym (IsIn-kept test q xs j).1 ∙ e))

neither : (a b : Bool) → (a || b) ≡ false → (a ≡ false) × (b ≡ false)
neither true b e = absurd (true≢false e)
neither false b e = (refl, e)

-- a list without one more of its items
filter-without : (gone : ℕ → Bool) (p : ℕ) (qs : List ℕ)
    → without (filter (λ q. not (gone q)) qs) p ≡ filter (λ q. not (gone q || (p == q))) qs
filter-without gone p [] = refl
filter-without gone p (q ∷ qs) =
    let rest = filter-without gone p qs in
    let P : Bool → Type 0 = λ b. without (cond (not b) (q ∷ filter (λ q. not (gone q)) qs) (filter (λ q. not (gone q)) qs)) p ≡ cond
    (not (b || (p == q))) (q ∷ filter (λ q. not (gone q || (p == q))) qs) (filter (λ q. not (gone q || (p == q))) qs) in
    elim (gone q) as P [
      | true ↦ rest
      | false ↦ elim (cases_eq q p) [
        | inl same ↦ rw (eq-eqb q p same, eq-eqb p q (sym same)) rest
        | inr differs ↦ rw (ne_eqb q p differs, ne_eqb p q (λ e. differs (sym e))) (ap (λ rs. q ∷ rs) rest)
      ]
    ]

-- nothing has left yet
taking-start : {V : Type 0} (chain : List ℕ) (values : Slots V ValueLink) → IsTaking chain 0 (first_of chain) values values
taking-start chain values = record {
  gone = [];
  rest = chain;
  parts = refl;
  count = refl;
  following_is = refl;
  taken = record {
    order = sym (filter-all (λ q. not (among [] q)) values.order (λ q i. refl));
    items = λ q e. refl;
    links = λ q
        e. refl;
    capacity = refl;
  };
}

-- one place is left at least
module _ {V : Type 0} {values mid : Slots V ValueLink} {row : List ℕ} (n p : ℕ) (taking : IsTaking row n (Some p) values mid) where
  -- the next one, and those behind it
  record Onward : Type 0 where
    behind : List ℕ
    is : row ≡ taking.gone ++ p ∷ behind

  next_one : Onward
  next_one = split taking.rest taking.parts taking.following_is
    where
      split : (rest : List ℕ) → row ≡ taking.gone ++ rest → Some p ≡ first_of rest → Onward
      split [] parts e = absurd (cc)
      split (q ∷ behind) parts e = let same : q ≡ p = cc in
          record { behind = behind; is = parts ∙ ap (λ r. taking.gone ++ r ∷ behind) same }

  -- it is the last one where all before it have left
  pub taking-whole : n + 1 ≡ length row → row ≡ taking.gone ++ p ∷ []
  taking-whole all = next_one.is ∙ ap (λ qs. taking.gone ++ p ∷ qs) (nothing next_one.behind
      (omega (arith, all, taking.count, ap length next_one.is, length-append taking.gone (p ∷ next_one.behind))))

module _ {V : Type 0} {values : Slots V ValueLink} {row : List ℕ} {n : ℕ} {following : Option ℕ} {mid : Slots V ValueLink}
    (taking : IsTaking row n following values mid) where
  -- one more is left while fewer have gone than there are
  taking-more : n < length row → following ≢ None
  taking-more fewer none = absurd (omega (
    arith,
    fewer,
    taking.count,
    ap length taking.parts,
    length-append taking.gone taking.rest,
    ap
        length (ended taking.rest (sym taking.following_is ∙ none)),
  ))
    where
      ended : (rest : List ℕ) → first_of rest ≡ None → rest ≡ []
      ended [] e = refl
      ended (q ∷ rest) e = absurd (cc)

  -- and it is the one that was told
  pub taking-told : {p : ℕ} → n < length row → p ≡ unwrap_or following 0 → following ≡ Some p
  taking-told fewer told = by following (taking-more fewer) told
    where
      by : (o : Option ℕ) {p : ℕ} → o ≢ None → p ≡ unwrap_or o 0 → o ≡ Some p
      by None some told = absurd (some refl)
      by (Some q) some told = ap Some (sym told)

  -- all have left
  pub gone_whole : n ≡ length row → taking.gone ≡ row
  gone_whole all = sym (taking.parts ∙ ap (λ qs. taking.gone ++ qs)
      (nothing taking.rest (omega (arith, all, taking.count, ap length taking.parts, length-append taking.gone taking.rest)))
      ∙ append-nil taking.gone)

module _ {V : Type 0} {values : Slots V ValueLink} {first count : ℕ} {row : List ℕ} (in_row : IsRow values first count row) where
  -- the first one is the next at the start
  pub taking-first : IsTaking row 0 (Some first) values values
  taking-first = subst (λ o. IsTaking row 0 o values values) in_row.first_is (taking-start row values)

  module _ (n p : ℕ) (mid : Slots V ValueLink) (taking : IsTaking row n (Some p) values mid) where
    behind : List ℕ
    behind = (next_one n p taking).behind

    is_next : row ≡ taking.gone ++ p ∷ behind
    unfolding behind
    is_next = (next_one n p taking).is

    in_chain : IsIn p row
    in_chain = subst (IsIn p) (sym is_next) (IsIn-right p taking.gone (p ∷ behind) (inl refl))

    not_gone : ¬ IsIn p taking.gone
    not_gone i = AreDistinct-gone taking.gone p behind (subst AreDistinct is_next in_row.distinct) (IsIn-left p taking.gone behind i)

    pub taking-listed : IsIn p mid.order
    taking-listed =
        subst (IsIn p) (sym taking.taken.order)
        (IsIn-filter (λ q. not (among taking.gone q)) p values.order (ap not (among-none taking.gone p not_gone))
        (in_row.listed p in_chain))

    pub taking-step : (new : Slots V ValueLink) (l : ValueLink) → link_at mid p ≡ Some l → new.order ≡ without mid.order p
        → KeepsOthers mid new p → new.capacity ≡ mid.capacity
        → IsTaking row (suc n) l.next values new
    taking-step new l is order others capacity =
        let was = sym (taking.taken.links p (among-none taking.gone p not_gone)) ∙ is in
        let none : (q : ℕ) → among (taking.gone ++ p ∷ []) q ≡ false → (among taking.gone q ≡ false) × (q ≢ p) =
        λ q e. let two = neither (among taking.gone q) (p == q) (sym (among-push taking.gone p q) ∙ e) in
        (two.0, λ same. true≢false (sym (eq-eqb p q (sym same)) ∙ two.1)) in
        record {
          gone = taking.gone ++ p ∷ [];
          rest = behind;
          parts = is_next ∙ sym (append_assoc taking.gone (p ∷ []) behind);
          count = omega (arith, length-append taking.gone (p ∷ []), taking.count);
          following_is =
              sym (in_row.next p l in_chain was) ∙ ap (λ qs. next_of qs p) is_next
              ∙ next_of-split taking.gone p behind not_gone;
          taken = record {
            order = order ∙ ap (λ qs. without qs p) taking.taken.order ∙ filter-without (among taking.gone) p values.order
                ∙ filter-agree (λ q. not (among taking.gone q || (p == q))) (λ q. not (among (taking.gone ++ p ∷ []) q)) values.order
                (λ q i. ap not (sym (among-push taking.gone p q)));
            items = λ q e. others.items q (none q e).1 ∙ taking.taken.items q (none q e).0;
            links = λ q e. others.links q (none q e).1 ∙ taking.taken.links q (none q e).0;
            capacity = capacity ∙ taking.taken.capacity;
          };
        }

    pub gone-step : (new : Slots V ValueLink) (l : ValueLink) (is : link_at mid p ≡ Some l) (order : new.order ≡ without mid.order p)
        (others : KeepsOthers mid new p) (capacity : new.capacity ≡ mid.capacity)
        → (taking-step new l is order others capacity).gone ≡ taking.gone ++ p ∷ []
    unfolding taking-step
    gone-step new l is order others capacity = refl

module _ {K V : Type 0} {keys : Slots K KeyLink} {values : Slots V ValueLink} (sound : IsSound values) (chained : IsChained keys values)
    (key : ℕ) where
  pub distinct : AreDistinct (chain_of values key)
  distinct = AreDistinct-filter (is_value_of values key) values.order sound.distinct

  pub in_list : (p : ℕ) → IsIn p (chain_of values key) → IsIn p values.order × (is_value_of values key p ≡ true)
  in_list p i = IsIn-kept (is_value_of values key) p values.order i

  -- its link names the next place of the chain
  pub onward : (p : ℕ) (l : ValueLink) → IsIn p (chain_of values key) → link_at values p ≡ Some l → next_of (chain_of values key) p ≡ l.next
  onward p l i is = elim (cases_eq l.key key) [
    | inl same ↦ subst (λ k. next_of (chain_of values k) p ≡ l.next) same (chained.next p l (in_list p i).0 is)
    | inr other ↦ absurd (true≢false (sym (in_list p i).1 ∙ is_value_of-is keys values key p l is ∙ ne_eqb l.key key other))
  ]

  -- so many values of the key, from the head on
  pub chain_row : (l : KeyLink) → IsIn key keys.order → link_at keys key ≡ Some l → (n : ℕ) → n ≤ l.length
      → IsRow values l.head n (chain_of values key)
  chain_row l listed is n most = record {
    first_is = chained.head key l listed is;
    enough = omega (arith, chained.length key l listed is, most);
    distinct = distinct;
    listed = λ p i. (in_list p i).0;
    next = onward;
  }

  -- a key has a value
  pub taking-some : (l : KeyLink) → IsIn key keys.order → link_at keys key ≡ Some l → 0 < l.length
  taking-some l listed is =
      let b = begins (chain_of values key) l.head (chained.head key l listed is) in
      omega (arith, chained.length key l listed is, ap length b.is)

  -- the last one is left where all before it have left
  pub taking-last : (n : ℕ) (following : Option ℕ) (mid : Slots V ValueLink) → IsTaking (chain_of values key) n following values mid
      → (l : KeyLink) → IsIn key keys.order → link_at keys key ≡ Some l → n + 1 ≡ l.length → following ≡ Some l.tail
  taking-last n following mid taking l listed is more =
      taking.following_is ∙ one taking.rest taking.parts
      (omega (arith, chained.length key l listed is, more, taking.count, ap length taking.parts, length-append taking.gone taking.rest))
    where
      one : (rest : List ℕ) → chain_of values key ≡ taking.gone ++ rest → length rest ≡ 1 → first_of rest ≡ Some l.tail
      one [] parts e = absurd (omega (arith, e))
      one (q ∷ r ∷ rest) parts e = absurd (omega (arith, e))
      one (q ∷ []) parts e = sym (last_or-push None taking.gone q) ∙ ap last_of (sym parts) ∙ chained.tail key l listed is

  pub taking-end : (n : ℕ) (following : Option ℕ) (new : Slots V ValueLink) → IsTaking (chain_of values key) n following values new
      → n ≡ length (chain_of values key) → TakesValues (is_value_of values key) values new
  taking-end n following new taking all =
      let whole : taking.gone ≡ chain_of values key = gone_whole taking all in
      let same : (q : ℕ) → IsIn q values.order → among taking.gone q ≡ is_value_of values key q = λ q i. ap (λ qs. among qs q) whole
      ∙ among-filter (is_value_of values key) values.order q i in
      record {
        order = taking.taken.order ∙ filter-agree (λ q. not (among taking.gone q)) (λ q. not (is_value_of values key q)) values.order
            (λ q i. ap not (same q i));
        items = λ q e. taking.taken.items q (apart whole q e);
        links = λ q e. taking.taken.links q (apart whole q e);
        capacity = taking.taken.capacity;
      }
    where
      apart : taking.gone ≡ chain_of values key → (q : ℕ) → is_value_of values key q ≡ false → among taking.gone q ≡ false
      apart whole q e = ap (λ qs. among qs q) whole ∙ among-none (chain_of values key) q (λ j. true≢false (sym (in_list q j).1 ∙ e))
