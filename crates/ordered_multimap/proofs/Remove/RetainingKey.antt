-- A pass over the values of one key is one over all pairs, in which those of the other keys are passed over.
use Rattle.std.proofs.Common.{◌≡◌, ◌<◌, ℕ, Bool, true, false, cond, List, ◌∷◌, ◌++◌, filter, Option, Some, refl}
use Rattle.std.proofs.Common.{sym, ap, ◌∙◌, subst, inr, arith}
use Rattle.std.proofs.lemmas.List.Elements.{filter-append}
use Rattle.std.specs.Borrow.{MutBor}
use Rattle.std.specs.Cmp.{IsEquivalence}
use Rattle.std.specs.Fn.{Mut}
use Rattle.std.specs.Ordering.{nat_cmp}
use Rattle.std.specs.FinMap.{FinMap}
use Rattle.multimap_slots.specs.Lists.{IsIn, AreDistinct, first_of, next_of}
use Rattle.multimap_slots.specs.Slots.{Slots, item_at, link_at}
use Rattle.multimap_slots.specs.Tapes.{Taped}
use Rattle.multimap_slots.proofs.Callers.PlaceLists.{AreDistinct-gone, IsIn-kept, IsIn-left, IsIn-right, next_of-split}
use Rattle.multimap_table.specs.Table.{Table}
use Rattle.multimap_walks.specs.declared.links.KeyLink.{KeyLink}
use Rattle.multimap_walks.specs.declared.links.ValueLink.{ValueLink}
use Rattle.multimap_walks.specs.Chained.{is_value_of, pair_at, pairs_of}
use Rattle.ordered_multimap.specs.Agrees.{Agrees, HasKey}
use Rattle.ordered_multimap.specs.Pairs.{values_where}
use Rattle.ordered_multimap.specs.Private.Remove.{KeepsRoom}
use Rattle.ordered_multimap.specs.Private.Retain.{AsksAny, RetainsAt}
use Rattle.ordered_multimap.specs.Retain.{AsksAccepted, AsksIf, MayAskEach, MayAskValue}
use Rattle.ordered_multimap.proofs.Agreement.Agreed.{pair_in}
use Rattle.ordered_multimap.proofs.Agreement.LookUps.{owns}
use Rattle.ordered_multimap.proofs.Callers.Places.{places_from}
use Rattle.ordered_multimap.proofs.Chains.Neighbours.{first_of-member}
use Rattle.ordered_multimap.proofs.Remove.OnePair.{retains_room}
use Rattle.ordered_multimap.proofs.Remove.Retaining.{Continues, IsRetaining, listed_place, may_ask, places_from-rest, retaining-start, retaining-start-rest}
use Rattle.ordered_multimap.proofs.Remove.RetainingStep.{CountsLeft, retaining-counts, retaining-step}
use Rattle.ordered_multimap.proofs.Remove.PassedOver.{MayAskIf, MayAskAccepted, callable_pairs, Advances, PassesOver, advance}

-- the first of the kept places is one of them
first_kept : (own : ℕ → Bool) (places : List ℕ) (q : ℕ) → first_of (filter own places) ≡ Some q → IsIn q places × (own q ≡ true)
first_kept own places q e = IsIn-kept own q places (first_of-member (filter own places) q e)

module _ {F K V : Type 0} (g : Mut F (MutBor V × Unit {0}) (Bool × (MutBor V × Unit {0}))) {eq : K → K → Bool} (laws : IsEquivalence eq)
    (k : K) {hash : K → ℕ} {keys : Slots K KeyLink} {rows : FinMap nat_cmp ℕ} {values : Slots V ValueLink} (agrees : Agrees eq hash keys rows values)
    (key_place : ℕ) (has : HasKey eq keys k key_place) where
  -- no call is made on the value of another key
  not_asked : (f : F) (q : ℕ) → IsIn q values.order → is_value_of values key_place q ≡ false
      → (j : K) (w : V) → pair_at keys values q ≡ Some (j, w) → AsksAccepted g (eq k) f j w true w f
  not_asked f q i e j w is =
      let p = pair_in agrees q i in
      let one : Some (p.key, p.value) ≡ Some (j, w) = sym p.pair_is ∙ is in
      let both : (p.key, p.value) ≡ (j, w) = cc in
      subst (λ b. AsksIf g b f w true w f) (sym (ap (λ (x : K × V). eq k x.0) (sym both) ∙ sym (owns laws agrees k key_place has q p) ∙ e))
      (refl, refl, refl)

  -- and each value of this key is its own
  is_asked : (q : ℕ) → IsIn q values.order → is_value_of values key_place q ≡ true
      → (j : K) (w : V) → pair_at keys values q ≡ Some (j, w) → eq k j ≡ true
  is_asked q i e j w is =
      let p = pair_in agrees q i in
      let one : Some (p.key, p.value) ≡ Some (j, w) = sym p.pair_is ∙ is in
      let both : (p.key, p.value) ≡ (j, w) = cc in
      ap (λ (x : K × V). eq k x.0) (sym both) ∙ sym (owns laws agrees k key_place has q p) ∙ e

module _ {F K V : Type 0} (g : Mut F (MutBor V × Unit {0}) (Bool × (MutBor V × Unit {0}))) (eq : K → K → Bool) (k : K)
    (old_keys : Slots K KeyLink) (old_rows : FinMap nat_cmp ℕ) (old_values : Slots V ValueLink) (first : F)
    (keys : Slots K KeyLink) (rows : FinMap nat_cmp ℕ) (values : Slots V ValueLink) (f : F) (following : Option ℕ) where
  -- the values of the key before this place are retained, and it has a value of the key
  pub record IsRetainingKey : Type 0 where
    pub pass : IsRetaining (AsksAccepted g (eq k)) eq (MayAskAccepted g (eq k)) old_keys keys old_rows rows old_values values first f following
    pub own : (q : ℕ) (j : K) (w : V) → following ≡ Some q → pair_at keys values q ≡ Some (j, w) → eq k j ≡ true

module _ {F K V : Type 0} (g : Mut F (MutBor V × Unit {0}) (Bool × (MutBor V × Unit {0}))) {eq : K → K → Bool} (laws : IsEquivalence eq)
    (k : K) {hash : K → ℕ} {old_keys : Slots K KeyLink} {old_rows : FinMap nat_cmp ℕ} {old_values : Slots V ValueLink} {first : F}
    (old_agrees : Agrees eq hash old_keys old_rows old_values) where
  -- nothing is done yet
  pub retaining_key-start : (key_place : ℕ) (l : KeyLink) → HasKey eq old_keys k key_place → link_at old_keys key_place ≡ Some l
      → MayAskEach g first (values_where (eq k) (pairs_of old_keys old_values))
      → IsRetainingKey g eq k old_keys old_rows old_values first old_keys old_rows old_values first (Some l.head)
  retaining_key-start key_place l has link_is callable =
      let own = is_value_of old_values key_place in
      let order = old_values.order in
      let start = retaining-start laws old_agrees (first_of order) refl
      (callable_pairs g (eq k) first (pairs_of old_keys old_values) callable) in
      let a = advance eq (AsksAccepted g (eq k)) (MayAskAccepted g (eq k)) old_keys old_rows old_values first old_keys old_rows old_values first
      own order (first_of order) start
      (retaining-start-rest laws old_agrees (first_of order) refl (callable_pairs g (eq k) first (pairs_of old_keys old_values) callable))
      (λ q i e. let p = pair_in old_agrees q i in
      (p.key, (p.value, p.pair_is, not_asked g laws k old_agrees key_place has first q i e p.key p.value p.pair_is))) in
      let head : a.next ≡ Some l.head = a.next_is ∙ old_agrees.chained.head key_place l has.listed link_is in
      record {
        pass = subst (IsRetaining (AsksAccepted g (eq k)) eq (MayAskAccepted g (eq k)) old_keys old_keys old_rows old_rows old_values old_values
            first first) head a.pass;
        own = λ q j w e is.
            let kept = first_kept own order q (sym a.next_is ∙ head ∙ e) in
            is_asked g laws k old_agrees key_place has q kept.0 kept.1 j w is;
      }

  -- there is a place
  pub retaining_key-at : {keys : Slots K KeyLink} {rows : FinMap nat_cmp ℕ} {values : Slots V ValueLink} {f : F} {following : Option ℕ} {place : ℕ}
      → following ≡ Some place → IsRetainingKey g eq k old_keys old_rows old_values first keys rows values f following
      → IsRetainingKey g eq k old_keys old_rows old_values first keys rows values f (Some place)
  retaining_key-at {keys = keys} {rows = rows} {values = values} {f = f} is r =
      subst (IsRetainingKey g eq k old_keys old_rows old_values first keys rows values f) is r

  -- the function may be called on its value
  pub retaining_key-may : {keys : Slots K KeyLink} {rows : FinMap nat_cmp ℕ} {values : Slots V ValueLink} {f : F} {place : ℕ}
      → IsRetainingKey g eq k old_keys old_rows old_values first keys rows values f (Some place)
      → (v : V) → item_at values place ≡ Some v → MayAskValue g f v
  retaining_key-may {f = f} {place = place} r v is =
      let p = pair_in (r.pass.agrees hash old_agrees) place (listed_place laws old_agrees r.pass) in
      let one : Some p.value ≡ Some v = sym p.value_is ∙ is in
      let same : p.value ≡ v = cc in
      subst (MayAskValue g f) same (subst (λ b. MayAskIf g b f p.value) (r.own place p.key p.value refl p.pair_is)
      (may_ask laws old_agrees r.pass p.key p.value p.pair_is))

  -- the value at the place was asked for, and the link of its place names the next
  module _ {keys keys_after : Slots K KeyLink} {table table_after : Table} {values values_after : Taped V ValueLink} {f next_f : F} {place : ℕ}
      (r : IsRetainingKey g eq k old_keys old_rows old_values first keys table.rows values.list f (Some place))
      (at : RetainsAt (AsksAny g) keys keys_after table table_after values values_after place f next_f)
      (l : ValueLink) (link_is : link_at values.list place ≡ Some l) where
    agrees : Agrees eq hash keys table.rows values.list
    agrees = r.pass.agrees hash old_agrees

    listed : IsIn place values.list.order
    listed = listed_place laws old_agrees r.pass

    accepted : eq k at.asks.key ≡ true
    accepted = r.own place at.asks.key at.asks.was refl at.asks.pair

    has_key : HasKey eq keys k l.key
    has_key =
        let p = pair_in agrees place listed in
        let one : Some (p.key, p.value) ≡ Some (at.asks.key, at.asks.was) = sym p.pair_is ∙ at.asks.pair in
        let both : (p.key, p.value) ≡ (at.asks.key, at.asks.was) = cc in
        let links : Some p.link ≡ Some l = sym p.link_is ∙ link_is in
        let link : p.link ≡ l = cc in
        record {
          listed = agrees.chained.owned place l listed link_is;
          stored = at.asks.key;
          item_is = ap (λ (m : ValueLink). item_at keys m.key) (sym link) ∙ p.key_is ∙ ap (λ (x : K × V). Some x.0) both;
          equal = accepted;
        }

    asked : RetainsAt (AsksAccepted g (eq k)) keys keys_after table table_after values values_after place f next_f
    asked = record {
      answer = at.answer;
      asked = at.asked;
      asks = record {
        key = at.asks.key;
        was = at.asks.was;
        left = at.asks.left;
        pair = at.asks.pair;
        called = subst (λ b. AsksIf g b f at.asks.was at.answer at.asks.left next_f) (sym accepted) at.asks.called;
        written = at.asks.written;
      };
      rest = at.rest;
    }

    step : Continues r.pass keys_after table_after.rows values_after.list next_f (next_of values.list.order place)
    step = retaining-step laws old_agrees r.pass asked (next_of values.list.order place) refl

    abbrev own : ℕ → Bool
    own = is_value_of values.list l.key

    back_listed : (q : ℕ) → IsIn q step.retaining.rest → IsIn q values.list.order
    back_listed q i = subst (IsIn q) (sym r.pass.order) (IsIn-right q r.pass.done r.pass.rest
        (subst (IsIn q) (sym step.passed.1) (inr i)))

    over : (q : ℕ) → IsIn q step.retaining.rest → own q ≡ false
        → PassesOver eq (AsksAccepted g (eq k)) (MayAskAccepted g (eq k)) old_keys old_rows old_values first
        keys_after table_after.rows values_after.list next_f own q
    over q i e =
        let p = pair_in agrees q (back_listed q i) in
        let called = not_asked g laws k agrees l.key has_key next_f q (back_listed q i) e p.key p.value p.pair_is in
        (p.key, (p.value, step.same q i ∙ p.pair_is, called))

    a : Advances eq (AsksAccepted g (eq k)) (MayAskAccepted g (eq k)) old_keys old_rows old_values first
        keys_after table_after.rows values_after.list next_f own step.retaining.rest
    a = advance eq (AsksAccepted g (eq k)) (MayAskAccepted g (eq k)) old_keys old_rows old_values first
        keys_after table_after.rows values_after.list next_f own step.retaining.rest (next_of values.list.order place) step.retaining refl over

    -- the place is the first that was left
    here : step.passed.0 ≡ place
    here =
        let b : Some place ≡ Some step.passed.0 = r.pass.following_is ∙ ap first_of step.passed.1 in
        let same : place ≡ step.passed.0 = cc in sym same

    split : values.list.order ≡ r.pass.done ++ place ∷ step.retaining.rest
    split = r.pass.order ∙ ap (λ ps. r.pass.done ++ ps) (step.passed.1 ∙ ap (λ p. p ∷ step.retaining.rest) here)

    not_done : ¬ IsIn place r.pass.done
    not_done i = AreDistinct-gone r.pass.done place step.retaining.rest (subst AreDistinct split agrees.values_sound.distinct)
        (IsIn-left place r.pass.done step.retaining.rest i)

    own_here : own place ≡ true
    own_here =
        let p = pair_in agrees place listed in
        let one : Some (p.key, p.value) ≡ Some (at.asks.key, at.asks.was) = sym p.pair_is ∙ at.asks.pair in
        let both : (p.key, p.value) ≡ (at.asks.key, at.asks.was) = cc in
        owns laws agrees k l.key has_key place p ∙ ap (λ (x : K × V). eq k x.0) both ∙ accepted

    next_is : l.next ≡ a.next
    next_is =
        sym (agrees.chained.next place l listed link_is)
        ∙ ap (λ ps. next_of (filter own ps) place) split
        ∙ ap (λ ps. next_of ps place) (filter-append own r.pass.done (place ∷ step.retaining.rest)
        ∙ ap (λ b. filter own r.pass.done ++ cond b (place ∷ filter own step.retaining.rest) (filter own step.retaining.rest)) own_here)
        ∙ next_of-split (filter own r.pass.done) place (filter own step.retaining.rest)
        (λ i. not_done (IsIn-kept own place r.pass.done i).0)
        ∙ sym a.next_is

    pub retaining_key-step : IsRetainingKey g eq k old_keys old_rows old_values first
        keys_after table_after.rows values_after.list next_f l.next
    retaining_key-step = record {
      pass = subst (IsRetaining (AsksAccepted g (eq k)) eq (MayAskAccepted g (eq k)) old_keys keys_after old_rows table_after.rows
          old_values values_after.list first next_f) (sym next_is) a.pass;
      own = λ q j w e is.
          let kept = first_kept own step.retaining.rest q (sym a.next_is ∙ sym next_is ∙ e) in
          is_asked g laws k agrees l.key has_key q (back_listed q kept.0) kept.1 j w (sym (step.same q kept.0) ∙ is);
    }

    pub retaining_key-smaller : places_from values_after.list.order l.next < places_from values.list.order (Some place)
    retaining_key-smaller =
        omega (
          arith,
          ap (places_from values_after.list.order) next_is,
          places_from-rest a.pass (a.pass.agrees hash old_agrees).values_sound.distinct,
          a.shorter,
          step.fewer,
          places_from-rest r.pass agrees.values_sound.distinct,
        )

    pub retaining_key-room : KeepsRoom keys keys_after table table_after values values_after
    retaining_key-room = retains_room asked

    pub retaining_key-counts : CountsLeft values values_after
    retaining_key-counts = retaining-counts laws old_agrees r.pass asked
