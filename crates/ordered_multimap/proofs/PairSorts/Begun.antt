-- Values that come to a tape in any order: the keys that have one there are chained with those that came.
use Rattle.std.proofs.Common.{◌≡◌, ◌≢◌, ◌+◌, ℕ, true, List, [], ◌∷◌, ◌++◌, ◌<◌, length, length-append, Option, Some, None, refl, sym, ap, ◌∙◌, subst, inl, inr, arith}
use Rattle.std.proofs.lemmas.Bool.{cases_eq, eq-eqb}
use Rattle.multimap_slots.specs.Lists.{IsIn, AreDistinct, first_of, last_of}
use Rattle.multimap_slots.specs.Slots.{Slots, IsSound, item_at, link_at, with_link}
use Rattle.multimap_slots.proofs.Callers.SlotChanges.{link_at-with_link, KeepsOthers-with_link}
use Rattle.multimap_slots.proofs.Callers.PlaceLists.{IsIn-kept}
use Rattle.multimap_walks.specs.declared.links.KeyLink.{KeyLink}
use Rattle.multimap_walks.specs.declared.links.ValueLink.{ValueLink}
use Rattle.multimap_walks.specs.Chained.{IsChained, is_value_of, chain_of, pairs_of}
use Rattle.ordered_multimap.specs.Private.Append.{link_of_one}
use Rattle.ordered_multimap.specs.Private.PairSorts.{IsBegunAt, PushesNext}
use Rattle.ordered_multimap.proofs.Agreement.Agreed.{is_value_of-is, value_owner}
use Rattle.ordered_multimap.proofs.Append.Chained.{chained-append, pairs_of-append}
use Rattle.ordered_multimap.proofs.Append.Steps.{SetsKey}
use Rattle.ordered_multimap.proofs.Callers.Members.{IsIn-filter}
use Rattle.ordered_multimap.proofs.Callers.Places.{held, filter_shorter, last_of-member}
use Rattle.ordered_multimap.proofs.Chains.LongerLists.{first_of-push, no_last}

-- the slots of these keys alone
abbrev only : {K : Type 0} → Slots K KeyLink → List ℕ → Slots K KeyLink
only keys begun = record keys { order = begun; capacity = length begun }

-- these are the keys that have a value on the tape, and their links are chained with those of the values
pub record AreBegun {K V : Type 0} (keys : Slots K KeyLink) (values : Slots V ValueLink) (begun : List ℕ) : Type 0 where
  pub distinct : AreDistinct begun
  pub listed : (q : ℕ) → IsIn q begun → IsIn q keys.order
  pub chained : IsChained (only keys begun) values

-- the last value of a key on a tape, by the one place where it can stand
module _ {V : Type 0} (values : Slots V ValueLink) (key : ℕ) where
  no_keys : Slots ℕ KeyLink
  no_keys = record { order = []; items = []; links = []; capacity = 0 }

  in_chain : (q : ℕ) → last_of (chain_of values key) ≡ Some q → IsIn q values.order × (is_value_of values key q ≡ true)
  in_chain q last = IsIn-kept (is_value_of values key) q values.order (last_of-member (chain_of values key) q last)

  pub last_listed : (q : ℕ) → last_of (chain_of values key) ≡ Some q → IsIn q values.order
  last_listed q last = (in_chain q last).0

  -- a value more than there were comes
  pub shorter_chain : (last : ℕ) {more : List ℕ} → more ≡ values.order ++ last ∷ [] → length (chain_of values key) < length more
  shorter_chain last is =
      omega (arith, filter_shorter (is_value_of values key) values.order, ap length is, length-append values.order (last ∷ []))

  module _ (tail : ℕ) (known : (q : ℕ) → last_of (chain_of values key) ≡ Some q → q ≡ tail) where
    pub last_own : (l : ValueLink) → IsIn tail values.order → link_at values tail ≡ Some l → l.key ≡ key
        → Some tail ≡ last_of (chain_of values key)
    last_own l listed is own = by (last_of (chain_of values key)) refl
      where
        member : IsIn tail (chain_of values key)
        member = IsIn-filter (is_value_of values key) tail values.order
            (is_value_of-is no_keys values key tail l is ∙ eq-eqb l.key key own) listed

        by : (o : Option ℕ) → last_of (chain_of values key) ≡ o → Some tail ≡ last_of (chain_of values key)
        by (Some q) e = ap Some (sym (known q e)) ∙ sym e
        by None e = absurd (subst (IsIn tail) (no_last (chain_of values key) e) member)

    pub last_other : (IsIn tail values.order → is_value_of values key tail ≡ true → ⊥) → None ≡ last_of (chain_of values key)
    last_other other = by (last_of (chain_of values key)) refl
      where
        by : (o : Option ℕ) → last_of (chain_of values key) ≡ o → None ≡ last_of (chain_of values key)
        by None e = sym e
        by (Some q) e =
            let own = in_chain q e in
            absurd (other (subst (λ p. IsIn p values.order) (known q e) own.0) (ap (is_value_of values key) (sym (known q e)) ∙ own.1))

    pub last_elsewhere : (l : ValueLink) → link_at values tail ≡ Some l → l.key ≢ key → None ≡ last_of (chain_of values key)
    last_elsewhere l is differs = last_other (λ listed own. differs (value_owner no_keys values key tail l is own))

-- the link that a key has once a value more has come
pub record IsNextLink (chain : List ℕ) (last : ℕ) (was link : KeyLink) : Type 0 where
  pub hash : link.hash ≡ was.hash
  pub head : first_of (chain ++ last ∷ []) ≡ Some link.head
  pub tail : link.tail ≡ last
  pub count : link.length ≡ length chain + 1

pub next_link : {chain : List ℕ} (last : ℕ) {was : KeyLink} → first_of chain ≡ Some was.head → length chain ≡ was.length
    → IsNextLink chain last was (record was { tail = last; length = was.length + 1 })
next_link {chain} last {was} head count = record {
  hash = refl;
  head = first_of-push chain last was.head head;
  tail = refl;
  count = ap (λ n. n + 1) (sym count);
}

pub first_link : {chain : List ℕ} (last : ℕ) {was : KeyLink} → last_of chain ≡ None → IsNextLink chain last was (link_of_one was.hash last)
first_link {chain} last none =
    let empty : chain ≡ [] = no_last chain none in
    record {
      hash = refl;
      head = ap (λ ps. first_of (ps ++ last ∷ [])) empty;
      tail = refl;
      count = ap (λ ps. length ps + 1) (sym empty);
    }

module _ {K V : Type 0} {keys : Slots K KeyLink} {values : Slots V ValueLink} (keys_sound : IsSound keys) (sound : IsSound values) where
  only_sound : {begun : List ℕ} → AreDistinct begun → ((q : ℕ) → IsIn q begun → IsIn q keys.order) → IsSound (only keys begun)
  only_sound distinct listed = record {
    distinct = distinct;
    filled = λ q i. keys_sound.filled q (listed q i);
    linked = λ q i. keys_sound.linked q (listed q i);
    fits = omega arith;
  }

  module _ {begun : List ℕ} (b : AreBegun keys values begun) where
    -- a key with a last value has begun
    has_begun : (place q : ℕ) → last_of (chain_of values place) ≡ Some q → IsIn place begun
    has_begun place q last =
        let own = in_chain values place q last in
        let l = held (link_at values q) (sound.linked q own.0) in
        subst (λ p. IsIn p begun) (value_owner keys values place q l.value l.is own.1) (b.chained.owned q l.value own.0 l.is)

    -- and its link tells of its chain
    pub begun_at : (place : ℕ) → IsIn place keys.order → IsBegunAt keys values place
    begun_at place listed = record {
      listed = listed;
      head = λ l q is last. b.chained.head place l (has_begun place q last) is;
      tail = λ l q is last.
          let both : Some q ≡ Some l.tail = sym last ∙ b.chained.tail place l (has_begun place q last) is in
          let same : q ≡ l.tail = cc in
          same;
      length = λ l q is last. b.chained.length place l (has_begun place q last) is;
    }

    -- once all keys have begun, all are chained
    pub begun_all : ((q : ℕ) → IsIn q keys.order → IsIn q begun) → IsChained keys values
    begun_all all = record {
      owned = λ q l i is. b.listed l.key (b.chained.owned q l i is);
      head = λ q l i is. b.chained.head q l (all q i) is;
      tail = λ q l i is. b.chained.tail q l (all q i) is;
      length = λ q l i is. b.chained.length q l (all q i) is;
      previous = b.chained.previous;
      next = b.chained.next;
    }

    -- a value more, of a key that is among these then
    pub record Begins (keys_after : Slots K KeyLink) (values_after : Slots V ValueLink) (place : ℕ) (pair : K × V) : Type 0 where
      pub begun_after : List ℕ
      pub are : AreBegun keys_after values_after begun_after
      pub kept : (q : ℕ) → IsIn q begun → IsIn q begun_after
      pub here : IsIn place begun_after
      pub pairs : pairs_of keys_after values_after ≡ pairs_of keys values ++ pair ∷ []

    module _ {values_after : Slots V ValueLink} {place : ℕ} {k : K} {v : V} (listed : IsIn place keys.order)
        (item_is : item_at keys place ≡ Some k) {keys_after : Slots K KeyLink}
        (pushes : PushesNext keys keys_after values values_after place v) where
      abbrev after : Slots K KeyLink
      after = with_link keys place pushes.link

      step_to : (begun_after : List ℕ) → AreDistinct begun_after → IsIn place begun_after
          → ((q : ℕ) → IsIn q begun → IsIn q begun_after) → ((q : ℕ) → q ≢ place → IsIn q begun_after → IsIn q begun)
          → Begins after values_after place (k, v)
      step_to begun_after distinct here kept came =
          let sets : SetsKey (only keys begun) (only after begun_after) place k pushes.link = record {
            listed = here;
            item_is = item_is;
            link_is = link_at-with_link keys place pushes.link (keys_sound.linked place listed);
            kept = kept;
            came = came;
            items = λ q i. refl;
            links = λ q differs. (KeepsOthers-with_link keys place pushes.link).links q differs;
          } in
          let was_sound : IsSound (only keys begun) = only_sound b.distinct b.listed in
          record {
            begun_after = begun_after;
            are = record {
              distinct = distinct;
              listed = λ q i. elim (cases_eq q place) [
                | inl same ↦ subst (λ p. IsIn p keys.order) (sym same) listed
                | inr differs ↦ b.listed q (came q differs i)
              ];
              chained = chained-append was_sound sound b.chained sets pushes.pushed pushes.head pushes.tail pushes.length;
            };
            kept = kept;
            here = here;
            pairs = pairs_of-append was_sound sound b.chained sets pushes.pushed;
          }

      step_by : (tail : Option ℕ) → last_of (chain_of values place) ≡ tail → Begins after values_after place (k, v)
      step_by (Some q) last = step_to begun b.distinct (has_begun place q last) (λ p i. i) (λ p differs i. i)
      step_by None last =
          let absent = λ (i : IsIn place begun).
          let l = held (link_at keys place) (keys_sound.linked place listed) in
          let bad : Some l.value.tail ≡ None = sym (b.chained.tail place l.value i l.is) ∙ last in
          absurd {A = ⊥} (cc) in
          step_to (place ∷ begun) (absent, b.distinct) (inl refl) (λ p i. inr i)
          (λ p differs i. elim i [ inl same ↦ absurd (differs same) | inr before ↦ before ])

      pub begun_step : Begins keys_after values_after place (k, v)
      begun_step = subst (λ ks. Begins ks values_after place (k, v)) (sym pushes.keys_are)
          (step_by (last_of (chain_of values place)) refl)
