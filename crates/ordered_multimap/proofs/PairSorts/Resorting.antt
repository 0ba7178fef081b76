-- Values that go from one tape to another in the order of given places, one by one.
use Rattle.std.proofs.Common.{◌≡◌, ◌≢◌, ◌==◌, ◌<◌, ℕ, suc, not, List, [], ◌∷◌, ◌++◌, length, length-append, get_or, Some, refl, sym, ap, ◌∙◌}
use Rattle.std.proofs.Common.{subst, inl, inr, arith, append_assoc}
use Rattle.std.proofs.Math.Seq.{get_or-append_seam}
use Rattle.std.proofs.lemmas.Bool.{cases_eq, ne_eqb}
use Rattle.std.proofs.lemmas.List.{append-nil}
use Rattle.std.proofs.lemmas.List.Elements.{filter_map-append}
use Rattle.std.specs.List.{filter_map, cons_option}
use Rattle.std.specs.Prelude.{IsPermutation}
use Rattle.multimap_slots.specs.Lists.{IsIn, AreDistinct}
use Rattle.multimap_slots.specs.Slots.{Slots, IsEmpty, IsSound, Removes, item_at, link_at, with_link}
use Rattle.multimap_slots.proofs.Callers.Permuted.{permuted_in, permuted_was_in, permuted_distinct}
use Rattle.multimap_slots.proofs.Callers.PlaceLists.{AreDistinct-gone, IsIn-append, IsIn-kept, IsIn-right}
use Rattle.multimap_slots.proofs.Callers.SlotChanges.{KeepsOthers-with_link, link_at-with_link}
use Rattle.multimap_walks.specs.declared.links.KeyLink.{KeyLink}
use Rattle.multimap_walks.specs.declared.links.ValueLink.{ValueLink}
use Rattle.multimap_walks.specs.Chained.{chain_of, is_value_of, pair_at, pairs_of}
use Rattle.ordered_multimap.specs.Private.PairSorts.{AreResorted, IsBegunAt, KeepsHashes, PushesNext}
use Rattle.ordered_multimap.specs.Private.Relocations.{AreChained}
use Rattle.ordered_multimap.proofs.Agreement.Agreed.{PairAt, empty_sound, pair_of, value_owner}
use Rattle.ordered_multimap.proofs.Append.Steps.{IsSound-with_link}
use Rattle.ordered_multimap.proofs.Callers.Members.{IsIn-filter}
use Rattle.ordered_multimap.proofs.Callers.Places.{held}
use Rattle.ordered_multimap.proofs.Chains.Neighbours.{first_of-member}
use Rattle.ordered_multimap.proofs.KeySorts.Reordered.{no_places}
use Rattle.ordered_multimap.proofs.PairSorts.Begun.{AreBegun, Begins, begun_at, begun_all, begun_step}

-- the values at a first part of the places have come, and the others are left as they were
pub record AreResorting {K V : Type 0} (places : List ℕ) (n : ℕ) (keys keys_now : Slots K KeyLink)
    (values values_now sorted : Slots V ValueLink) : Type 0 where
  pub taken : List ℕ
  pub rest : List ℕ
  pub parts : places ≡ taken ++ rest
  pub count : length taken ≡ n
  pub come : length sorted.order ≡ n
  pub kept : KeepsHashes keys keys_now
  pub keys_sound : IsSound keys_now
  pub sound : IsSound sorted
  pub begun : List ℕ
  pub are_begun : AreBegun keys_now sorted begun
  pub owners : (q : ℕ) (l : ValueLink) → IsIn q taken → link_at values q ≡ Some l → IsIn l.key begun
  pub pairs : pairs_of keys_now sorted ≡ filter_map (pair_at keys values) taken
  pub left : (q : ℕ) → IsIn q rest → IsIn q values_now.order
  pub left_items : (q : ℕ) → IsIn q rest → item_at values_now q ≡ item_at values q
  pub left_links : (q : ℕ) → IsIn q rest → link_at values_now q ≡ link_at values q

pub resorting-start : {K V : Type 0} (places : List ℕ) (keys : Slots K KeyLink) (values sorted : Slots V ValueLink) → AreChained keys values
    → IsPermutation values.order places → IsEmpty sorted → AreResorting places 0 keys keys values values sorted
resorting-start places keys values sorted chains same none = record {
  taken = [];
  rest = places;
  parts = refl;
  count = refl;
  come = ap length none.order;
  kept = record { rest = refl; hashes = λ q l is. record { link = l; link_is = is; same = refl } };
  keys_sound = chains.keys_sound;
  sound = empty_sound sorted none.order;
  begun = [];
  are_begun = record {
    distinct = tt;
    listed = λ q i. absurd i;
    chained = record {
      owned = λ q l i. absurd (subst (IsIn q) none.order i);
      head = λ q l i. absurd i;
      tail = λ q l i. absurd i;
      length = λ q l i. absurd i;
      previous = λ q l i. absurd (subst (IsIn q) none.order i);
      next = λ q l i. absurd (subst (IsIn q) none.order i);
    };
  };
  owners = λ q l i. absurd i;
  pairs = ap (filter_map (pair_at keys sorted)) none.order;
  left = λ q i. permuted_was_in same q i;
  left_items = λ q i. refl;
  left_links = λ q i. refl;
}

module _ {K V : Type 0} {places : List ℕ} {n : ℕ} {keys keys_now : Slots K KeyLink} {values values_now sorted : Slots V ValueLink}
    (chains : AreChained keys values) (same : IsPermutation values.order places)
    (w : AreResorting places n keys keys_now values values_now sorted) where
  -- the place of the value that comes next
  pub record IsNext (p : ℕ) : Type 0 where
    pub behind : List ℕ
    pub rest_is : w.rest ≡ p ∷ behind
    pub parts : places ≡ w.taken ++ p ∷ behind

  pub next_place : n < length places → IsNext (get_or places n 0)
  next_place more = by w.rest refl
    where
      by : (rest : List ℕ) → w.rest ≡ rest → IsNext (get_or places n 0)
      by [] e = absurd (omega (arith, more, w.count, ap length w.parts, length-append w.taken w.rest, ap length e))
      by (q ∷ behind) e =
          let parts : places ≡ w.taken ++ q ∷ behind = w.parts ∙ ap (λ ps. w.taken ++ ps) e in
          subst IsNext (sym ((λ i. get_or (parts i) (sym w.count i) 0) ∙ get_or-append_seam w.taken q behind 0))
          (record { behind = behind; rest_is = e; parts = parts })

  keys_order : keys_now.order ≡ keys.order
  keys_order = ap (λ (ks : Slots K KeyLink). ks.order) w.kept.rest

  module _ (p : ℕ) (next : IsNext p) where
    was_listed : IsIn p values.order
    was_listed = permuted_was_in same p (subst (IsIn p) (sym next.parts) (IsIn-right p w.taken (p ∷ next.behind) (inl refl)))

    in_rest : IsIn p w.rest
    in_rest = subst (IsIn p) (sym next.rest_is) (inl refl)

    pub next_listed : IsIn p values_now.order
    next_listed = w.left p in_rest

    abbrev at : PairAt keys values p
    at = pair_of keys values chains.keys_sound chains.sound chains.chained p was_listed

    module _ (link : ValueLink) (link_was : link_at values_now p ≡ Some link) where
      link_is : link ≡ at.link
      link_is =
          let both : Some link ≡ Some at.link = sym link_was ∙ w.left_links p in_rest ∙ at.link_is in
          let own : link ≡ at.link = cc in
          own

      key_listed : IsIn link.key keys_now.order
      key_listed = rw (keys_order, link_is) at.key_listed

      pub next_begun : IsBegunAt keys_now sorted link.key
      next_begun = begun_at w.keys_sound w.sound w.are_begun link.key key_listed

      key_is : item_at keys_now link.key ≡ Some at.key
      key_is = ap (λ (ks : Slots K KeyLink). item_at ks link.key) w.kept.rest ∙ ap (λ (l : ValueLink). item_at keys l.key) link_is ∙ at.key_is

      module _ {keys_after : Slots K KeyLink} {values_after sorted_after : Slots V ValueLink} {value : V}
          (removed : Removes values_now values_after p value) (pushes : PushesNext keys_now keys_after sorted sorted_after link.key value) where
        gone : IsIn p (w.taken ++ next.behind) → ⊥
        gone = AreDistinct-gone w.taken p next.behind (subst AreDistinct next.parts (permuted_distinct same chains.sound.distinct))

        other : (q : ℕ) → IsIn q next.behind → q ≢ p
        other q i e = gone (IsIn-right p w.taken next.behind (subst (λ r. IsIn r next.behind) e i))

        still : (q : ℕ) → IsIn q next.behind → IsIn q w.rest
        still q i = subst (IsIn q) (sym next.rest_is) (inr i)

        value_is : value ≡ at.value
        value_is =
            let both : Some value ≡ Some at.value = sym removed.had ∙ w.left_items p in_rest ∙ at.value_is in
            let own : value ≡ at.value = cc in
            own

        kept_after : KeepsHashes keys keys_after
        kept_after = record {
          rest = pushes.keys_are ∙ ap (λ (ks : Slots K KeyLink). with_link ks link.key pushes.link) w.kept.rest
              ∙ ap (λ (ks : Slots K KeyLink). record keys { links = ks.links }) (sym pushes.keys_are);
          hashes = λ q l is.
              let now = ap (λ (ks : Slots K KeyLink). link_at ks q) (sym pushes.keys_are) ∙ is in
              elim (cases_eq q link.key) [
                | inl here ↦
                    let both : Some pushes.link ≡ Some l =
                    sym (link_at-with_link keys_now link.key pushes.link (w.keys_sound.linked link.key key_listed))
                    ∙ ap (link_at (with_link keys_now link.key pushes.link)) (sym here) ∙ now in
                    let own : pushes.link ≡ l = cc in
                    let before = w.kept.hashes link.key pushes.was pushes.link_was in
                    record {
                      link = before.link;
                      link_is = ap (link_at keys) here ∙ before.link_is;
                      same = ap (λ (m : KeyLink). m.hash) (sym own) ∙ pushes.hash ∙ before.same;
                    }
                | inr differs ↦
                    w.kept.hashes q l (sym ((KeepsOthers-with_link keys_now link.key pushes.link).links q differs) ∙ now)
              ];
        }

        abbrev begins : Begins w.keys_sound w.sound w.are_begun keys_after sorted_after link.key (at.key, value)
        begins = begun_step w.keys_sound w.sound w.are_begun key_listed key_is pushes

        pub resorting-step : AreResorting places (suc n) keys keys_after values values_after sorted_after
        resorting-step = record {
          taken = w.taken ++ p ∷ [];
          rest = next.behind;
          parts = next.parts ∙ sym (append_assoc w.taken (p ∷ []) next.behind);
          count = omega (arith, w.count, length-append w.taken (p ∷ []));
          come = omega (arith, w.come, ap length pushes.pushed.order, length-append sorted.order (pushes.last ∷ []));
          kept = kept_after;
          keys_sound = subst IsSound (sym pushes.keys_are) (IsSound-with_link keys_now link.key pushes.link key_listed w.keys_sound);
          sound = pushes.sound;
          begun = begins.begun_after;
          are_begun = begins.are;
          owners = λ q l i is. elim (IsIn-append q w.taken (p ∷ []) i) [
            | inl before ↦ begins.kept l.key (w.owners q l before is)
            | inr last ↦ elim last [
              | inl here ↦
                  let both : Some at.link ≡ Some l = sym at.link_is ∙ ap (link_at values) (sym here) ∙ is in
                  let own : at.link ≡ l = cc in
                  subst (λ (m : ValueLink). IsIn m.key begins.begun_after) (link_is ∙ own) begins.here
              | inr none ↦ absurd none
            ]
          ];
          pairs =
              begins.pairs ∙ (λ i. w.pairs i ++ (at.key, value_is i) ∷ [])
              ∙ ap (λ o. filter_map (pair_at keys values) w.taken ++ cons_option o []) (sym at.pair_is)
              ∙ sym (filter_map-append (pair_at keys values) w.taken (p ∷ []));
          left = λ q i.
              subst (IsIn q) (sym removed.order)
              (IsIn-filter (λ r. not (r == p)) q values_now.order (ap not (ne_eqb q p (other q i))) (w.left q (still q i)));
          left_items = λ q i. removed.others.items q (other q i) ∙ w.left_items q (still q i);
          left_links = λ q i. removed.others.links q (other q i) ∙ w.left_links q (still q i);
        }

  -- once all have come, each key has, and so all are chained
  module _ (all : n ≡ length places) where
    taken_all : w.taken ≡ places
    taken_all =
        let none : w.rest ≡ [] = no_places w.rest (omega (arith, all, w.count, ap length w.parts, length-append w.taken w.rest)) in
        sym (w.parts ∙ ap (λ ps. w.taken ++ ps) none ∙ append-nil w.taken)

    key_begun : (q : ℕ) → IsIn q keys_now.order → IsIn q w.begun
    key_begun q i =
        let l = held (link_at keys q) (chains.keys_sound.linked q (subst (IsIn q) keys_order i)) in
        let head = chains.chained.head q l.value (subst (IsIn q) keys_order i) l.is in
        let own = IsIn-kept (is_value_of values q) l.value.head values.order (first_of-member (chain_of values q) l.value.head head) in
        let m = held (link_at values l.value.head) (chains.sound.linked l.value.head own.0) in
        subst (λ k. IsIn k w.begun) (value_owner keys values q l.value.head m.value m.is own.1)
        (w.owners l.value.head m.value (subst (IsIn l.value.head) (sym taken_all) (permuted_in same l.value.head own.0)) m.is)

    pub resorting-end : AreResorted keys keys_now values sorted places
    resorting-end = record {
      kept = w.kept;
      chains = record {
        keys_sound = w.keys_sound;
        sound = w.sound;
        chained = begun_all w.keys_sound w.sound w.are_begun key_begun;
      };
      pairs = w.pairs ∙ ap (filter_map (pair_at keys values)) taken_all;
      count = w.come ∙ all;
    }
