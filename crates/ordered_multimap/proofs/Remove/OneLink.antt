-- One key has another link, and the values that stay have the keys that they had: what agreement takes over.
use Rattle.std.proofs.Common.{◌≡◌, ◌≢◌, ◌⊎◌, ◌==◌, ℕ, Bool, length, Some, IsSome, refl, sym, ap, ◌∙◌, subst, inl, inr}
use Rattle.std.proofs.lemmas.Bool.{cases_eq}
use Rattle.std.specs.List.{IsDistinct}
use Rattle.std.specs.Ordering.{nat_cmp}
use Rattle.std.specs.FinMap.{FinMap, get}
use Rattle.multimap_slots.specs.Lists.{IsIn, first_of, last_of, next_of, previous_of}
use Rattle.multimap_slots.specs.Slots.{Slots, IsSound, item_at, link_at, with_link}
use Rattle.multimap_slots.proofs.Callers.SlotChanges.{link_at-with_link, KeepsOthers-with_link}
use Rattle.multimap_walks.specs.declared.links.KeyLink.{KeyLink}
use Rattle.multimap_walks.specs.declared.links.ValueLink.{ValueLink}
use Rattle.multimap_walks.specs.Chained.{IsChained, is_value_of, chain_of, pair_at}
use Rattle.ordered_multimap.specs.Agrees.{Agrees, items_of}
use Rattle.ordered_multimap.proofs.Append.Steps.{IsSound-with_link}
use Rattle.ordered_multimap.proofs.Agreement.Agreed.{pair_in, pair_at-is, is_value_of-is}

-- the key at the place has another link, with the same hash
pub record Relinks {K : Type 0} (keys keys_after : Slots K KeyLink) (place : ℕ) (was now : KeyLink) : Type 0 where
  pub listed : IsIn place keys.order
  pub was_is : link_at keys place ≡ Some was
  pub same_hash : now.hash ≡ was.hash
  pub keys_are : keys_after ≡ with_link keys place now

-- a value that stays at its place, with its link before and after
pub record StaysLinked {V : Type 0} (values values_after : Slots V ValueLink) (q : ℕ) : Type 0 where
  pub listed : IsIn q values.order
  pub old : ValueLink
  pub old_is : link_at values q ≡ Some old
  pub now : ValueLink
  pub now_is : link_at values_after q ≡ Some now
  pub same_key : now.key ≡ old.key
  pub item : item_at values_after q ≡ item_at values q

abbrev pub stays_linked : {V : Type 0} {values values_after : Slots V ValueLink} (q : ℕ) → IsIn q values.order → (old : ValueLink)
    → link_at values q ≡ Some old → item_at values_after q ≡ item_at values q → (now : ValueLink) → link_at values_after q ≡ Some now
    → now.key ≡ old.key → StaysLinked values values_after q
stays_linked q listed old old_is item now now_is same_key =
    record { listed = listed; old = old; old_is = old_is; now = now; now_is = now_is; same_key = same_key; item = item }

module _ {K : Type 0} {keys keys_after : Slots K KeyLink} {place : ℕ} {was now : KeyLink} (r : Relinks keys keys_after place was now) where
  old_listed : (key : ℕ) → IsIn key keys_after.order → IsIn key keys.order
  old_listed key i = subst (λ (s : Slots K KeyLink). IsIn key s.order) r.keys_are i

  pub now_listed : (key : ℕ) → IsIn key keys.order → IsIn key keys_after.order
  now_listed key i = subst (λ (s : Slots K KeyLink). IsIn key s.order) (sym r.keys_are) i

  pub same_item : (key : ℕ) → item_at keys_after key ≡ item_at keys key
  same_item key = ap (λ (s : Slots K KeyLink). item_at s key) r.keys_are

  -- the key's link, and those of the others
  key_links : (key : ℕ) (l : KeyLink) → link_at keys_after key ≡ Some l
      → ((key ≡ place) × (l ≡ now)) ⊎ ((key ≢ place) × (link_at keys key ≡ Some l))
  key_links key l is =
      let linked : link_at (with_link keys place now) key ≡ Some l = ap (λ (s : Slots K KeyLink). link_at s key) (sym r.keys_are) ∙ is in
      elim (cases_eq key place) [
        | inl same ↦
            let here = link_at-with_link keys place now (subst IsSome (sym r.was_is) refl) in
            let one : Some l ≡ Some now = sym linked ∙ ap (link_at (with_link keys place now)) same ∙ here in
            inl (same, let e : l ≡ now = cc in e)
        | inr differs ↦ inr (differs, sym ((KeepsOthers-with_link keys place now).links key differs) ∙ linked)
      ]

  module _ {V : Type 0} {eq : K → K → Bool} {hash : K → ℕ} {rows : FinMap nat_cmp ℕ} {values values_after : Slots V ValueLink}
      (agrees : Agrees eq hash keys rows values) where
    -- keys, rows and values agree as they did, where the values are sound and chained
    pub agrees-relinked : IsSound values_after → IsChained keys_after values_after → Agrees eq hash keys_after rows values_after
    agrees-relinked sound chained = record {
      keys_sound = subst IsSound (sym r.keys_are) (IsSound-with_link keys place now r.listed agrees.keys_sound);
      values_sound = sound;
      chained = chained;
      distinct = subst (λ (s : Slots K KeyLink). IsDistinct eq (items_of s)) (sym r.keys_are) agrees.distinct;
      hashed = λ key k l i item is. elim (key_links key l is) [
        | inl here ↦
            let stored : item_at keys place ≡ Some k = ap (item_at keys) (sym here.0) ∙ sym (same_item key) ∙ item in
            ap (λ (m : KeyLink). m.hash) here.1 ∙ r.same_hash ∙ agrees.hashed place k was r.listed stored r.was_is
        | inr there ↦ agrees.hashed key k l (old_listed key i) (sym (same_item key) ∙ item) there.1
      ];
      in_table = λ key l i is. elim (key_links key l is) [
        | inl here ↦
            let hash_now : l.hash ≡ was.hash = ap (λ (m : KeyLink). m.hash) here.1 ∙ r.same_hash in
            ap (get rows) here.0 ∙ agrees.in_table place was r.listed r.was_is ∙ ap Some (sym hash_now)
        | inr there ↦ agrees.in_table key l (old_listed key i) there.1
      ];
      listed = λ key h is. now_listed key (agrees.listed key h is);
      counted = agrees.counted ∙ ap (λ (s : Slots K KeyLink). length s.order) (sym r.keys_are);
    }

    module _ (stays : (q : ℕ) → IsIn q values_after.order → StaysLinked values values_after q) where
      pub same_owner : (key q : ℕ) → IsIn q values_after.order → is_value_of values_after key q ≡ is_value_of values key q
      same_owner key q i =
          let s = stays q i in
          is_value_of-is keys values_after key q s.now s.now_is
          ∙ ap (λ owner. owner == key) s.same_key
          ∙ sym (is_value_of-is keys values key q s.old s.old_is)

      -- a pair that stays is the same
      pub same_pair : (q : ℕ) → IsIn q values_after.order → pair_at keys_after values_after q ≡ pair_at keys values q
      same_pair q i =
          let s = stays q i in
          let p = pair_in agrees q s.listed in
          let one : Some s.old ≡ Some p.link = sym s.old_is ∙ p.link_is in
          let link_is : s.old ≡ p.link = cc in
          let key_is : s.now.key ≡ p.link.key = s.same_key ∙ ap (λ (l : ValueLink). l.key) link_is in
          pair_at-is keys_after values_after q s.now p.key p.value s.now_is
          (same_item s.now.key ∙ ap (item_at keys) key_is ∙ p.key_is) (s.item ∙ p.value_is)
          ∙ sym p.pair_is

      -- links are chained, where those of this key are, and every value that stays names its neighbours
      module _ (other_chains : (key : ℕ) → key ≢ place → chain_of values_after key ≡ chain_of values key)
          (head_is : first_of (chain_of values_after place) ≡ Some now.head)
          (tail_is : last_of (chain_of values_after place) ≡ Some now.tail)
          (length_is : length (chain_of values_after place) ≡ now.length) where
        pub chained-relinked : ((q : ℕ) (i : IsIn q values_after.order)
            → previous_of (chain_of values_after (stays q i).now.key) q ≡ (stays q i).now.previous)
            → ((q : ℕ) (i : IsIn q values_after.order) → next_of (chain_of values_after (stays q i).now.key) q ≡ (stays q i).now.next)
            → IsChained keys_after values_after
        chained-relinked before behind = record {
          owned = λ q l i is.
              let s = stays q i in
              let one : Some s.now ≡ Some l = sym s.now_is ∙ is in
              let e : s.now ≡ l = cc in
              let key_is : s.old.key ≡ l.key = sym s.same_key ∙ ap (λ (m : ValueLink). m.key) e in
              subst (λ key. IsIn key keys_after.order) key_is (now_listed s.old.key (agrees.chained.owned q s.old s.listed s.old_is));
          head = λ key l i is. elim (key_links key l is) [
            | inl here ↦ ap (λ k. first_of (chain_of values_after k)) here.0 ∙ head_is ∙ ap (λ (m : KeyLink). Some m.head) (sym here.1)
            | inr there ↦ ap first_of (other_chains key there.0) ∙ agrees.chained.head key l (old_listed key i) there.1
          ];
          tail = λ key l i is. elim (key_links key l is) [
            | inl here ↦ ap (λ k. last_of (chain_of values_after k)) here.0 ∙ tail_is ∙ ap (λ (m : KeyLink). Some m.tail) (sym here.1)
            | inr there ↦ ap last_of (other_chains key there.0) ∙ agrees.chained.tail key l (old_listed key i) there.1
          ];
          length = λ key l i is. elim (key_links key l is) [
            | inl here ↦ ap (λ k. length (chain_of values_after k)) here.0 ∙ length_is ∙ ap (λ (m : KeyLink). m.length) (sym here.1)
            | inr there ↦ ap length (other_chains key there.0) ∙ agrees.chained.length key l (old_listed key i) there.1
          ];
          previous = λ q l i is.
              let s = stays q i in
              let one : Some s.now ≡ Some l = sym s.now_is ∙ is in
              let e : s.now ≡ l = cc in
              subst (λ (m : ValueLink). previous_of (chain_of values_after m.key) q ≡ m.previous) e (before q i);
          next = λ q l i is.
              let s = stays q i in
              let one : Some s.now ≡ Some l = sym s.now_is ∙ is in
              let e : s.now ≡ l = cc in
              subst (λ (m : ValueLink). next_of (chain_of values_after m.key) q ≡ m.next) e (behind q i);
        }
