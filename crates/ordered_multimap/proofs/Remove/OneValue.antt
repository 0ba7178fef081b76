-- Where one of several values of a key leaves, key list, table and values agree, and the other pairs are as they were.
use Rattle.std.proofs.Common.{◌≡◌, ◌≢◌, ◌==◌, ◌<◌, ℕ, Bool, true, not, List, ◌∷◌, ◌++◌, length, filter, Option, Some, IsSome, refl, sym}
use Rattle.std.proofs.Common.{ap, ◌∙◌, subst, inl, inr, arith, length-append}
use Rattle.std.proofs.lemmas.Bool.{cases_eq}
use Rattle.std.specs.Ordering.{nat_cmp}
use Rattle.std.specs.FinMap.{FinMap}
use Rattle.multimap_slots.specs.Lists.{IsIn, AreDistinct, first_of, last_of, next_of, previous_of, without}
use Rattle.multimap_slots.specs.Slots.{Slots, IsSound, HasItem, item_at, link_at}
use Rattle.multimap_slots.proofs.Callers.PlaceLists.{IsIn-kept, IsIn-without, Split, without-absent, without-split}
use Rattle.multimap_walks.specs.declared.links.KeyLink.{KeyLink}
use Rattle.multimap_walks.specs.declared.links.ValueLink.{ValueLink}
use Rattle.multimap_walks.specs.Chained.{IsChained, is_value_of, chain_of, pair_at}
use Rattle.ordered_multimap.specs.Agrees.{Agrees, items_of}
use Rattle.ordered_multimap.specs.Private.RemoveOne.{TakesOne, without_value}
use Rattle.ordered_multimap.proofs.Callers.Places.{held, AreDistinct-filter, filter-agree, filter_shorter}
use Rattle.ordered_multimap.proofs.Chains.LongerLists.{cases_some}
use Rattle.ordered_multimap.proofs.Agreement.Agreed.{value_owner}
use Rattle.ordered_multimap.proofs.Chains.Parts.{filter-commute, head_left, tail_left, next_left, previous_left}
use Rattle.ordered_multimap.proofs.Chains.Parts.{parts, apart, last_before, first_behind, before_own, behind_own, neighbours_differ}
use Rattle.ordered_multimap.proofs.Remove.OneLink.{Relinks, StaysLinked, now_listed, same_item, same_owner, same_pair, stays_linked}
use Rattle.ordered_multimap.proofs.Remove.OneLink.{agrees-relinked, chained-relinked}

module _ {K V : Type 0} {eq : K → K → Bool} {hash : K → ℕ} {keys keys_after : Slots K KeyLink} {rows : FinMap nat_cmp ℕ}
    {values values_after : Slots V ValueLink} (agrees : Agrees eq hash keys rows values) (place : ℕ) (listed : IsIn place values.order)
    {v : V} (takes : TakesOne keys keys_after values values_after place v) where
  abbrev chain : Split place (chain_of values takes.link.key)
  chain = parts agrees.values_sound agrees.chained place takes.link listed takes.link_is

  before_is : last_of chain.front ≡ takes.link.previous
  before_is = last_before agrees.values_sound agrees.chained place takes.link listed takes.link_is

  behind_is : first_of chain.back ≡ takes.link.next
  behind_is = first_behind agrees.values_sound agrees.chained place takes.link listed takes.link_is

  order_distinct : AreDistinct values_after.order
  order_distinct = subst AreDistinct (sym takes.order)
      (AreDistinct-filter (λ p. not (p == place)) values.order agrees.values_sound.distinct)

  -- a place that stays; its link is another one only where it named the value that left
  record StaysBesideOne (q : ℕ) : Type 0 where
    kept : StaysLinked values values_after q
    other : q ≢ place
    behind : takes.link.next ≡ Some q → kept.now.previous ≡ takes.link.previous
    not_behind : takes.link.next ≢ Some q → kept.now.previous ≡ kept.old.previous
    before : takes.link.previous ≡ Some q → kept.now.next ≡ takes.link.next
    not_before : takes.link.previous ≢ Some q → kept.now.next ≡ kept.old.next

  stays_at : (q : ℕ) → IsIn q values_after.order → StaysBesideOne q
  stays_at q i =
      let left = IsIn-without q values.order place (subst (IsIn q) takes.order i) in
      let l = held (link_at values q) (agrees.values_sound.linked q left.0) in
      let kept = stays_linked q left.0 l.value l.is (takes.items q left.1) in
      elim (cases_some takes.link.previous q) [
        | inl before ↦ record {
          kept = kept (record l.value { next = takes.link.next }) (takes.before q l.value before l.is) refl;
          other = left.1;
          behind = λ e.
              absurd (neighbours_differ agrees.values_sound agrees.chained place takes.link listed takes.link_is q before e);
          not_behind = λ _. refl;
          before = λ _. refl;
          not_before = λ e. absurd (e before);
        }
        | inr not_before ↦ elim (cases_some takes.link.next q) [
          | inl behind ↦ record {
            kept = kept (record l.value { previous = takes.link.previous }) (takes.behind q l.value behind l.is) refl;
            other = left.1;
            behind = λ _. refl;
            not_behind = λ e. absurd (e behind);
            before = λ e. absurd (not_before e);
            not_before = λ _. refl;
          }
          | inr not_behind ↦ record {
            kept = kept l.value (takes.links q left.1 not_before not_behind ∙ l.is) refl;
            other = left.1;
            behind = λ e. absurd (not_behind e);
            not_behind = λ _. refl;
            before = λ e. absurd (not_before e);
            not_before = λ _. refl;
          }
        ]
      ]

  abbrev kept_at : (q : ℕ) → IsIn q values_after.order → StaysLinked values values_after q
  kept_at q i = (stays_at q i).kept

  link_now : KeyLink
  link_now = without_value takes.key_link takes.link

  key_listed : IsIn takes.link.key keys.order
  key_listed = agrees.chained.owned place takes.link listed takes.link_is

  relinks : Relinks keys keys_after takes.link.key takes.key_link link_now
  unfolding link_now
  relinks = record { listed = key_listed; was_is = takes.key_link_is; same_hash = refl; keys_are = takes.keys_are }

  -- each chain loses just this place
  chain_of-one : (key : ℕ) → chain_of values_after key ≡ without (chain_of values key) place
  chain_of-one key =
      filter-agree (is_value_of values_after key) (is_value_of values key) values_after.order (same_owner relinks agrees kept_at key)
      ∙ ap (filter (is_value_of values key)) takes.order
      ∙ filter-commute (is_value_of values key) (λ q. not (q == place)) values.order

  chain_here : chain_of values_after takes.link.key ≡ chain.front ++ chain.back
  chain_here =
      chain_of-one takes.link.key ∙ ap (λ ps. without ps place) chain.is
      ∙ without-split chain.front place chain.back (apart agrees.values_sound agrees.chained place takes.link listed takes.link_is)

  left_distinct : AreDistinct (chain.front ++ chain.back)
  left_distinct = subst AreDistinct chain_here
      (AreDistinct-filter (is_value_of values_after takes.link.key) values_after.order order_distinct)

  chain_there : (key : ℕ) → key ≢ takes.link.key → chain_of values_after key ≡ chain_of values key
  chain_there key differs = chain_of-one key ∙ without-absent (chain_of values key) place
      (λ i. let own = IsIn-kept (is_value_of values key) place values.order i in
      differs (sym (value_owner keys values key place takes.link takes.link_is own.1)))

  -- a neighbour of the value that left is of the same key
  same_key : (q : ℕ) (s : StaysLinked values values_after q) → is_value_of values takes.link.key q ≡ true → s.old.key ≡ takes.link.key
  same_key q s own = value_owner keys values takes.link.key q s.old s.old_is own

  -- what is beside a place that stays, on either side
  relinked : (beside : List ℕ → ℕ → Option ℕ) (side : ValueLink → Option ℕ) (q : ℕ) (s : StaysLinked values values_after q)
      → beside (chain_of values s.old.key) q ≡ side s.old
      → (beside (chain.front ++ place ∷ chain.back) q ≡ side s.old → beside (chain.front ++ chain.back) q ≡ side s.now)
      → (s.old.key ≢ takes.link.key → side s.now ≡ side s.old) → beside (chain_of values_after s.now.key) q ≡ side s.now
  relinked beside side q s was here_left there_same =
      let left : beside (chain_of values_after s.old.key) q ≡ side s.now =
      elim (cases_eq s.old.key takes.link.key) [
        | inl here ↦
            ap (λ key. beside (chain_of values_after key) q) here ∙ ap (λ ps. beside ps q) chain_here
            ∙ here_left (ap (λ ps. beside ps q) (sym chain.is) ∙ ap (λ key. beside (chain_of values key) q) (sym here) ∙ was)
        | inr there ↦ ap (λ ps. beside ps q) (chain_there s.old.key there) ∙ was ∙ sym (there_same there)
      ] in
      ap (λ key. beside (chain_of values_after key) q) s.same_key ∙ left

  neighbours : (q : ℕ) (i : IsIn q values_after.order)
      → (previous_of (chain_of values_after (kept_at q i).now.key) q ≡ (kept_at q i).now.previous)
      × (next_of (chain_of values_after (kept_at q i).now.key) q ≡ (kept_at q i).now.next)
  neighbours q i =
      let s = stays_at q i in
      let own = same_key q s.kept in (
        relinked previous_of (λ l. l.previous) q s.kept (agrees.chained.previous q s.kept.old s.kept.listed s.kept.old_is)
            (λ whole. previous_left chain.front chain.back place q left_distinct s.other before_is behind_is whole s.behind s.not_behind)
            (λ there. s.not_behind (λ e. there
            (own (behind_own agrees.values_sound agrees.chained place takes.link listed takes.link_is q e).1))),
        relinked next_of (λ l. l.next) q s.kept (agrees.chained.next q s.kept.old s.kept.listed s.kept.old_is)
            (λ whole. next_left chain.front chain.back place q left_distinct s.other before_is behind_is whole s.before s.not_before)
            (λ there. s.not_before (λ e. there
            (own (before_own agrees.values_sound agrees.chained place takes.link listed takes.link_is q e).1))),
      )

  -- the key's link names the ends and the length of what is left of its chain
  chained-one : IsChained keys_after values_after
  unfolding link_now
  chained-one =
      let count = agrees.chained.length takes.link.key takes.key_link key_listed takes.key_link_is in
      let several : 1 < length (chain.front ++ place ∷ chain.back) = omega (arith, takes.more, ap length chain.is, count) in
      chained-relinked relinks agrees kept_at chain_there
      (ap first_of chain_here ∙ head_left chain.front chain.back place takes.link.previous takes.link.next takes.key_link.head
      before_is behind_is several
      (ap first_of (sym chain.is) ∙ agrees.chained.head takes.link.key takes.key_link key_listed takes.key_link_is))
      (ap last_of chain_here ∙ tail_left chain.front chain.back place takes.link.previous takes.link.next takes.key_link.tail
      before_is behind_is several
      (ap last_of (sym chain.is) ∙ agrees.chained.tail takes.link.key takes.key_link key_listed takes.key_link_is))
      (omega (
        arith,
        ap length chain_here,
        ap length chain.is,
        length-append chain.front chain.back,
        length-append chain.front (place ∷ chain.back),
        count,
      ))
      (λ q i. (neighbours q i).0) (λ q i. (neighbours q i).1)

  values_sound-one : IsSound values_after
  values_sound-one = record {
    distinct = order_distinct;
    filled = λ q i. let s = kept_at q i in subst IsSome (sym s.item) (agrees.values_sound.filled q s.listed);
    linked = λ q i. let s = kept_at q i in subst IsSome (sym s.now_is) refl;
    fits = omega (
      arith,
      agrees.values_sound.fits,
      takes.capacity,
      ap length takes.order,
      filter_shorter (λ p. not (p == place)) values.order,
    );
  }

  pub agrees-one : Agrees eq hash keys_after rows values_after
  agrees-one = agrees-relinked relinks agrees values_sound-one chained-one

  -- the keys are as they were
  pub items_of-one : items_of keys_after ≡ items_of keys
  items_of-one = λ i. items_of (takes.keys_are i)

  pub has_item-one : (k : K) → item_at keys takes.link.key ≡ Some k → HasItem keys_after takes.link.key k
  has_item-one k is = record {
    listed = now_listed relinks takes.link.key key_listed;
    item_is = same_item relinks takes.link.key ∙ is;
  }

  -- a pair that stays is the same
  pub pair_at-one : (q : ℕ) → IsIn q values_after.order → pair_at keys_after values_after q ≡ pair_at keys values q
  pair_at-one = same_pair relinks agrees kept_at
