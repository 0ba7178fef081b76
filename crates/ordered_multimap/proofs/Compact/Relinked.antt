-- The steps that take one value down and mend the links are one move.
use Rattle.std.proofs.Common.{◌≡◌, ◌≢◌, ℕ, zero, suc, List, [], ◌∷◌, set, slice_get, Option, IfSome, IsSome, Some, None, refl, sym, ap, ◌∙◌}
use Rattle.std.proofs.Common.{subst, arith}
use Rattle.multimap_slots.specs.Lists.{IsIn, AreDistinct, next_of}
use Rattle.multimap_slots.specs.Slots.{Slots, IsSound, item_at, link_at, with_link}
use Rattle.multimap_slots.specs.Tapes.{Taped, MovesDown}
use Rattle.multimap_slots.proofs.Callers.PlaceLists.{AreDistinct-gone, IsIn-kept, IsIn-left, IsIn-was, next_of-split}
use Rattle.multimap_slots.proofs.Callers.TapePlaces.{previous_of-first}
use Rattle.multimap_slots.proofs.Callers.PlaceLists.{IsIn-besides}
use Rattle.multimap_slots.proofs.Callers.SlotChanges.{link_at-with_link, KeepsOthers-with_link}
use Rattle.multimap_walks.specs.declared.links.KeyLink.{KeyLink}
use Rattle.multimap_walks.specs.declared.links.ValueLink.{ValueLink}
use Rattle.multimap_walks.specs.Chained.{IsChained, is_value_of, chain_of}
use Rattle.ordered_multimap.specs.Private.Relocations.{WritesLink, relocated, relocated_key}
use Rattle.ordered_multimap.proofs.Callers.Places.{held, ends, AreDistinct-filter}
use Rattle.ordered_multimap.proofs.Compact.OneMove.{relocated-other, MovesValue}
use Rattle.ordered_multimap.proofs.Append.Steps.{if_each}
use Rattle.ordered_multimap.proofs.Chains.Neighbours.{next_of-members, previous_of-members, next_is, no_cycle}

module _ {K V : Type 0} {keys : Slots K KeyLink} {values : Slots V ValueLink} (keys_sound : IsSound keys) (values_sound : IsSound values)
    (chained : IsChained keys values)
    (from : ℕ) (l : ValueLink) (listed : IsIn from values.order) (had : link_at values from ≡ Some l) where
  pub previous_listed : (q : ℕ) → l.previous ≡ Some q → IsIn q values.order
  previous_listed q e =
      (IsIn-kept (is_value_of values l.key) q values.order
      (previous_of-members (chain_of values l.key) from q (chained.previous from l listed had ∙ e)).1).0

  pub next_listed : (q : ℕ) → l.next ≡ Some q → IsIn q values.order
  next_listed q e =
      (IsIn-kept (is_value_of values l.key) q values.order
      (next_of-members (chain_of values l.key) from q (chained.next from l listed had ∙ e)).1).0

  distinct : AreDistinct (chain_of values l.key)
  distinct = AreDistinct-filter (is_value_of values l.key) values.order values_sound.distinct

  previous_differs : (q : ℕ) → l.previous ≡ Some q → q ≢ from
  previous_differs q e same =
      let follows = next_is (chain_of values l.key) distinct from from (chained.previous from l listed had ∙ e ∙ ap Some same) in
      no_cycle (chain_of values l.key) distinct from from follows follows

  next_differs : (q : ℕ) → l.next ≡ Some q → q ≢ from
  next_differs q e same =
      let follows = chained.next from l listed had ∙ e ∙ ap Some same in
      no_cycle (chain_of values l.key) distinct from from follows follows

  not_both : (q : ℕ) → l.previous ≡ Some q → l.next ≢ Some q
  not_both q back forth =
      no_cycle (chain_of values l.key) distinct q from
      (next_is (chain_of values l.key) distinct q from (chained.previous from l listed had ∙ back))
      (chained.next from l listed had ∙ forth)

  pub owner_listed : IsIn l.key keys.order
  owner_listed = chained.owned from l listed had

  -- a value between two others is no end of its chain
  pub ends-kept : (to : ℕ) → IsSome l.previous → IsSome l.next → (k : KeyLink) → link_at keys l.key ≡ Some k
      → relocated_key (relocated from to) k ≡ k
  ends-kept to back forth k is =
      ap (λ h. record k { head = h; tail = relocated from to k.tail }) (relocated-other from to k.head not_head)
      ∙ ap (λ t. record k { tail = t }) (relocated-other from to k.tail not_tail)
    where
      none_some : (o : Option ℕ) → o ≡ None → IsSome o → ⊥
      none_some o e some = let bad = rw e at some in cc

      not_head : k.head ≢ from
      not_head e =
          none_some l.previous (sym (chained.previous from l listed had)
          ∙ previous_of-first (chain_of values l.key) from distinct (chained.head l.key k owner_listed is ∙ ap Some e)) back

      not_tail : k.tail ≢ from
      not_tail e =
          let s = ends (chain_of values l.key) from (chained.tail l.key k owner_listed is ∙ ap Some e) in
          none_some l.next (sym (chained.next from l listed had) ∙ ap (λ ps. next_of ps from) s.is
          ∙ next_of-split s.front from [] (λ i. AreDistinct-gone s.front from [] (subst AreDistinct s.is distinct)
          (IsIn-left from s.front [] i))) forth

  module _ (to : ℕ) (moved : Slots V ValueLink) (down : MovesDown values moved from to) where
    still_listed : (q : ℕ) → IsIn q values.order → q ≢ from → IsIn q moved.order
    still_listed q i differs =
        let kept = IsIn-besides q down.order.front from down.order.back differs (subst (IsIn q) down.order.was i) in
        subst (IsIn q) (sym down.order.is) (IsIn-was q down.order.front to down.order.back kept)

    -- both neighbours are still listed
    pub before_listed : IfSome l.previous (λ p. IsIn p moved.order)
    before_listed = if_each l.previous (λ q e. still_listed q (previous_listed q e) (previous_differs q e))

    pub behind_listed : IfSome l.next (λ p. IsIn p moved.order)
    behind_listed = if_each l.next (λ q e. still_listed q (next_listed q e) (next_differs q e))

  module _ (to : ℕ) (first second third : Taped V ValueLink) (down : MovesDown values first.list from to)
      (room : first.list.capacity ≡ values.capacity)
      (before : WritesLink first second l.previous (λ m. record m { next = Some to }))
      (behind : WritesLink second third l.next (λ m. record m { previous = Some to }))
      (keys_after : Slots K KeyLink) (mends : (k : KeyLink) → link_at keys l.key ≡ Some k
      → keys_after ≡ with_link keys l.key (relocated_key (relocated from to) k)) where
    away : (q : ℕ) → IsIn q values.order → q ≢ to
    away q i e = down.was_absent (subst (λ p. IsIn p values.order) e i)

    pub moves-value : MovesValue keys keys_after values third.list from to l
    moves-value =
        let k = held (link_at keys l.key) (keys_sound.linked l.key owner_listed) in
        let set = mends k.value k.is in
        record {
          was_absent = down.was_absent;
          was_listed = listed;
          had = had;
          order = record {
            front = down.order.front;
            back = down.order.back;
            was = down.order.was;
            is = ap (λ t. t.list.order) behind.rest ∙ ap (λ t. t.list.order) before.rest ∙ down.order.is;
          };
          room = omega (arith, values_sound.fits, room, ap (λ t. t.list.capacity) behind.rest, ap (λ t. t.list.capacity) before.rest);
          item_is = ap (λ t. item_at t.list to) behind.rest ∙ ap (λ t. item_at t.list to) before.rest ∙ down.item_is;
          items = λ q not_from not_to. ap (λ t. item_at t.list q) behind.rest ∙ ap (λ t. item_at t.list q) before.rest
              ∙ down.items q not_from not_to;
          link_is =
              behind.others to (λ e. away to (next_listed to e) refl) ∙ before.others to (λ e. away to (previous_listed to e) refl)
              ∙ down.link_is ∙ had;
          before = λ q m e is.
              behind.others q (not_both q e) ∙ before.here q m e (down.links q (away q (previous_listed q e)) ∙ is);
          behind = λ q m e is.
              behind.here q m e (before.others q (λ back. not_both q back e) ∙ down.links q (away q (next_listed q e)) ∙ is);
          others = λ q not_from not_to no_back no_forth. behind.others q no_forth ∙ before.others q no_back ∙ down.links q not_to;
          key_order = ap (λ s. s.order) set;
          key_items = λ q. ap (λ s. item_at s q) set;
          key_link = λ m is. ap (λ s. link_at s l.key) (mends m is)
              ∙ link_at-with_link keys l.key (relocated_key (relocated from to) m) (keys_sound.linked l.key owner_listed);
          key_others = λ q differs. ap (λ s. link_at s q) set
              ∙ (KeepsOthers-with_link keys l.key (relocated_key (relocated from to) k.value)).links q differs;
          key_room = omega (arith, keys_sound.fits, ap (λ s. s.capacity) set);
        }

-- the link that is there is written again
set_again : {X : Type 0} (xs : List X) (i : ℕ) (x : X) → slice_get xs i ≡ Some x → set xs i x ≡ xs
set_again [] i x e = refl
set_again (y ∷ ys) zero x e = ap (λ z. z ∷ ys) (let same : y ≡ x = cc in sym same)
set_again (y ∷ ys) (suc i) x e = ap (λ zs. y ∷ zs) (set_again ys i x e)

pub with_link-again : {T L : Type 0} (s : Slots T L) (place : ℕ) (l m : L) → link_at s place ≡ Some l → m ≡ l → s ≡ with_link s place m
with_link-again s place l m is same = λ i. record s { links = sym (ap (λ x. set s.links place x) same ∙ set_again s.links place l is) i }
