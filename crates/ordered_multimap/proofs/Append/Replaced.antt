-- A value that comes last in the place of the only one of its key, without a link between the two.
use Rattle.std.proofs.Common.{◌≡◌, ◌≢◌, ◌+◌, ℕ, false, [], ◌∷◌, length, Some, None, IsSome, refl, sym, ap, ◌∙◌, subst, inl, inr}
use Rattle.std.proofs.Common.{true≢false, arith}
use Rattle.std.proofs.lemmas.Bool.{cases_eq}
use Rattle.std.proofs.lemmas.List.{set-set}
use Rattle.multimap_slots.specs.Lists.{IsIn, last_of}
use Rattle.multimap_slots.specs.Slots.{Slots, IsSound, Removes, link_at, with_link}
use Rattle.multimap_slots.specs.Tapes.{Taped, Frees, with_list}
use Rattle.multimap_slots.proofs.Callers.PlaceLists.{IsIn-kept, IsIn-left, IsIn-right}
use Rattle.multimap_slots.proofs.Callers.SlotChanges.{link_at-with_link, KeepsOthers-with_link}
use Rattle.multimap_walks.specs.declared.links.ChainEnds.{ChainEnds}
use Rattle.multimap_walks.specs.declared.links.KeyLink.{KeyLink}
use Rattle.multimap_walks.specs.declared.links.ValueLink.{ValueLink}
use Rattle.multimap_walks.specs.Chained.{IsChained, is_value_of, chain_of}
use Rattle.ordered_multimap.specs.Private.Append.{ComesLast, PushesBehind, PushesValue}
use Rattle.ordered_multimap.specs.Private.Remove.{AreUnlinked, HasChain, ReplacesChain, TakesOlder, UnlinksValue}
use Rattle.ordered_multimap.proofs.Callers.Places.{begins, held}
use Rattle.ordered_multimap.proofs.Chains.Neighbours.{first_of-member}
use Rattle.ordered_multimap.proofs.Append.Inserted.{chained-behind}
use Rattle.ordered_multimap.proofs.Append.Steps.{IsSound-with_link}
use Rattle.ordered_multimap.proofs.Remove.ValueByValue.{nothing, chain_row}
use Rattle.ordered_multimap.proofs.Remove.WaysOut.{leaving-first}

-- the value at the head of a chain is still listed once another one has come
module _ {K V : Type 0} {keys : Slots K KeyLink} {values : Slots V ValueLink} {place : ℕ} (l : KeyLink) (chain : HasChain keys values place)
    (l_is : link_at keys place ≡ Some l) where
  head_listed : IsIn l.head values.order
  head_listed = (IsIn-kept (is_value_of values place) l.head values.order
      (first_of-member (chain_of values place) l.head (chain.chains.chained.head place l chain.listed l_is))).0

  pub head_stays : {pushed : Slots V ValueLink} {last : ℕ} {v : V} → PushesValue values pushed last v place None → IsIn l.head pushed.order
  head_stays {last = last} comes = subst (IsIn l.head) (sym comes.order) (IsIn-left l.head values.order (last ∷ []) head_listed)

-- the key's only value leaves, once the new one stands at the last place. As if each had named the
-- other in between, that is a value put behind the others of the key, which then leave.
module _ {K V : Type 0} {keys : Slots K KeyLink} {values pushed after : Taped V ValueLink} {place last : ℕ} {v old : V} (l : KeyLink)
    (chain : HasChain keys values.list place) (l_is : link_at keys place ≡ Some l) (one : l.length ≡ 1)
    (comes : PushesValue values.list pushed.list last v place None) (behind_all : ComesLast values pushed last)
    (leaves : Removes pushed.list after.list l.head old) (frees : Frees pushed after) where
  abbrev chained : IsChained keys values.list
  chained = chain.chains.chained

  same_end : l.tail ≡ l.head
  same_end =
      let b = begins (chain_of values.list place) l.head (chained.head place l chain.listed l_is) in
      let none = nothing b.rest (omega (arith, one, chained.length place l chain.listed l_is, ap length b.is)) in
      let tail : Some l.tail ≡ Some l.head =
      sym (chained.tail place l chain.listed l_is) ∙ ap last_of (b.is ∙ ap (λ qs. l.head ∷ qs) none) in
      cc

  head_pushed : IsIn l.head pushed.list.order
  head_pushed = leaves.was_listed

  last_pushed : IsIn last pushed.list.order
  last_pushed = subst (IsIn last) (sym comes.order) (IsIn-right last values.list.order (last ∷ []) (inl refl))

  differs : l.head ≢ last
  differs same = comes.was_absent (subst (λ q. IsIn q values.list.order) same (head_listed l chain l_is))

  -- the link of the old value, which would name the new one
  old_link : ValueLink
  old_link = (held (link_at values.list l.head) (chain.chains.sound.linked l.head (head_listed l chain l_is))).value

  old_is : link_at values.list l.head ≡ Some old_link
  unfolding old_link
  old_is = (held (link_at values.list l.head) (chain.chains.sound.linked l.head (head_listed l chain l_is))).is

  abbrev to_new : ValueLink
  to_new = record old_link { next = Some last }

  abbrev to_old : ValueLink
  to_old = record { key = place; previous = Some l.tail; next = None }

  abbrev half : Slots V ValueLink
  half = with_link pushed.list l.head to_new

  abbrev linked : Taped V ValueLink
  linked = with_list pushed (with_link half last to_old)

  half_sound : IsSound half
  half_sound = IsSound-with_link pushed.list l.head to_new head_pushed behind_all.sound

  linked_sound : IsSound linked.list
  linked_sound = IsSound-with_link half last to_old last_pushed half_sound

  at_last : link_at linked.list last ≡ Some to_old
  at_last = link_at-with_link half last to_old (half_sound.linked last last_pushed)

  at_head : link_at linked.list l.head ≡ Some to_new
  at_head = (KeepsOthers-with_link half last to_old).links l.head differs
      ∙ link_at-with_link pushed.list l.head to_new (behind_all.sound.linked l.head head_pushed)

  elsewhere : (q : ℕ) → q ≢ last → q ≢ l.head → link_at linked.list q ≡ link_at pushed.list q
  elsewhere q other apart = (KeepsOthers-with_link half last to_old).links q other
      ∙ (KeepsOthers-with_link pushed.list l.head to_new).links q apart

  abbrev link_now : KeyLink
  link_now = record l { tail = last; length = l.length + 1 }

  behind : PushesBehind keys (with_link keys place link_now) values.list linked.list place v
  behind = record {
    link = l;
    last = last;
    link_is = l_is;
    pushed = record {
      was_absent = comes.was_absent;
      order = comes.order;
      item_is = comes.item_is;
      link_is = at_last;
      items = comes.items;
      behind = λ q x is has.
          let same : q ≡ l.head = sym (let e : l.tail ≡ q = cc in e) ∙ same_end in
          let own : old_link ≡ x = let e = sym old_is ∙ ap (link_at values.list) (sym same) ∙ has in cc in
          ap (link_at linked.list) same ∙ at_head ∙ ap (λ (k : ValueLink). Some (record k { next = Some last })) own;
      links = λ q other apart.
          elsewhere q other (λ e. apart (ap Some (same_end ∙ sym e))) ∙ comes.links q other (λ e. cc);
    };
    sound = linked_sound;
    keys_are = refl;
  }

  abbrev left : Taped V ValueLink
  left = with_list after (with_link after.list last to_old)

  after_last : link_at after.list last ≡ Some (record { key = place; previous = None; next = None })
  after_last = leaves.others.links last (λ e. differs (sym e)) ∙ comes.link_is

  left_last : link_at left.list last ≡ Some to_old
  left_last = link_at-with_link after.list last to_old (subst IsSome (sym after_last) refl)

  unlinks : UnlinksValue false linked left l.head to_new
  unlinks = record {
    link_is = at_head;
    order = leaves.order;
    shorter = leaves.shorter;
    others = record {
      items = leaves.others.items;
      links = λ q apart. elim (cases_eq q last) [
        | inl same ↦ ap (link_at left.list) same ∙ left_last ∙ sym (ap (link_at linked.list) same ∙ at_last)
        | inr other ↦
            (KeepsOthers-with_link after.list last to_old).links q other ∙ leaves.others.links q apart
            ∙ sym (elsewhere q other apart)
      ];
    };
    capacity = leaves.capacity;
    kept = λ e. absurd (true≢false (sym e));
    frees = record { moved = frees.moved; freed = frees.freed; holes = frees.holes };
  }

  now_is : link_at (with_link keys place link_now) place ≡ Some link_now
  now_is = link_at-with_link keys place link_now (chain.chains.keys_sound.linked place chain.listed)

  unlinked : AreUnlinked false (chain_of linked.list place) 1 l.head (Some last) linked left
  unlinked =
      leaving-first (chain_row linked_sound
      (chained-behind chain.chains.keys_sound chained place chain.listed chain.chains.sound behind) place link_now chain.listed now_is 1
      (omega (arith, one))) left to_new unlinks

  older : TakesOlder (with_link keys place link_now) (with_link keys place (record l { head = last; tail = last }))
      linked.list after.list place
  older = record {
    link = link_now;
    link_is = now_is;
    count = 1;
    older = omega (arith, one);
    left = left.list;
    taking = unlinked.taking;
    rest = refl;
    alone = λ x is. let same : to_old ≡ x = let e = sym left_last ∙ is in cc in
        after_last ∙ ap (λ (k : ValueLink). Some (record k { previous = None })) same;
    links = λ q other. sym ((KeepsOthers-with_link after.list last to_old).links q other);
    keys_are =
        let alone : KeyLink = record { hash = l.hash; head = last; tail = last; length = 1 } in
        ap (λ n. with_link keys place (record l { head = last; tail = last; length = n })) one
        ∙ ap (λ links. record keys { links = links }) (sym (set-set keys.links place link_now alone));
  }

  pub replaced : (ends : ChainEnds) → ReplacesChain false (λ u. old ≡ u) keys (with_link keys place (record l { head = last; tail = last }))
      values after place v ends
  unfolding older
  replaced ends = record {
    keys_pushed = with_link keys place link_now;
    pushed_values = linked;
    pushed = behind;
    room = record {
      counts = record {
        moved = behind_all.room.counts.moved;
        freed = behind_all.room.counts.freed;
        holes = behind_all.room.counts.holes;
      };
      capacity = behind_all.room.capacity;
    };
    older = record {
      older = older;
      first = λ u is. let e = sym leaves.had ∙ is in cc;
      counts = record { freed = unlinked.freed; paid = omega (arith, unlinked.moved, unlinked.holes) };
      shorter = leaves.shorter;
      drain = λ e. absurd (true≢false (sym e));
    };
  }
