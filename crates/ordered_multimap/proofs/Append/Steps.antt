-- What the steps of an append make of the slots.
use Rattle.std.proofs.Common.{◌≡◌, ◌≢◌, ◌⊎◌, ℕ, false, [], ◌∷◌, length, Option, Some, None, IsSome, IfSome, refl, sym, ap, ◌∙◌, subst, inl}
use Rattle.std.proofs.Common.{inr, true≢false, Result, Ok, Err, is_err, OnOk, arith, length-append}
use Rattle.std.proofs.lemmas.Bool.{cases_eq}
use Rattle.multimap_slots.specs.Lists.{IsIn, AreDistinct}
use Rattle.multimap_slots.specs.Slots.{Slots, IsSound, HasRoomFor, PushesBack, item_at, link_at, with_item, with_link}
use Rattle.multimap_slots.specs.Tapes.{Taped, KeepsCounts, with_list}
use Rattle.multimap_slots.proofs.Callers.PlaceLists.{IsIn-append, IsIn-left, IsIn-right, AreDistinct-push}
use Rattle.multimap_slots.proofs.Callers.SlotChanges.{link_at-with_link, KeepsOthers-with_link}
use Rattle.multimap_walks.specs.declared.links.KeyLink.{KeyLink}
use Rattle.multimap_walks.specs.declared.links.ValueLink.{ValueLink}
use Rattle.ordered_multimap.specs.Private.Append.{KeepsTapeRoom, PushesValue}
use Rattle.ordered_multimap.specs.Private.Relocations.{WritesLink}

-- the key is listed at the place with this link, and each other key as before
pub record SetsKey {K : Type 0} (old new : Slots K KeyLink) (place : ℕ) (k : K)
    (link : KeyLink) : Type 0 where
  pub listed : IsIn place new.order
  pub item_is : item_at new place ≡ Some k
  pub link_is : link_at new place ≡ Some link
  pub kept : (q : ℕ) → IsIn q old.order → IsIn q new.order
  pub came : (q : ℕ) → q ≢ place → IsIn q new.order → IsIn q old.order
  pub items : (q : ℕ) → IsIn q old.order → item_at new q ≡ item_at old q
  pub links : (q : ℕ) → q ≢ place → link_at new q ≡ link_at old q

module _ {T L : Type 0} {old new : Slots T L} {place : ℕ} {item : T} {link : L} (pushed : PushesBack old new place item link) where
  -- an old place is another one
  pub old_other : (q : ℕ) → IsIn q old.order → q ≢ place
  old_other q listed same = pushed.was_absent (subst (λ p. IsIn p old.order) same listed)

  pub old_listed : (q : ℕ) → IsIn q old.order → IsIn q new.order
  old_listed q listed = subst (IsIn q) (sym pushed.order) (IsIn-left q old.order (place ∷ []) listed)

  pub new_listed : IsIn place new.order
  new_listed = subst (IsIn place) (sym pushed.order) (IsIn-right place old.order (place ∷ []) (inl refl))

  pub listed_cases : (q : ℕ) → IsIn q new.order → IsIn q old.order ⊎ (q ≡ place)
  listed_cases q listed = elim (IsIn-append q old.order (place ∷ []) (subst (IsIn q) pushed.order listed)) [
    | inl before ↦ inl before
    | inr last ↦ elim last [ inl same ↦ inr same | inr none ↦ absurd none ]
  ]

  -- a list with room stays sound
  pub IsSound-push : IsSound old → HasRoomFor old 1 → new.capacity ≡ old.capacity → IsSound new
  IsSound-push sound room same = record {
    distinct = subst AreDistinct (sym pushed.order) (AreDistinct-push old.order place pushed.was_absent sound.distinct);
    filled = λ q listed. elim (listed_cases q listed) [
      | inl before ↦ subst IsSome (sym (pushed.others.items q (old_other q before))) (sound.filled q before)
      | inr here ↦ subst IsSome (sym (ap (item_at new) here ∙ pushed.item_is)) refl
    ];
    linked = λ q listed. elim (listed_cases q listed) [
      | inl before ↦ subst IsSome (sym (pushed.others.links q (old_other q before))) (sound.linked q before)
      | inr here ↦ subst IsSome (sym (ap (link_at new) here ∙ pushed.link_is)) refl
    ];
    fits = omega (arith, room, same, ap length pushed.order, length-append old.order (place ∷ []));
  }

-- another link keeps a list sound
pub IsSound-with_link : {T L : Type 0} (s : Slots T L) (place : ℕ) (link : L) → IsIn place s.order → IsSound s
    → IsSound (with_link s place link)
IsSound-with_link s place link at_place sound = record {
  distinct = sound.distinct;
  filled = sound.filled;
  linked = λ q listed. elim (cases_eq q place) [
    | inl here ↦ subst IsSome (sym (ap (link_at (with_link s place link)) here
        ∙ link_at-with_link s place link (sound.linked place at_place))) refl
    | inr other ↦ subst IsSome (sym ((KeepsOthers-with_link s place link).links q other)) (sound.linked q listed)
  ];
  fits = sound.fits;
}

-- what holds for each place holds for one that may be there
pub if_each : {P : ℕ → Type 0} (o : Option ℕ) → ((q : ℕ) → o ≡ Some q → P q) → IfSome o P
if_each None each = tt
if_each (Some p) each = each p refl

-- a value that came, and then the link of the one before it in its chain
module _ {V : Type 0} {old : Slots V ValueLink} {mid : Taped V ValueLink} {place : ℕ} {v : V} {key : ℕ} {tail : Option ℕ}
    (pushed : PushesBack old mid.list place v (record { key = key; previous = tail; next = None }))
    (listed : (q : ℕ) → tail ≡ Some q → IsIn q old.order) where
  pub pushes_value : {new : Taped V ValueLink} → WritesLink mid new tail (λ l. record l { next = Some place })
      → PushesValue old new.list place v key tail
  pushes_value mends = record {
    was_absent = pushed.was_absent;
    order = ap (λ t. t.list.order) mends.rest ∙ pushed.order;
    item_is = ap (λ t. item_at t.list place) mends.rest ∙ pushed.item_is;
    link_is = mends.others place (λ e. old_other pushed place (listed place e) refl) ∙ pushed.link_is;
    items = λ q differs. ap (λ t. item_at t.list q) mends.rest ∙ pushed.others.items q differs;
    behind = λ q l is link_is. mends.here q l is (pushed.others.links q (old_other pushed q (listed q is)) ∙ link_is);
    links = λ q differs not_tail. mends.others q not_tail ∙ pushed.others.links q differs;
  }

-- another link of a listed key
pub sets_link : {K : Type 0} (keys : Slots K KeyLink) (place : ℕ) (k : K) (link : KeyLink) → IsIn place keys.order
    → item_at keys place ≡ Some k → IsSome (link_at keys place)
    → SetsKey keys (with_link keys place link) place k link
sets_link keys place k link listed item_is linked = record {
  listed = listed;
  item_is = item_is;
  link_is = link_at-with_link keys place link linked;
  kept = λ q i. i;
  came = λ q differs i. i;
  items = λ q i. refl;
  links = λ q differs. (KeepsOthers-with_link keys place link).links q differs;
}

-- a key that came
pub sets_pushed : {K : Type 0} {old new : Slots K KeyLink} {place : ℕ} {k : K} {link : KeyLink} → PushesBack old new place k link
    → SetsKey old new place k link
sets_pushed pushed = record {
  listed = new_listed pushed;
  item_is = pushed.item_is;
  link_is = pushed.link_is;
  kept = λ q i. old_listed pushed q i;
  came = λ q differs i. elim (listed_cases pushed q i) [ inl before ↦ before | inr here ↦ absurd (differs here) ];
  items = λ q i. pushed.others.items q (old_other pushed q i);
  links = λ q differs. pushed.others.links q differs;
}

-- whether a call was refused
module _ {X Y : Type 0} where
  pub ok_if : {P : Type 0} (r : Result X Y) → is_err r ≡ false → OnOk r P → P
  ok_if (Ok x) e p = p
  ok_if (Err y) e p = absurd (true≢false e)

-- nothing has happened to the tape
pub room_same : {V : Type 0} {tape : Taped V ValueLink} → KeepsTapeRoom tape tape
room_same = record { counts = record { moved = refl; freed = refl; holes = refl }; capacity = refl }

-- room that was kept so far, and is kept by one step more
module _ {V : Type 0} {first last : Taped V ValueLink} where
  pub room_on : {next : Taped V ValueLink} → KeepsTapeRoom first last → KeepsCounts last next → next.list.capacity ≡ last.list.capacity
      → KeepsTapeRoom first next
  room_on was counts capacity = record {
    counts = record {
      moved = counts.moved ∙ was.counts.moved;
      freed = counts.freed ∙ was.counts.freed;
      holes = counts.holes ∙ was.counts.holes;
    };
    capacity = capacity ∙ was.capacity;
  }

  -- by a step that writes one item
  pub room_written : {next : Taped V ValueLink} (place : ℕ) (v : V) → KeepsTapeRoom first last
      → next ≡ with_list last (with_item last.list place v) → KeepsTapeRoom first next
  room_written place v was written = room_on was
      (record { moved = ap (λ t. t.moved) written; freed = ap (λ t. t.freed) written; holes = ap (λ t. t.holes) written })
      (ap (λ t. t.list.capacity) written)
