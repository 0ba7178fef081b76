-- A map whose values were written through a loan is the map with other values, and agrees as before.
use Rattle.std.proofs.Common.{◌≡◌, ℕ, zero, get_or, unwrap_or, inl, inr, List, [], ◌∷◌, length, Option, Some, None, IsSome, refl, sym, ap}
use Rattle.std.proofs.Common.{◌∙◌, subst, arith, Bool, suc, map, true, false}
use Rattle.ordered_multimap.specs.ValueCells.{ValueCells}
use Rattle.ordered_multimap.specs.TapeNumbers.{numbers_code}
use Rattle.ordered_multimap.specs.MapSlots.{key_link_code, value_link_code, ends_code}
use Rattle.multimap_slots.specs.Codes.{slots_code}
use Rattle.multimap_slots.proofs.Lending.Around.{around_items}
use Rattle.std.specs.Coded.{Coded, coded×, coded_list, coded_ℕ}
use base.Stored.{Gv}
use Rattle.std.specs.Prelude.{option_and_then, option_map}
use Rattle.std.specs.List.{filter_map, cons_option}
use Rattle.std.specs.Ordering.{nat_cmp}
use Rattle.std.specs.FinMap.{FinMap}
use Rattle.multimap_slots.specs.Lists.{IsIn}
use Rattle.multimap_slots.specs.Slots.{Slots, IsSound, item_at}
use Rattle.multimap_slots.specs.CellsLends.{with_refilled}
use Rattle.multimap_slots.specs.SlotCells.{LendsSlots}
use Rattle.multimap_slots.specs.Taken.{refilled}
use Rattle.multimap_slots.proofs.Lending.Refilled.{some-refilled, none-refilled}
use Rattle.multimap_walks.specs.declared.links.KeyLink.{KeyLink}
use Rattle.multimap_walks.specs.declared.links.ValueLink.{ValueLink}
use Rattle.multimap_walks.specs.Chained.{key_of, pair_at, pairs_of}
use Rattle.ordered_multimap.specs.Multimap.{Multimap}
use Rattle.ordered_multimap.specs.Agrees.{Agrees, lists_of}
use Rattle.ordered_multimap.specs.ValuesLent.{pairs_ended, revalued, with_values, AreLent, EndsAs}
use Rattle.ordered_multimap.proofs.Agreement.Agreed.{pair_at-is, pair_in}

-- what stands around the values in a map
abbrev pub around_values : {K V S : Type 0} → Coded K → Coded V → Coded S → Multimap K V S
    → List (Bool × Gv)
around_values k v s m =
    (true, (coded× (coded_list k) (coded_list (coded× k v))).code (m.lists.keys, m.lists.pairs))
    ∷ (true, (coded× coded_ℕ coded_ℕ).code (m.key_room, m.value_room))
    ∷ (true, s.code m.hasher)
    ∷ (true, numbers_code.code m.tape)
    ∷ (true, (slots_code k key_link_code).code m.slots.keys)
    ∷ (false, ends_code.code m.slots.left)
    ∷ around_items value_link_code m.slots.values

-- slots that were refilled take on the same items again
pub refilled_again : {X : Type 0} (xs ys : List (Option X)) → refilled xs (refilled xs ys) ≡ refilled xs ys
refilled_again [] ys = refl
refilled_again (None ∷ xs) [] = ap (λ zs. None ∷ zs) (refilled_again xs [])
refilled_again (Some x ∷ xs) [] = ap (λ zs. Some x ∷ zs) (refilled_again xs [])
refilled_again (None ∷ xs) (y ∷ ys) = ap (λ zs. None ∷ zs) (refilled_again xs ys)
refilled_again (Some x ∷ xs) (None ∷ ys) = ap (λ zs. Some x ∷ zs) (refilled_again xs ys)
refilled_again (Some x ∷ xs) (Some y ∷ ys) = ap (λ zs. Some y ∷ zs) (refilled_again xs ys)

module _ {K V : Type 0} where
  abbrev pair : Option K → Option V → Option (K × V)
  pair o w = option_and_then (λ (k : K). option_map (λ (v : V). let p : K × V = (k, v) in p) w) o

  revalued_one : (k : Option K) (v w : Option V) (ps qs : List (K × V)) → (IsSome v → IsSome w) → (v ≡ None → w ≡ None)
      → revalued (cons_option (pair k v) ps) (cons_option (pair k w) qs) ≡ cons_option (pair k w) (revalued ps qs)
  revalued_one None v w ps qs some none = refl
  revalued_one (Some k) None None ps qs some none = refl
  revalued_one (Some k) None (Some w) ps qs some none = absurd (let e = none refl in cc)
  revalued_one (Some k) (Some v) None ps qs some none = absurd (let e = some refl in cc)
  revalued_one (Some k) (Some v) (Some w) ps qs some none = refl

  revalued_places : (keys : Slots K KeyLink) (values : Slots V ValueLink) (items : List (Option V)) (places : List ℕ)
      → revalued (filter_map (pair_at keys values) places) (filter_map (pair_at keys (with_refilled values items)) places) ≡ filter_map
      (pair_at keys (with_refilled values items)) places
  revalued_places keys values items [] = refl
  revalued_places keys values items (p ∷ ps) =
      let new = with_refilled values items in
      revalued_one (key_of keys values p) (item_at values p) (item_at new p) (filter_map (pair_at keys values) ps)
      (filter_map (pair_at keys new) ps)
      (some-refilled values.items items p) (none-refilled values.items items p)
      ∙ ap (cons_option (pair_at keys new p)) (revalued_places keys values items ps)

  -- the values that refilled slots show are values of the map under its own keys
  pub revalued_refilled : (keys : Slots K KeyLink) (values : Slots V ValueLink) (items : List (Option V))
      → revalued (pairs_of keys values) (pairs_of keys (with_refilled values items)) ≡ pairs_of keys (with_refilled values items)
  revalued_refilled keys values items = revalued_places keys values items values.order

  pub keys_revalued : (ps qs : List (K × V)) → map (λ p. p.0) (revalued ps qs) ≡ map (λ p. p.0) ps
  keys_revalued [] qs = refl
  keys_revalued (p ∷ ps) [] = ap (λ ks. p.0 ∷ ks) (keys_revalued ps [])
  keys_revalued (p ∷ ps) (q ∷ qs) = ap (λ ks. p.0 ∷ ks) (keys_revalued ps qs)

  pub length_revalued : (ps qs : List (K × V)) → length (revalued ps qs) ≡ length ps
  length_revalued [] qs = refl
  length_revalued (p ∷ ps) [] = ap suc (length_revalued ps [])
  length_revalued (p ∷ ps) (q ∷ qs) = ap suc (length_revalued ps qs)

  -- keys, rows and values agree with other items, and with another capacity, where the list is sound then
  Agrees-in : (eq : K → K → Bool) (hash : K → ℕ) (keys : Slots K KeyLink) (rows : FinMap nat_cmp ℕ) (values : Slots V ValueLink)
      (items : List (Option V)) (capacity : ℕ) → IsSound (record values { items = items; capacity = capacity })
      → Agrees eq hash keys rows values → Agrees eq hash keys rows (record values { items = items; capacity = capacity })
  Agrees-in eq hash keys rows values items capacity sound a = record {
    keys_sound = a.keys_sound;
    values_sound = sound;
    chained = record {
      owned = a.chained.owned;
      head = a.chained.head;
      tail = a.chained.tail;
      length = a.chained.length;
      previous = a.chained.previous;
      next = a.chained.next;
    };
    distinct = a.distinct;
    hashed = a.hashed;
    in_table = a.in_table;
    listed = a.listed;
    counted = a.counted;
  }

  pub Agrees-refilled : (eq : K → K → Bool) (hash : K → ℕ) (keys : Slots K KeyLink) (rows : FinMap nat_cmp ℕ) (values : Slots V ValueLink)
      (items : List (Option V))
      → Agrees eq hash keys rows values → Agrees eq hash keys rows (with_refilled values items)
  Agrees-refilled eq hash keys rows values items a = Agrees-in eq hash keys rows values (with_refilled values items).items values.capacity
      (record {
        distinct = a.values_sound.distinct;
        filled = λ p i. some-refilled values.items items p (a.values_sound.filled p i);
        linked = a.values_sound.linked;
        fits = a.values_sound.fits;
      }) a

  Agrees-bare : (eq : K → K → Bool) (hash : K → ℕ) (keys : Slots K KeyLink) (rows : FinMap nat_cmp ℕ) (values : Slots V ValueLink)
      → Agrees eq hash keys rows values → Agrees eq hash keys rows (record values { capacity = length values.order })
  Agrees-bare eq hash keys rows values a = Agrees-in eq hash keys rows values values.items (length values.order)
      (record {
        distinct = a.values_sound.distinct;
        filled = a.values_sound.filled;
        linked = a.values_sound.linked;
        fits = omega arith;
      }) a

  -- the cells of the map's values agree with its keys
  pub AreLent-made : {S A : Type 0} (eq : K → K → Bool) (hash : S → K → ℕ) (m : Multimap K V S) (keys : Slots K KeyLink)
      (rows : FinMap nat_cmp ℕ) (values : Slots V ValueLink) (cells : ValueCells V A)
      → Agrees eq (hash m.hasher) keys rows values → lists_of keys values ≡ m.lists → keys ≡ m.slots.keys → values ≡ m.slots.values
      → LendsSlots values cells → AreLent eq hash m cells keys
  AreLent-made eq hash m keys rows values cells agrees shown keys_are values_are lent = record {
    keys_are = keys_are;
    values_are = subst (λ (s : Slots V ValueLink). LendsSlots s cells) values_are lent;
    shown = ap (lists_of keys) lent.slots ∙ shown;
    rows = rows;
    agrees = subst (Agrees eq (hash m.hasher) keys rows) (sym lent.slots) (Agrees-bare eq (hash m.hasher) keys rows values agrees);
    left = λ p i. lent.left p (subst (λ (s : Slots V ValueLink). IsIn p s.order) lent.slots i);
  }

-- an item that stood there is another one afterwards, if one is there
item-refilled : {X : Type 0} (xs ys : List (Option X)) (p : ℕ) (x : X) → get_or xs p None ≡ Some x
    → get_or (refilled xs ys) p None ≡ Some (unwrap_or (get_or ys p None) x)
item-refilled [] ys p x e = absurd (let bad = e in cc)
item-refilled (o ∷ xs) [] zero x e = e
item-refilled (None ∷ xs) (y ∷ ys) zero x e = absurd (let bad = e in cc)
item-refilled (Some z ∷ xs) (None ∷ ys) zero x e = e
item-refilled (Some z ∷ xs) (Some y ∷ ys) zero x e = refl
item-refilled (o ∷ xs) [] (suc p) x e = item-refilled xs [] p x e
item-refilled (None ∷ xs) (y ∷ ys) (suc p) x e = item-refilled xs ys p x e
item-refilled (Some z ∷ xs) (None ∷ ys) (suc p) x e = item-refilled xs ys p x e
item-refilled (Some z ∷ xs) (Some y ∷ ys) (suc p) x e = item-refilled xs ys p x e

module _ {K V : Type 0} {eq : K → K → Bool} {hash : K → ℕ} {keys : Slots K KeyLink} {rows : FinMap nat_cmp ℕ} {values : Slots V ValueLink}
    (agrees : Agrees eq hash keys rows values) (ws : List (Option V)) where
  abbrev new : Slots V ValueLink
  new = with_refilled values ws

  ended_along : (places : List ℕ) → ((q : ℕ) → IsIn q places → IsIn q values.order)
      → revalued (filter_map (pair_at keys values) places) (filter_map (pair_at keys new) places) ≡ pairs_ended
      (filter_map (pair_at keys values) places) places ws
  ended_along [] listed = refl
  ended_along (q ∷ places) listed =
      let p = pair_in agrees q (listed q (inl refl)) in
      let olds : List (K × V) = filter_map (pair_at keys values) places in
      let news : List (K × V) = filter_map (pair_at keys new) places in
      let w : V = unwrap_or (get_or ws q None) p.value in
      ap (λ o. revalued (cons_option o olds) (cons_option (pair_at keys new q) news)) p.pair_is
      ∙ ap (λ o. revalued ((p.key, p.value) ∷ olds) (cons_option o news))
      (pair_at-is keys new q p.link p.key w p.link_is p.key_is (item-refilled values.items ws q p.value p.value_is))
      ∙ ap (λ ps. (p.key, w) ∷ ps) (ended_along places (λ r i. listed r (inr i)))
      ∙ sym (ap (λ o. pairs_ended (cons_option o olds) (q ∷ places) ws) p.pair_is)

  -- the pairs have the items that their places ended with
  pub pairs-ended : revalued (pairs_of keys values) (pairs_of keys new) ≡ pairs_ended (pairs_of keys values) values.order ws
  pairs-ended = ended_along values.order (λ q i. i)

-- the pairs of a map have the items that the places of its values ended with
pub map-ended : {K V S : Type 0} {eq : K → K → Bool} {hash : K → ℕ} (m n : Multimap K V S) (rows : FinMap nat_cmp ℕ) → n ≡ m
    → Agrees eq hash n.slots.keys rows n.slots.values → n.lists.pairs ≡ pairs_of n.slots.keys n.slots.values
    → (ws : List (Option V)) → (with_values m ws).lists.pairs ≡ pairs_ended m.lists.pairs m.slots.values.order ws
map-ended {K} {V} {S} m n rows same agrees shown ws =
    subst (λ (h : Multimap K V S). (with_values h ws).lists.pairs ≡ pairs_ended h.lists.pairs h.slots.values.order ws) same
    (ap (λ ps. revalued ps (pairs_of n.slots.keys (with_refilled n.slots.values ws))) shown ∙ pairs-ended agrees ws
    ∙ sym (ap (λ ps. pairs_ended ps n.slots.values.order ws) shown))

-- a walk lends what the call that made it lent
pub ends_walk : {K V S A : Type 0} (m : Multimap K V S)
    (final : Option (List (Bool × Gv)) → List (Option V) → Gv) {walk lent : ValueCells V A} {whole : List (Option V) → Gv}
    → walk ≡ lent
    → EndsAs m lent (final lent.cells.lender_context) whole → EndsAs m walk (final walk.cells.lender_context) whole
ends_walk {V = V} {A = A} m final {whole = whole} same lent = subst
    (λ (c : ValueCells V A). EndsAs m c (final c.cells.lender_context) whole) (sym same) lent
