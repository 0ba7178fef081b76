-- Where only the first value of a key stays, key list, table and values agree, and the lists are without the later pairs.
use Rattle.std.proofs.Common.{◌≡◌, ◌≢◌, ◌+◌, ◌-◌, ◌/◌, ◌<◌, ℕ, Bool, true, false, not, List, [], ◌∷◌, ◌++◌, filter, length, slice_get}
use Rattle.std.proofs.Common.{Option, Some, None}
use Rattle.std.proofs.Common.{refl, sym, ap, ◌∙◌, subst, inl, inr, arith, unwrap_or}
use Rattle.std.proofs.lemmas.Bool.{ne_eqb}
use Rattle.std.proofs.lemmas.List.Elements.{filter-append}
use Rattle.std.specs.Cmp.{IsEquivalence}
use Rattle.std.specs.List.{filter_map}
use Rattle.std.specs.Ordering.{nat_cmp}
use Rattle.std.specs.FinMap.{FinMap}
use Rattle.multimap_slots.specs.Lists.{IsIn, AreDistinct, first_of, next_of, previous_of}
use Rattle.multimap_slots.specs.Slots.{Slots, IsSound, link_at}
use Rattle.multimap_slots.specs.Tapes.{Taped, HasTapeRoomFor}
use Rattle.multimap_slots.proofs.Callers.PlaceLists.{Split, AreDistinct-gone, IsIn-kept, IsIn-left, IsIn-split, next_of-split}
use Rattle.multimap_slots.proofs.Callers.PlaceLists.{previous_of-split}
use Rattle.multimap_walks.specs.declared.links.KeyLink.{KeyLink}
use Rattle.multimap_walks.specs.declared.links.ValueLink.{ValueLink}
use Rattle.multimap_walks.specs.Chained.{IsChained, is_value_of, chain_of, pair_at, pairs_of}
use Rattle.ordered_multimap.specs.Lists.{lists}
use Rattle.ordered_multimap.specs.OneValue.{only_written, pairs_with_only}
use Rattle.ordered_multimap.specs.Pairs.{values_of}
use Rattle.ordered_multimap.specs.Agrees.{Agrees, HasKey, HasKeyWhere, lists_of}
use Rattle.ordered_multimap.specs.Private.Relocations.{KeepsCapacities}
use Rattle.ordered_multimap.specs.Private.Remove.{IsRow, TakesLater, among}
use Rattle.ordered_multimap.proofs.Agreement.Agreed.{pair_in, value_owner}
use Rattle.ordered_multimap.proofs.Agreement.LookUps.{count_of_values, owns}
use Rattle.ordered_multimap.proofs.Callers.Members.{IsIn-filter}
use Rattle.ordered_multimap.proofs.Callers.OnlyValue.{with_only-split}
use Rattle.ordered_multimap.proofs.Callers.Places.{Begins, begins, filter_shorter, origin}
use Rattle.ordered_multimap.proofs.Remove.OneStays.{StaysAlone, agrees-alone, items_of-alone, pair, pairs_of-alone, pairs_were}
use Rattle.ordered_multimap.proofs.Remove.ValueByValue.{among-none, distinct, in_list, onward}

-- where a list begins with an item, nothing stands before it
nothing_before : (xs ys : List ℕ) {rest : List ℕ} (p : ℕ) → xs ++ ys ≡ p ∷ rest → ¬ IsIn p xs → xs ≡ []
nothing_before [] ys p e absent = refl
nothing_before (x ∷ xs) ys p e absent = absurd (absent (let first : p ≡ x = cc in inl first))

module _ {K V : Type 0} {keys : Slots K KeyLink} {values : Slots V ValueLink} (sound : IsSound values) (chained : IsChained keys values)
    (place : ℕ) (l : KeyLink) (listed : IsIn place keys.order) (is : link_at keys place ≡ Some l) where
  -- the places behind the head
  pub behind_head : Begins (chain_of values place) l.head
  behind_head = begins (chain_of values place) l.head (chained.head place l listed is)

  pub head_listed : IsIn l.head values.order
  head_listed = (in_list sound chained place l.head (subst (IsIn l.head) (sym behind_head.is) (inl refl))).0

  pub head_apart : ¬ IsIn l.head behind_head.rest
  head_apart = (subst AreDistinct behind_head.is (distinct sound chained place)).0

  pub length_behind : length behind_head.rest + 1 ≡ l.length
  length_behind = omega (arith, chained.length place l listed is, ap length behind_head.is)

  -- so many values of the key, from the second one on
  pub later_row : 1 < l.length → (m : ValueLink) → link_at values l.head ≡ Some m → {second : ℕ} → second ≡ unwrap_or m.next 0
      → IsRow values second (l.length - 1) behind_head.rest
  later_row more m head_is told = record {
    first_is = begun behind_head.rest (omega (arith, more, length_behind)) behind ∙ ap Some (sym told);
    enough = omega (arith, length_behind);
    distinct = (subst AreDistinct behind_head.is (distinct sound chained place)).1;
    listed = λ p i. (in_list sound chained place p (subst (IsIn p) (sym behind_head.is) (inr i))).0;
    next = λ p n i p_is.
        sym (ap (λ ps. next_of ps p) behind_head.is ∙ skipped p (λ same. head_apart (subst (λ x. IsIn x behind_head.rest) same i)))
        ∙ onward sound chained place p n (subst (IsIn p) (sym behind_head.is) (inr i)) p_is;
  }
    where
      behind : first_of behind_head.rest ≡ m.next
      behind =
          sym (ap (λ ps. next_of ps l.head) behind_head.is ∙ next_of-split [] l.head behind_head.rest (λ never. absurd never))
          ∙ onward sound chained place l.head m (subst (IsIn l.head) (sym behind_head.is) (inl refl)) head_is

      begun : (rest : List ℕ) → 0 < length rest → first_of rest ≡ m.next → first_of rest ≡ Some (unwrap_or m.next 0)
      begun [] some e = absurd (omega (arith, some))
      begun (q ∷ rest) some e = ap (λ o. Some (unwrap_or o 0)) e

      skipped : (p : ℕ) → p ≢ l.head → next_of (l.head ∷ behind_head.rest) p ≡ next_of behind_head.rest p
      skipped p differs = rw (ne_eqb l.head p (λ e. differs (sym e))) refl

module _ {K V : Type 0} {eq : K → K → Bool} (laws : IsEquivalence eq) {hash : K → ℕ} {keys keys_after : Slots K KeyLink}
    {rows : FinMap nat_cmp ℕ} {values values_after : Slots V ValueLink}
    (agrees : Agrees eq hash keys rows values) (k : K) (place : ℕ) (has : HasKey eq keys k place)
    (takes : TakesLater keys keys_after values values_after place) where
  abbrev head : ℕ
  head = takes.link.head

  head_own : (IsIn head values.order) × (is_value_of values place head ≡ true)
  head_own = in_list agrees.values_sound agrees.chained place head (subst (IsIn head) (sym takes.parts) (inl refl))

  apart : ¬ IsIn head takes.gone
  apart = (subst AreDistinct takes.parts (distinct agrees.values_sound agrees.chained place)).0

  -- none is before the first one
  head_previous : (l : ValueLink) → link_at values head ≡ Some l → l.previous ≡ None
  head_previous l is =
      sym (agrees.chained.previous head l head_own.0 is)
      ∙ ap (λ key. previous_of (chain_of values key) head) (value_owner keys values place head l is head_own.1)
      ∙ ap (λ ps. previous_of ps head) takes.parts ∙ previous_of-split [] head takes.gone apart

  alone : StaysAlone keys keys_after values values_after place head
  alone = record {
    link = takes.link;
    link_is = takes.link_is;
    before = [];
    behind = takes.gone;
    parts = takes.parts;
    left = takes.left;
    taken = takes.taken;
    rest = takes.rest;
    alone = λ l is. takes.alone l is ∙ ap (λ (o : Option ℕ). Some (record l { previous = o; next = None }))
        (head_previous l (sym (takes.taken.links head (among-none takes.gone head apart)) ∙ is));
    links = takes.links;
    keys_are = takes.keys_are;
  }

  around : Split head values.order
  around = IsIn-split head values.order head_own.0

  pub agrees-later : Agrees eq hash keys_after rows values_after
  agrees-later = agrees-alone laws agrees k place head has alone around.front around.back around.is

  -- the values before the first one are of other keys
  before_other : (q : ℕ) → IsIn q around.front → is_value_of values place q ≡ false
  before_other q i = cases (is_value_of values place q) refl
    where
      none : filter (is_value_of values place) around.front ≡ []
      none = nothing_before (filter (is_value_of values place) around.front) (filter (is_value_of values place) (head ∷ around.back)) head
          (sym (filter-append (is_value_of values place) around.front (head ∷ around.back))
          ∙ ap (filter (is_value_of values place)) (sym around.is) ∙ takes.parts)
          (λ j. AreDistinct-gone around.front head around.back (subst AreDistinct around.is agrees.values_sound.distinct)
          (IsIn-left head around.front around.back (IsIn-kept (is_value_of values place) head around.front j).0))

      cases : (b : Bool) → is_value_of values place q ≡ b → b ≡ false
      cases true e = absurd (subst (IsIn q) none (IsIn-filter (is_value_of values place) q around.front e i))
      cases false e = refl

  pub lists_of-later : (first : V) → slice_get (values_of eq (pairs_of keys values) k) 0 ≡ Some first
      → lists_of keys_after values_after ≡ only_written (eq k) (lists_of keys values) first
  lists_of-later first first_is =
      let own = pair laws agrees k place head has alone around.front around.back around.is in
      let were = pairs_were laws agrees k place head has alone around.front around.back around.is in
      let only = with_only-split (eq k) (filter_map (pair_at keys values) around.front) (filter_map (pair_at keys values) around.back)
      (own.key, own.value) first
      (λ p i.
      let o = origin (pair_at keys values) p around.front i in
      let q = pair_in agrees o.from (subst (IsIn o.from) (sym around.is) (IsIn-left o.from around.front (head ∷ around.back) o.member)) in
      let one : Some (q.key, q.value) ≡ Some p = sym q.pair_is ∙ o.gives in
      let is_pair : (q.key, q.value) ≡ p = cc in
      ap (λ (x : K × V). eq k x.0) (sym is_pair) ∙ sym (owns laws agrees k place has o.from q) ∙ before_other o.from o.member)
      (sym (owns laws agrees k place has head own) ∙ head_own.1)
      (ap (λ ps. slice_get (values_of eq ps k) 0) (sym were) ∙ first_is) in
      (λ i. lists (items_of-alone laws agrees k place head has alone i)
      ((pairs_of-alone laws agrees k place head has alone around.front around.back around.is ∙ sym only
      ∙ ap (λ ps. pairs_with_only (eq k) ps first) (sym were)) i))

  -- one of the key's values is left
  pub count-later : length takes.gone + 1 ≡ length (values_of eq (pairs_of keys values) k)
  count-later = omega (
    arith,
    count_of_values laws agrees k place takes.link has takes.link_is,
    agrees.chained.length place takes.link has.listed takes.link_is,
    ap length takes.parts,
  )

-- the key stays at its place, and the rooms are as they were
module _ {K V : Type 0} {keys keys_after : Slots K KeyLink} (values values_after : Taped V ValueLink) {place : ℕ}
    (takes : TakesLater keys keys_after values.list values_after.list place) where
  pub stays-later : (accepts : K → Bool) (at : ℕ) → HasKeyWhere accepts keys at → HasKeyWhere accepts keys_after at
  stays-later accepts at has = subst (λ s. HasKeyWhere accepts s at) (sym takes.keys_are)
      (record { listed = has.listed; stored = has.stored; item_is = has.item_is; equal = has.equal })

  pub capacities-later : KeepsCapacities keys keys_after values values_after
  capacities-later = record {
    keys_capacity = ap (λ (s : Slots K KeyLink). s.capacity) takes.keys_are;
    capacity = ap (λ (s : Slots V ValueLink). s.capacity) takes.rest ∙ takes.taken.capacity;
  }

  pub fits-later : HasTapeRoomFor values 0 → HasTapeRoomFor values_after 0
  fits-later fits = omega (
    arith,
    fits,
    ap (λ n. n / 2) capacities-later.capacity,
    ap length (ap (λ (s : Slots V ValueLink). s.order) takes.rest ∙ takes.taken.order),
    filter_shorter (λ q. not (among takes.gone q)) values.list.order,
  )
