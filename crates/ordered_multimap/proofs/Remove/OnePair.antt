-- A pair that leaves at any place, with its key or without: key list, table and values agree, and the others are as they were.
use Rattle.std.proofs.Common.{◌≡◌, ℕ, Bool, true, false, List, Some, sym, ap, ◌∙◌, subst}
use Rattle.std.specs.Cmp.{IsEquivalence}
use Rattle.std.specs.Map.{keys_of}
use Rattle.std.specs.Ordering.{nat_cmp}
use Rattle.std.specs.FinMap.{FinMap}
use Rattle.multimap_slots.specs.Lists.{IsIn, without}
use Rattle.multimap_slots.specs.Slots.{Slots, item_at}
use Rattle.multimap_slots.specs.Tapes.{Taped}
use Rattle.multimap_table.specs.Table.{Table}
use Rattle.multimap_walks.specs.declared.links.ChainEnds.{ChainEnds}
use Rattle.multimap_walks.specs.declared.links.KeyLink.{KeyLink}
use Rattle.multimap_walks.specs.declared.links.ValueLink.{ValueLink}
use Rattle.multimap_walks.specs.Chained.{pair_at, pairs_of}
use Rattle.ordered_multimap.specs.Agrees.{Agrees, HasKey, IsMap, items_of, lists_of}
use Rattle.ordered_multimap.specs.Keys.{is_listed, stored_key, keys_named_by}
use Rattle.ordered_multimap.specs.Lists.{Lists, lists, IsWellFormed}
use Rattle.ordered_multimap.specs.Changes.{kept}
use Rattle.ordered_multimap.specs.Private.Relocations.{AreChained}
use Rattle.ordered_multimap.specs.Private.Retain.{RetainsAt, StaysIf}
use Rattle.ordered_multimap.specs.Private.Remove.{HasEntry, HasFittingChain, HasChain, KeepsRoom, TakesRow, UnlinksKey}
use Rattle.ordered_multimap.specs.Private.RemoveOne.{HasPair, TakesOne, TakesLast, TakesPair, TakesByKey, TakesOneOfSeveral}
use Rattle.ordered_multimap.specs.declared.list_ordered_multimap.remove.one.Taken.{Taken}
use Rattle.ordered_multimap.specs.declared.list_ordered_multimap.remove.one.TakenKey.{TakenKey}
use Rattle.ordered_multimap.specs.declared.list_ordered_multimap.remove.one.TakenKey.TheVariants.{Kept, Gone}
use Rattle.ordered_multimap.proofs.Agreement.Agreed.{pair_in, well_formed}
use Rattle.ordered_multimap.proofs.Append.Appended.{stays_paid}
use Rattle.ordered_multimap.proofs.Agreement.Kept.{filter-among, keys_of-without, is_listed-equal}
use Rattle.ordered_multimap.proofs.Callers.ListedKeys.{is_listed-self, is_listed-member, stored_key_member}
use Rattle.ordered_multimap.proofs.Callers.Members.{filter-all}
use Rattle.ordered_multimap.proofs.Agreement.LookUps.{own_key}
use Rattle.ordered_multimap.proofs.Remove.OneValue.{agrees-one, items_of-one, has_item-one, pair_at-one}
use Rattle.ordered_multimap.proofs.Callers.Places.{IsIn-filter_map}
use Rattle.ordered_multimap.proofs.Remove.WholeKeys.{agrees-taken, fits-taken, lists_of-taken, pair_at-taken}
use Rattle.ordered_multimap.proofs.Callers.WellFormed.{same_keys}

-- a listed value is that of a pair
pub has_pair : {K V : Type 0} {eq : K → K → Bool} {hash : K → ℕ} {keys : Slots K KeyLink} {rows : FinMap nat_cmp ℕ}
    {values : Slots V ValueLink}
    → Agrees eq hash keys rows values → (place : ℕ) → IsIn place values.order → HasPair keys rows values place
has_pair agrees place listed = record {
  listed = listed;
  sound = agrees.values_sound;
  chained = agrees.chained;
  row = λ l k is key_is. agrees.in_table l.key k (agrees.chained.owned place l listed is) key_is;
}

-- the lists of a map are chained
pub are_chained : {K V : Type 0} {eq : K → K → Bool} {hash : K → ℕ} {keys : Slots K KeyLink} {rows : FinMap nat_cmp ℕ}
    {values : Slots V ValueLink} → Agrees eq hash keys rows values → AreChained keys values
are_chained agrees = record { keys_sound = agrees.keys_sound; sound = agrees.values_sound; chained = agrees.chained }

-- a listed key has a chain
pub has_chain : {K V : Type 0} {eq : K → K → Bool} {hash : K → ℕ} {keys : Slots K KeyLink} {rows : FinMap nat_cmp ℕ}
    {values : Slots V ValueLink}
    → Agrees eq hash keys rows values → (place : ℕ) → IsIn place keys.order → HasChain keys values place
has_chain agrees place listed = record { listed = listed; chains = are_chained agrees }

-- in a map its values fit, too
pub has_fitting_chain : {K V : Type 0} {eq : K → K → Bool} {hash : K → ℕ} {keys : Slots K KeyLink} {rows : FinMap nat_cmp ℕ}
    {values : Taped V ValueLink}
    → IsMap eq hash keys rows values → (place : ℕ) → IsIn place keys.order → HasFittingChain keys values place
has_fitting_chain m place listed = record { chain = has_chain m.agrees place listed; fits = m.fits }

-- a listed key has its values, and a row in the table
pub has_entry : {K V : Type 0} {eq : K → K → Bool} {hash : K → ℕ} {keys : Slots K KeyLink} {rows : FinMap nat_cmp ℕ}
    {values : Slots V ValueLink}
    → Agrees eq hash keys rows values → (place : ℕ) → IsIn place keys.order → HasEntry keys rows values place
has_entry agrees place listed = record {
  chain = has_chain agrees place listed;
  row = λ l is. agrees.in_table place l listed is;
}

-- a map stays one where a key has left with its values
pub map_left : {K V : Type 0} {eq : K → K → Bool} (laws : IsEquivalence eq) {hash : K → ℕ} {keys keys_after : Slots K KeyLink}
    {table table_after : Table} {values values_after : Taped V ValueLink} {keeps : Bool} {gives : V → Type 0} {key : K} {ends : ChainEnds}
    → IsMap eq hash keys table.rows values → (place : ℕ) → IsIn place keys.order
    → UnlinksKey keeps gives keys keys_after values values_after place key ends → TakesRow table table_after place
    → IsMap eq hash keys_after table_after.rows values_after
map_left laws {table_after = table_after} {values = values} {values_after = values_after} m place listed t row = record {
  agrees =
      let own = own_key laws m.agrees place listed in
      agrees-taken laws m.agrees own.0 place own.1 t.taken t.removed table_after.rows row.rows;
  fits = fits-taken values values_after t.taken m.fits;
  paid = stays_paid t.counts m.paid;
}

-- a step of `retain` changes no room
module _ {F K V : Type 0} {calls : F → K → V → Bool → V → F → Type 0} {keys keys_after : Slots K KeyLink} {table table_after : Table}
    {values values_after : Taped V ValueLink} {place : ℕ} {f g : F} where
  pub retains_room : RetainsAt calls keys keys_after table table_after values values_after place f g
      → KeepsRoom keys keys_after table table_after values values_after
  retains_room at = by at.answer at.rest
    where
      same : at.asked.list.capacity ≡ values.list.capacity
      same = ap (λ (t : Taped V ValueLink). t.list.capacity) at.asks.written

      by : (b : Bool) → StaysIf keys keys_after table table_after at.asked values_after place b
          → KeepsRoom keys keys_after table table_after values values_after
      by true stays = record {
        key_room = ap (λ (s : Slots K KeyLink). s.capacity) stays.keys_are;
        row_room = ap (λ (t : Table). t.capacity) stays.table_is;
        value_room = ap (λ (t : Taped V ValueLink). t.list.capacity) stays.values_are ∙ same;
      }
      by false leaves = record {
        key_room = leaves.1.room.key_room;
        row_room = leaves.1.room.row_room;
        value_room = leaves.1.room.value_room ∙ same;
      }

-- the lists without one pair of a key that stays
module _ {K V : Type 0} {eq : K → K → Bool} (laws : IsEquivalence eq) {hash : K
    → ℕ} {keys keys_after : Slots K KeyLink} {rows : FinMap nat_cmp ℕ} {values values_after : Slots V ValueLink}
    (agrees : Agrees eq hash keys rows values) (place : ℕ) (listed : IsIn place values.order) {v : V}
    (takes : TakesOne keys keys_after values values_after place v) where
  formed : IsWellFormed eq (lists_of keys_after values_after)
  formed = well_formed (agrees-one agrees place listed takes)

  pub lists_of-one : lists_of keys_after values_after ≡ kept eq (lists_of keys values) (pairs_of keys_after values_after)
  lists_of-one =
      let named = λ (j : K) (i : IsIn j (items_of keys)). formed.used j (subst (IsIn j) (sym (items_of-one agrees place listed takes)) i) in
      ap (λ ks. lists ks (pairs_of keys_after values_after))
      (items_of-one agrees place listed takes
      ∙ sym (filter-all (is_listed eq (keys_of (pairs_of keys_after values_after))) (items_of keys)
      (λ j i. is_listed-self laws j (keys_of (pairs_of keys_after values_after)) (named j i))))

  -- which still name it
  pub still_named : (k : K) → item_at keys takes.link.key ≡ Some k → is_listed eq (keys_of (pairs_of keys_after values_after)) k ≡ true
  still_named k is =
      let has = has_item-one agrees place listed takes k is in
      is_listed-self laws k (keys_of (pairs_of keys_after values_after))
      (formed.used k (IsIn-filter_map (item_at keys_after) takes.link.key k keys_after.order has.listed has.item_is))

-- the pair at the place has left
pub record LeavesAt {K V : Type 0} (eq : K → K → Bool) (hash : K → ℕ) (keys keys_after : Slots K KeyLink) (rows_after : FinMap nat_cmp ℕ)
    (values values_after : Slots V ValueLink) (place : ℕ) : Type 0 where
  pub agrees : Agrees eq hash keys_after rows_after values_after
  pub order : values_after.order ≡ without values.order place
  pub same : (q : ℕ) → IsIn q values_after.order → pair_at keys_after values_after q ≡ pair_at keys values q
  pub keys_are : items_of keys_after ≡ keys_named_by eq (items_of keys) (pairs_of keys_after values_after)

-- the key whose only value has left
module _ {K V : Type 0} {eq : K → K → Bool} {hash : K
    → ℕ} {keys keys_after : Slots K KeyLink} {rows rows_after : FinMap nat_cmp ℕ} {values values_after : Slots V ValueLink}
    (agrees : Agrees eq hash keys rows values) (place : ℕ) (listed : IsIn place values.order) (v : V) (key : K)
    (last : TakesLast keys keys_after rows rows_after values values_after place key v) where
  pub last_key_is : item_at keys last.link.key ≡ Some (pair_in agrees place listed).key
  last_key_is =
      let pair = pair_in agrees place listed in
      let link_is : Some last.link ≡ Some pair.link = sym last.link_is ∙ pair.link_is in
      let link : last.link ≡ pair.link = cc in
      ap (λ (l : ValueLink). item_at keys l.key) link ∙ pair.key_is

  pub has_last_key : IsEquivalence eq → HasKey eq keys (pair_in agrees place listed).key last.link.key
  has_last_key laws = record {
    listed = agrees.chained.owned place last.link listed last.link_is;
    stored = (pair_in agrees place listed).key;
    item_is = last_key_is;
    equal = laws.refl (pair_in agrees place listed).key;
  }

module _ {K V : Type 0} {eq : K → K → Bool} (laws : IsEquivalence eq) {hash : K
    → ℕ} {keys keys_after : Slots K KeyLink} {rows rows_after : FinMap nat_cmp ℕ} {values values_after : Slots V ValueLink}
    (agrees : Agrees eq hash keys rows values) (place : ℕ) (listed : IsIn place values.order) (v : V) where
  -- the key has other values, and stays
  pub beside_at : (key : ℕ) → TakesOneOfSeveral keys keys_after rows rows_after values values_after place v key
      → LeavesAt eq hash keys keys_after rows_after values values_after place
  beside_at key beside = record {
    agrees = subst (λ r. Agrees eq hash keys_after r values_after) (sym beside.rows_are) (agrees-one agrees place listed beside.one);
    order = beside.one.order;
    same = pair_at-one agrees place listed beside.one;
    keys_are = ap (λ (m : Lists K V). m.keys) (lists_of-one laws agrees place listed beside.one);
  }

  -- it was the key's only value, and the key goes too
  pub last_at : (key : K) → TakesLast keys keys_after rows rows_after values values_after place key v
      → LeavesAt eq hash keys keys_after rows_after values values_after place
  last_at key last =
      let name = (pair_in agrees place listed).key in
      let has = has_last_key agrees place listed v key last laws in
      let t = last.entry.taken in
      let r = last.entry.removed in
      let gone = lists_of-taken laws agrees name last.link.key has t r rows_after last.entry.rows_are in
      record {
        agrees = agrees-taken laws agrees name last.link.key has t r rows_after last.entry.rows_are;
        order = last.order;
        same = pair_at-taken laws agrees name last.link.key has t r;
        keys_are = ap (λ (m : Lists K V). m.keys) gone ∙ ap (λ (m : Lists K V). keys_named_by eq (items_of keys) m.pairs) (sym gone);
      }

  -- the pairs no longer name it
  pub no_longer_named : (key : K) → TakesLast keys keys_after rows rows_after values values_after place key v
      → is_listed eq (keys_of (pairs_of keys_after values_after)) (pair_in agrees place listed).key ≡ false
  no_longer_named key last =
      let name = (pair_in agrees place listed).key in
      let has = has_last_key agrees place listed v key last laws in
      let gone = lists_of-taken laws agrees name last.link.key has last.entry.taken last.entry.removed rows_after last.entry.rows_are in
      ap (λ (m : Lists K V). is_listed eq (keys_of m.pairs) name) gone
      ∙ ap (λ js. is_listed eq js name) (keys_of-without eq name (pairs_of keys values))
      ∙ is_listed-equal laws name name (keys_of (pairs_of keys values)) (laws.refl name)

  leaves_by_key : (key : TakenKey K) → TakesByKey keys keys_after rows rows_after values values_after place v key
      → LeavesAt eq hash keys keys_after rows_after values values_after place
  leaves_by_key (Kept key) beside = beside_at key beside
  leaves_by_key (Gone key) last = last_at key last

pub leaves_at : {K V : Type 0} {eq : K → K → Bool}
    (laws : IsEquivalence eq) {hash : K → ℕ} {keys keys_after : Slots K KeyLink} {rows rows_after : FinMap nat_cmp ℕ} {values
    values_after : Slots V ValueLink}
    → Agrees eq hash keys rows values → (place : ℕ) → IsIn place values.order
    → (taken : Taken K V) → TakesPair keys keys_after rows rows_after values values_after place taken
    → LeavesAt eq hash keys keys_after rows_after values values_after place
leaves_at laws agrees place listed taken takes = leaves_by_key laws agrees place listed taken.value taken.key takes

-- the keys that pairs name, once others were kept before
module _ {K V : Type 0} {eq : K → K → Bool} (laws : IsEquivalence eq) where
  pub named_by-again : (keys : List K) (pairs fewer : List (K × V)) → ((k : K) → IsIn k (keys_of fewer) → IsIn k (keys_of pairs))
      → keys_named_by eq (keys_named_by eq keys pairs) fewer ≡ keys_named_by eq keys fewer
  named_by-again keys pairs fewer among =
      filter-among (is_listed eq (keys_of fewer)) (is_listed eq (keys_of pairs)) keys (λ k member e.
      let s = stored_key_member laws k (keys_of fewer) e in
      is_listed-member laws k (stored_key eq (keys_of fewer) k) (keys_of pairs) (among (stored_key eq (keys_of fewer) k) s.0) s.1)

  -- all keys are named at first
  pub named_by-all : {hash : K → ℕ} {keys : Slots K KeyLink} {rows : FinMap nat_cmp ℕ} {values : Slots V ValueLink}
      → Agrees eq hash keys rows values
      → items_of keys ≡ keys_named_by eq (items_of keys) (pairs_of keys values)
  named_by-all {keys = keys} {values = values} agrees =
      sym (filter-all (is_listed eq (keys_of (pairs_of keys values))) (items_of keys)
      (λ k i. same_keys laws (lists_of keys values) k (well_formed agrees) ∙ is_listed-self laws k (items_of keys) i))
