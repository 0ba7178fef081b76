-- A value that comes last in place of all others of its key.
use Rattle.std.proofs.Common.{◌≡◌, ◌+◌, ◌/◌, ◌<◌, ℕ, Bool, true, false, not, List, [], ◌∷◌, ◌++◌, map, length, filter, slice_get, Some}
use Rattle.std.proofs.Common.{refl, sym, ap, ◌∙◌, subst, arith, true≢false, length-append}
use Rattle.std.proofs.lemmas.List.{length-map, map-append}
use Rattle.std.proofs.lemmas.List.Elements.{filter-append}
use Rattle.std.specs.Cmp.{IsEquivalence}
use Rattle.std.specs.Ordering.{nat_cmp}
use Rattle.std.specs.FinMap.{FinMap}
use Rattle.multimap_slots.specs.Lists.{IsIn, last_of}
use Rattle.multimap_slots.specs.Slots.{Slots, IsSound, item_at, link_at, with_link}
use Rattle.multimap_slots.specs.Tapes.{Taped, HasTapeRoomFor}
use Rattle.multimap_walks.specs.declared.links.ChainEnds.{ChainEnds}
use Rattle.multimap_walks.specs.declared.links.KeyLink.{KeyLink}
use Rattle.multimap_walks.specs.declared.links.ValueLink.{ValueLink}
use Rattle.multimap_walks.specs.Chained.{IsChained, is_value_of, chain_of, pairs_of}
use Rattle.ordered_multimap.specs.Lists.{Lists, lists, IsWellFormed}
use Rattle.ordered_multimap.specs.Keys.{is_listed, stored_key, keys_with}
use Rattle.ordered_multimap.specs.Pairs.{has_items, pairs_without, values_of}
use Rattle.ordered_multimap.specs.Changes.{appended, inserted}
use Rattle.ordered_multimap.specs.Agrees.{Agrees, HasKey, items_of, lists_of}
use Rattle.ordered_multimap.specs.Private.Append.{PushesValue, PushesBehind}
use Rattle.ordered_multimap.specs.Private.Relocations.{AreRelocated}
use Rattle.ordered_multimap.specs.Private.Remove.{HasChain, Inserts, InsertsBehind, ReplacesChain}
use Rattle.ordered_multimap.specs.TapeNumbers.{TakesOut, numbers_of}
use Rattle.ordered_multimap.proofs.Callers.Members.{filter-all}
use Rattle.ordered_multimap.proofs.Callers.Places.{held, begins, filter_shorter}
use Rattle.ordered_multimap.proofs.Chains.LongerLists.{first_of-push}
use Rattle.ordered_multimap.proofs.Append.Steps.{sets_link, SetsKey}
use Rattle.ordered_multimap.proofs.Chains.Neighbours.{first_of-member}
use Rattle.ordered_multimap.proofs.Agreement.Relocated.{chain_of-relocated, chains-relocated}
use Rattle.ordered_multimap.proofs.Append.Chained.{chained-append}
use Rattle.ordered_multimap.proofs.Append.Appended.{AppendsOne, present_step, agrees_reserved}
use Rattle.ordered_multimap.proofs.Agreement.LookUps.{first_value, present_if_found}
use Rattle.ordered_multimap.proofs.Remove.OlderValues.{agrees-older, lists_of-older}
use Rattle.ordered_multimap.proofs.Remove.WholeKeys.{apart}
use Rattle.ordered_multimap.proofs.Remove.ValueByValue.{chain_row}

module _ {K V : Type 0} {keys : Slots K KeyLink} {values : Slots V ValueLink} (keys_sound : IsSound keys) (chained : IsChained keys values)
    (place : ℕ) (listed : IsIn place keys.order) where
  -- where there is a key there is a value
  pub has_value : 0 < length values.order
  has_value =
      let l = held (link_at keys place) (keys_sound.linked place listed) in
      let b = begins (chain_of values place) l.value.head (chained.head place l.value listed l.is) in
      omega (arith, ap length b.is, filter_shorter (is_value_of values place) values.order)

  pub chain_some : 0 < length (chain_of values place)
  chain_some =
      let l = held (link_at keys place) (keys_sound.linked place listed) in
      let b = begins (chain_of values place) l.value.head (chained.head place l.value listed l.is) in
      omega (arith, ap length b.is)

  module _ (values_sound : IsSound values) {keys_after : Slots K KeyLink} {values_after : Slots V ValueLink} {v : V}
      (p : PushesBehind keys keys_after values values_after place v) where
    link_now : KeyLink
    link_now = record p.link { tail = p.last; length = p.link.length + 1 }

    sets : SetsKey keys (with_link keys place link_now) place (held (item_at keys place) (keys_sound.filled place listed)).value link_now
    sets = let k = held (item_at keys place) (keys_sound.filled place listed) in
        sets_link keys place k.value link_now listed k.is (keys_sound.linked place listed)

    -- the links stay chained
    pub chained-behind : IsChained keys_after values_after
    unfolding link_now
    chained-behind =
        let behind : PushesValue values values_after p.last v place (last_of (chain_of values place)) =
        subst (PushesValue values values_after p.last v place) (sym (chained.tail place p.link listed p.link_is)) p.pushed in
        subst (λ s. IsChained s values_after) (sym p.keys_are)
        (chained-append keys_sound values_sound chained sets behind
        (first_of-push (chain_of values place) p.last p.link.head (chained.head place p.link listed p.link_is)) refl
        (ap (λ m. m + 1) (sym (chained.length place p.link listed p.link_is))))

    -- the key's link counts one value more
    pub longer : (l : KeyLink) → link_at keys_after place ≡ Some l → l.length ≡ length (chain_of values place) + 1
    unfolding link_now
    longer l is =
        let now : Some l ≡ Some link_now = sym is ∙ ap (λ (s : Slots K KeyLink). link_at s place) p.keys_are ∙ sets.link_is in
        let e : l ≡ link_now = cc in
        ap (λ (m : KeyLink). m.length) e ∙ ap (λ m. m + 1) (sym (chained.length place p.link listed p.link_is))

    pub tail_is : (l : KeyLink) → link_at keys_after place ≡ Some l → l.tail ≡ p.last
    unfolding link_now
    tail_is l is =
        let now : Some l ≡ Some link_now = sym is ∙ ap (λ (s : Slots K KeyLink). link_at s place) p.keys_are ∙ sets.link_is in
        let e : l ≡ link_now = cc in
        ap (λ (m : KeyLink). m.tail) e

  -- under other names a chain is as long
  pub same_count : IsSound values → {keys_after : Slots K KeyLink} {values_after : Slots V ValueLink}
      → AreRelocated keys keys_after values values_after
      → length (chain_of values_after place) ≡ length (chain_of values place)
  same_count values_sound r = ap length (chain_of-relocated r.name keys_sound values_sound chained r.relocates place)
      ∙ length-map (chain_of values place) r.name

-- a value was put behind the others of a key, and these have left
module _ {K V : Type 0} {keeps : Bool} {gives : V → Type 0} {keys keys_after : Slots K KeyLink} {values values_after : Taped V ValueLink}
    {place : ℕ} {v : V} {ends : ChainEnds}
    (over : ReplacesChain keeps gives keys keys_after values values_after place v ends) where
  -- no room changes
  pub over_keys : keys_after.capacity ≡ keys.capacity
  over_keys = ap (λ (s : Slots K KeyLink). s.capacity) over.older.older.keys_are
      ∙ ap (λ (s : Slots K KeyLink). s.capacity) over.pushed.keys_are

  pub over_values : values_after.list.capacity ≡ values.list.capacity
  over_values = ap (λ (s : Slots V ValueLink). s.capacity) over.older.older.rest ∙ over.older.older.taking.taken.capacity
      ∙ over.room.capacity

module _ {K V : Type 0} {keys keys_reserved : Slots K KeyLink} {place : ℕ} where
  pub chain-relocated : {values reserved : Slots V ValueLink} → HasChain keys values place → AreRelocated keys keys_reserved values reserved
      → HasChain keys_reserved reserved place
  chain-relocated s r = record {
    listed = subst (IsIn place) (sym r.relocates.key_order) s.listed;
    chains = chains-relocated s.chains r;
  }

  -- room was made before
  pub inserts-over : {keys_after : Slots K KeyLink} {values reserved values_after : Taped V ValueLink} {keeps : Bool} {gives : V → Type 0}
      {v : V} {ends : ChainEnds}
      → HasChain keys values.list place → AreRelocated keys keys_reserved values.list reserved.list
      → TakesOut 0 (numbers_of values) (numbers_of reserved) → HasTapeRoomFor reserved 0
      → ReplacesChain keeps gives keys_reserved keys_after reserved values_after place v ends
      → Inserts keeps gives keys keys_after values values_after place v ends
  inserts-over {values = values} {reserved = reserved} {values_after = values_after} s r taken fits over =
      let t = chain-relocated s r in
      let m = t.chains in
      let o = over.older.older in
      let n = longer m.keys_sound m.chained place t.listed m.sound over.pushed o.link o.link_is in
      let some = chain_some m.keys_sound m.chained place t.listed in
      let same = same_count s.chains.keys_sound s.chains.chained place s.listed s.chains.sound r in
      record {
        done = record {
          keys_reserved = keys_reserved;
          reserved = reserved.list;
          relocated = r;
          keys_pushed = over.keys_pushed;
          pushed_values = over.pushed_values.list;
          pushed = over.pushed;
          older = o;
        };
        first = over.older.first;
        counts = record {
          freed = omega (arith, over.older.counts.freed, taken.freed, over.room.counts.freed, o.older, n, same);
          paid = omega (arith, over.older.counts.paid, taken.paid, over.room.counts.moved, over.room.counts.holes, o.older, n, same);
        };
        fits = omega (
          arith,
          fits,
          over.older.shorter,
          ap length over.pushed.pushed.order,
          length-append reserved.list.order (over.pushed.last ∷ []),
          o.older,
          n,
          some,
          ap (λ m. m / 2) (over_values over),
        );
        drain = over.older.drain;
      }

-- the first of a key's values, where more came behind
first_before : {X : Type 0} (xs ys : List X) (x : X) → has_items xs ≡ true → slice_get (xs ++ ys) 0 ≡ Some x → slice_get xs 0 ≡ Some x
first_before [] ys x some e = absurd (true≢false (sym some))
first_before (z ∷ xs) ys x some e = e

pub values_of-append : {K V : Type 0} (eq : K → K → Bool) (k : K) (pairs more : List (K × V))
    → values_of eq (pairs ++ more) k ≡ values_of eq pairs k ++ values_of eq more k
values_of-append eq k pairs more = ap (map (λ p. p.1)) (filter-append (λ p. eq k p.0) pairs more)
    ∙ map-append (λ p. p.1) (filter (λ p. eq k p.0) pairs) (filter (λ p. eq k p.0) more)

-- an insertion on a present key
module _ {K V : Type 0} {eq : K → K → Bool} (laws : IsEquivalence eq) {hash : K
    → ℕ} {keys keys_after : Slots K KeyLink} {rows : FinMap nat_cmp ℕ} {values values_after : Slots V ValueLink}
    (agrees : Agrees eq hash keys rows values) (k : K) (v : V) (place : ℕ) (has : HasKey eq keys k place)
    (done : InsertsBehind keys keys_after values values_after place v) where
  pushed : AppendsOne eq hash keys values k v done.keys_pushed rows done.pushed_values
  pushed = present_step laws agrees done.relocated k v place has done.pushed

  reserved_listed : IsIn place done.keys_reserved.order
  reserved_listed = subst (IsIn place) (sym done.relocated.relocates.key_order) has.listed

  has_pushed : HasKey eq done.keys_pushed k place
  has_pushed = record {
    listed = subst (λ (s : Slots K KeyLink). IsIn place s.order) (sym done.pushed.keys_are) reserved_listed;
    stored = has.stored;
    item_is = ap (λ (s : Slots K KeyLink). item_at s place) done.pushed.keys_are ∙ done.relocated.relocates.key_items place ∙ has.item_is;
    equal = has.equal;
  }

  order_is : done.pushed_values.order ≡ done.reserved.order ++ done.older.link.tail ∷ []
  order_is =
      let reserved = agrees_reserved laws agrees done.relocated in
      done.pushed.pushed.order ∙ ap (λ p. done.reserved.order ++ p ∷ [])
      (sym (tail_is reserved.keys_sound reserved.chained place reserved_listed reserved.values_sound done.pushed done.older.link
      done.older.link_is))

  pairs_pushed : pairs_of done.keys_pushed done.pushed_values ≡ pairs_of keys values ++ (stored_key eq (items_of keys) k, v) ∷ []
  pairs_pushed = ap (λ (m : Lists K V). m.pairs) pushed.lists

  pub pushed_agrees : Agrees eq hash done.keys_pushed rows done.pushed_values
  pushed_agrees = pushed.agrees

  pub pushed_has : HasKey eq done.keys_pushed k place
  pushed_has = has_pushed

  pub pushed_pairs : pairs_of done.keys_pushed done.pushed_values ≡ pairs_of keys values ++ (stored_key eq (items_of keys) k, v) ∷ []
  pushed_pairs = pairs_pushed

  pub agrees-inserted : Agrees eq hash keys_after rows values_after
  agrees-inserted = agrees-older laws pushed.agrees k place has_pushed done.older done.reserved.order order_is

  pub lists_of-inserted : lists_of keys_after values_after ≡ inserted eq (lists_of keys values) k v
  lists_of-inserted =
      lists_of-older laws pushed.agrees k place has_pushed done.older done.reserved.order order_is (pairs_of keys values)
      (stored_key eq (items_of keys) k, v) pairs_pushed
      ∙ ap (λ ks. lists ks (pairs_without eq (pairs_of keys values) k ++ (stored_key eq (items_of keys) k, v) ∷ []))
      (ap (λ (m : Lists K V). m.keys) pushed.lists)

  -- what is said of the value at the head is said of the key's first value
  pub first_of-inserted : (first : V) → ((u : V) → item_at done.pushed_values done.older.link.head ≡ Some u → first ≡ u)
      → slice_get (values_of eq (pairs_of keys values) k) 0 ≡ Some first
  first_of-inserted first given =
      let a = pushed.agrees in
      let head = done.older.link.head in
      let row = chain_row a.values_sound a.chained place done.older.link has_pushed.listed done.older.link_is 0 (omega arith) in
      let item = held (item_at done.pushed_values head)
      (a.values_sound.filled head (row.listed head (first_of-member (chain_of done.pushed_values place) head row.first_is))) in
      first_before (values_of eq (pairs_of keys values) k) (values_of eq ((stored_key eq (items_of keys) k, v) ∷ []) k) first
      (present_if_found laws agrees k place has)
      (ap (λ vs. slice_get vs 0) (sym (ap (λ ps. values_of eq ps k) pairs_pushed
      ∙ values_of-append eq k (pairs_of keys values) ((stored_key eq (items_of keys) k, v) ∷ [])))
      ∙ first_value laws pushed.agrees k place done.older.link first has_pushed done.older.link_is
      (item.is ∙ ap Some (sym (given item.value item.is))))

-- an absent key has no pairs to take out
pub inserted-absent : {K V : Type 0} {eq : K → K → Bool} (laws : IsEquivalence eq) (m : Lists K V) (k : K) (v : V) → IsWellFormed eq m
    → is_listed eq m.keys k ≡ false
    → appended eq m k v ≡ inserted eq m k v
inserted-absent {eq = eq} laws m k v formed unlisted =
    ap (λ ps. lists (keys_with eq m.keys k) (ps ++ (stored_key eq m.keys k, v) ∷ []))
    (sym (filter-all (λ p. not (eq k p.0)) m.pairs (λ p i. ap not (apart laws m (eq k) formed unlisted p i))))
