-- Where keys go to other places, with their rows, and the links of their values name these, all agree as before.
use Rattle.std.proofs.Common.{◌≡◌, ℕ, ◌≤◌, ◌==◌, Bool, length, filter, Some, IsSome, refl, sym, ap, ◌∙◌, subst, inl}
use Rattle.std.proofs.Common.{inr, arith}
use Rattle.std.proofs.lemmas.Bool.{cases_eq, eq-eqb, ne_eqb}
use Rattle.std.proofs.lemmas.List.{length-map}
use Rattle.std.specs.List.{filter_map}
use Rattle.std.specs.Ordering.{nat_cmp}
use Rattle.std.specs.FinMap.{FinMap}
use Rattle.multimap_slots.specs.Lists.{IsIn, AreDistinct, first_of, last_of, next_of, previous_of}
use Rattle.multimap_slots.specs.Slots.{Slots, IsSound, item_at, link_at}
use Rattle.multimap_walks.specs.declared.links.KeyLink.{KeyLink}
use Rattle.multimap_walks.specs.declared.links.ValueLink.{ValueLink}
use Rattle.multimap_walks.specs.Chained.{IsChained, is_value_of, chain_of, pair_at, pairs_of}
use Rattle.ordered_multimap.specs.Agrees.{Agrees, items_of, lists_of}
use Rattle.ordered_multimap.specs.Private.KeyRelocations.{AreMoved, ArePacked, HasRows, HaveCome, HaveNewPlaces, with_new_key}
use Rattle.ordered_multimap.specs.Lists.{lists}
use Rattle.ordered_multimap.proofs.Agreement.Agreed.{pair_in, pair_at-is, is_value_of-is}
use Rattle.ordered_multimap.proofs.Callers.Places.{held, filter-agree, filter_map-agree}
use Rattle.ordered_multimap.proofs.Agreement.Relocated.{IsIn-map, IsIn-name, WasLinked, filter_map-map, agrees-relocated, lists_of-relocated, was_linked}

module _ {K V : Type 0} (name : ℕ → ℕ) {eq : K → K → Bool} {hash : K
    → ℕ} {keys keys_after : Slots K KeyLink} {rows rows_after : FinMap nat_cmp ℕ} {values values_after : Slots V ValueLink}
    (agrees : Agrees eq hash keys rows values) (gone : HaveNewPlaces (AreMoved keys) name keys.order keys_after)
    (has_rows : HasRows keys_after rows_after)
    (come : HaveCome name values.order values values_after) (keys_sound : IsSound keys_after)
    (fits : length values.order ≤ values_after.capacity) where
  -- the old place of a key
  record WasAt (place : ℕ) : Type 0 where
    old : ℕ
    old_listed : IsIn old keys.order
    place_is : place ≡ name old

  was_at : (place : ℕ) → IsIn place keys_after.order → WasAt place
  was_at place listed =
      let n = IsIn-map name place keys.order (subst (IsIn place) gone.order listed) in
      record { old = n.place; old_listed = n.member; place_is = n.is }

  link_was : (place : ℕ) (l : KeyLink) (w : WasAt place) → link_at keys_after place ≡ Some l → link_at keys w.old ≡ Some l
  link_was place l w is = sym (gone.slots w.old w.old_listed).link_is ∙ sym (ap (link_at keys_after) w.place_is) ∙ is

  item_was : (place : ℕ) (k : K) (w : WasAt place) → item_at keys_after place ≡ Some k → item_at keys w.old ≡ Some k
  item_was place k w is = sym (gone.slots w.old w.old_listed).item_is ∙ sym (ap (item_at keys_after) w.place_is) ∙ is

  abbrev before : (place : ℕ) (l : ValueLink) → IsIn place values_after.order → link_at values_after place ≡ Some l
      → WasLinked (with_new_key name) values place l
  before = was_linked (with_new_key name) values values_after agrees.values_sound come.order (λ q l. come.links q l)

  same_name : (p q : ℕ) → IsIn p keys.order → IsIn q keys.order → (name p == name q) ≡ (p == q)
  same_name p q i j = elim (cases_eq p q) [
    | inl same ↦ eq-eqb (name p) (name q) (ap name same) ∙ sym (eq-eqb p q same)
    | inr differs ↦ ne_eqb (name p) (name q) (λ e. differs (gone.apart p q i j e)) ∙ sym (ne_eqb p q differs)
  ]

  same_owner : (key : ℕ) → IsIn key keys.order → (q : ℕ) → IsIn q values.order
      → is_value_of values_after (name key) q ≡ is_value_of values key q
  same_owner key there q listed =
      let l = held (link_at values q) (agrees.values_sound.linked q listed) in
      is_value_of-is keys_after values_after (name key) q (with_new_key name l.value) (come.links q l.value listed l.is)
      ∙ same_name l.value.key key (agrees.chained.owned q l.value listed l.is) there
      ∙ sym (is_value_of-is keys values key q l.value l.is)

  -- each chain is the same, under the key's new place
  same_chain : (key : ℕ) → IsIn key keys.order → chain_of values_after (name key) ≡ chain_of values key
  same_chain key there =
      ap (filter (is_value_of values_after (name key))) come.order
      ∙ filter-agree (is_value_of values_after (name key)) (is_value_of values key) values.order (same_owner key there)

  chain_at : (place : ℕ) (w : WasAt place) → chain_of values_after place ≡ chain_of values w.old
  chain_at place w = ap (chain_of values_after) w.place_is ∙ same_chain w.old w.old_listed

  chain_by : (place : ℕ) (l : ValueLink) (b : WasLinked (with_new_key name) values place l) → chain_of values_after l.key ≡ chain_of values b.link.key
  chain_by place l b = ap (λ (x : ValueLink). chain_of values_after x.key) b.link_is
      ∙ same_chain b.link.key (agrees.chained.owned place b.link b.listed b.link_was)

  chained : IsChained keys_after values_after
  chained = record {
    owned = λ place l listed is.
        let b = before place l listed is in
        subst (λ q. IsIn q keys_after.order) (sym (ap (λ (x : ValueLink). x.key) b.link_is))
        (subst (IsIn (name b.link.key)) (sym gone.order)
        (IsIn-name name b.link.key keys.order (agrees.chained.owned place b.link b.listed b.link_was)));
    head = λ key l listed is. let w = was_at key listed in
        ap first_of (chain_at key w) ∙ agrees.chained.head w.old l w.old_listed (link_was key l w is);
    tail = λ key l listed is. let w = was_at key listed in
        ap last_of (chain_at key w) ∙ agrees.chained.tail w.old l w.old_listed (link_was key l w is);
    length = λ key l listed is. let w = was_at key listed in
        ap length (chain_at key w) ∙ agrees.chained.length w.old l w.old_listed (link_was key l w is);
    previous = λ place l listed is.
        let b = before place l listed is in
        ap (λ ps. previous_of ps place) (chain_by place l b) ∙ agrees.chained.previous place b.link b.listed b.link_was
        ∙ ap (λ (x : ValueLink). x.previous) (sym b.link_is);
    next = λ place l listed is.
        let b = before place l listed is in
        ap (λ ps. next_of ps place) (chain_by place l b) ∙ agrees.chained.next place b.link b.listed b.link_was
        ∙ ap (λ (x : ValueLink). x.next) (sym b.link_is);
  }

  items_of-gone : items_of keys_after ≡ items_of keys
  items_of-gone = ap (filter_map (item_at keys_after)) gone.order
      ∙ filter_map-map name (item_at keys_after) (item_at keys) keys.order (λ q i. (gone.slots q i).item_is)

  pairs_of-gone : pairs_of keys_after values_after ≡ pairs_of keys values
  pairs_of-gone =
      ap (filter_map (pair_at keys_after values_after)) come.order
      ∙ filter_map-agree (pair_at keys_after values_after) (pair_at keys values) values.order (λ q listed.
      let p = pair_in agrees q listed in
      pair_at-is keys_after values_after q (with_new_key name p.link) p.key p.value (come.links q p.link listed p.link_is)
      ((gone.slots p.link.key p.key_listed).item_is ∙ p.key_is) (come.items q listed ∙ p.value_is) ∙ sym p.pair_is)

  pub agrees-gone : Agrees eq hash keys_after rows_after values_after
  agrees-gone = record {
    keys_sound = keys_sound;
    values_sound = record {
      distinct = subst AreDistinct (sym come.order) agrees.values_sound.distinct;
      filled = λ q i. let there = subst (IsIn q) come.order i in
          subst IsSome (sym (come.items q there)) (agrees.values_sound.filled q there);
      linked = λ q i.
          let there = subst (IsIn q) come.order i in
          let l = held (link_at values q) (agrees.values_sound.linked q there) in
          subst IsSome (sym (come.links q l.value there l.is)) refl;
      fits = omega (arith, fits, ap length come.order);
    };
    chained = chained;
    distinct = rw items_of-gone agrees.distinct;
    hashed = λ place k l listed item is. let w = was_at place listed in
        agrees.hashed w.old k l w.old_listed (item_was place k w item) (link_was place l w is);
    in_table = has_rows.in_table;
    listed = has_rows.listed;
    counted = has_rows.counted;
  }

  pub lists_of-gone : lists_of keys_after values_after ≡ lists_of keys values
  lists_of-gone = λ i. lists (items_of-gone i) (pairs_of-gone i)

-- where the values were taken down over holes before
module _ {K V : Type 0} {eq : K → K → Bool} {hash : K
    → ℕ} {keys keys_after : Slots K KeyLink} {rows rows_after : FinMap nat_cmp ℕ} {values values_after : Slots V ValueLink}
    (agrees : Agrees eq hash keys rows values) (p : ArePacked keys keys_after rows_after values values_after) where
  dense : Agrees eq hash p.keys_dense rows p.values_dense
  dense = agrees-relocated p.dense.name agrees p.dense.relocates

  same_length : length p.values_dense.order ≡ length values.order
  same_length = ap length p.dense.relocates.order ∙ length-map values.order p.dense.name

  fits_dense : length p.values_dense.order ≤ values_after.capacity
  fits_dense = omega (arith, same_length, p.fits)

  pub agrees-packed : Agrees eq hash keys_after rows_after values_after
  agrees-packed = agrees-gone p.name dense p.gone p.rows p.come p.keys_sound fits_dense

  pub lists_of-packed : lists_of keys_after values_after ≡ lists_of keys values
  lists_of-packed = lists_of-gone p.name dense p.gone p.rows p.come p.keys_sound fits_dense
      ∙ lists_of-relocated p.dense.name agrees p.dense.relocates

  pub packed_length : length values_after.order ≡ length values.order
  packed_length = ap length p.come.order ∙ same_length
