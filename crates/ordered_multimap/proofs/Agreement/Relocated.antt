-- Where values go to other places, and the links with them, key list, table and values agree as before.
use Rattle.std.proofs.Common.{◌≡◌, ℕ, Bool, true, false, cond, List, [], ◌∷◌, ◌++◌, map, length, reverse, filter, Option, Some, None}
use Rattle.std.proofs.Common.{IsSome, option_map, refl, sym, ap, ◌∙◌, subst, inl, inr, arith}
use Rattle.std.proofs.lemmas.Bool.{cases_eq, eq-eqb, ne_eqb}
use Rattle.std.proofs.lemmas.List.{length-map, reverse-append, map-append}
use Rattle.std.specs.List.{filter_map, cons_option, last_or}
use Rattle.std.specs.Ordering.{nat_cmp}
use Rattle.std.specs.FinMap.{FinMap}
use Rattle.multimap_slots.specs.Lists.{IsIn, AreDistinct, first_of, last_of, next_of, previous_of}
use Rattle.multimap_slots.specs.Slots.{Slots, IsSound, item_at, link_at}
use Rattle.multimap_slots.proofs.Callers.PlaceLists.{IsIn-kept, IsIn-reverse}
use Rattle.multimap_walks.specs.declared.links.KeyLink.{KeyLink}
use Rattle.multimap_walks.specs.declared.links.ValueLink.{ValueLink}
use Rattle.multimap_walks.specs.Chained.{IsChained, is_value_of, chain_of, pair_at, pairs_of}
use Rattle.ordered_multimap.specs.Agrees.{Agrees, items_of, lists_of}
use Rattle.ordered_multimap.specs.Lists.{lists}
use Rattle.ordered_multimap.specs.Private.Relocations.{AreChained, AreRelocated, Relocates, relocated_value, relocated_key}
use Rattle.ordered_multimap.proofs.Callers.Places.{held, filter_map-agree}
use Rattle.ordered_multimap.proofs.Agreement.Agreed.{pair_of, pair_at-is, is_value_of-is}

-- a list of places under new names
module _ (name : ℕ → ℕ) where
  pub first_of-map : (ps : List ℕ) → first_of (map name ps) ≡ option_map name (first_of ps)
  first_of-map [] = refl
  first_of-map (p ∷ ps) = refl

  pub last_or-map : (o : Option ℕ) (ps : List ℕ) → last_or (option_map name o) (map name ps) ≡ option_map name (last_or o ps)
  last_or-map o [] = refl
  last_or-map o (p ∷ ps) = last_or-map (Some p) ps

  -- the names tell this place from the others of the list
  abbrev pub IsTold : List ℕ → ℕ → Type 0
  IsTold ps q = (p : ℕ) → IsIn p ps → name p ≡ name q → p ≡ q

  pub next_of-map : (ps : List ℕ) (q : ℕ) → IsTold ps q → next_of (map name ps) (name q) ≡ option_map name (next_of ps q)
  next_of-map [] q told = refl
  next_of-map (p ∷ ps) q told = elim (cases_eq p q) [
    | inl same ↦ rw (eq-eqb (name p) (name q) (ap name same), eq-eqb p q same) (first_of-map ps)
    | inr differs ↦
        rw (ne_eqb (name p) (name q) (λ e. differs (told p (inl refl) e)), ne_eqb p q differs) (next_of-map ps q (λ x i. told x (inr i)))
  ]

  map-reverse : (ps : List ℕ) → map name (reverse ps) ≡ reverse (map name ps)
  map-reverse [] = refl
  map-reverse (p ∷ ps) =
      ap (map name) (reverse-append (p ∷ []) ps) ∙ map-append name (reverse ps) (p ∷ [])
      ∙ ap (λ qs. qs ++ name p ∷ []) (map-reverse ps) ∙ sym (reverse-append (name p ∷ []) (map name ps))

  pub previous_of-map : (ps : List ℕ) (q : ℕ) → IsTold ps q → previous_of (map name ps) (name q) ≡ option_map name (previous_of ps q)
  previous_of-map ps q told =
      ap (λ qs. next_of qs (name q)) (sym (map-reverse ps)) ∙ next_of-map (reverse ps) q (λ p i. told p (IsIn-reverse p ps i))

  pub record Named (ps : List ℕ) (q : ℕ) : Type 0 where
    pub place : ℕ
    pub member : IsIn place ps
    pub is : q ≡ name place

  pub IsIn-map : (q : ℕ) (ps : List ℕ) → IsIn q (map name ps) → Named ps q
  IsIn-map q [] i = absurd i
  IsIn-map q (p ∷ ps) (inl e) = record { place = p; member = inl refl; is = e }
  IsIn-map q (p ∷ ps) (inr i) = let n = IsIn-map q ps i in record { place = n.place; member = inr n.member; is = n.is }

  pub IsIn-name : (q : ℕ) (ps : List ℕ) → IsIn q ps → IsIn (name q) (map name ps)
  IsIn-name q [] i = absurd i
  IsIn-name q (p ∷ ps) (inl e) = inl (ap name e)
  IsIn-name q (p ∷ ps) (inr i) = inr (IsIn-name q ps i)

  AreDistinct-map : (ps : List ℕ) → ((p q : ℕ) → IsIn p ps → IsIn q ps → name p ≡ name q → p ≡ q) → AreDistinct ps
      → AreDistinct (map name ps)
  AreDistinct-map [] apart distinct = tt
  AreDistinct-map (p ∷ ps) apart distinct = (
    λ i. let n = IsIn-map (name p) ps i in distinct.0
        (subst (λ x. IsIn x ps) (sym (apart p n.place (inl refl) (inr n.member) n.is)) n.member),
    AreDistinct-map ps (λ x y i j. apart x y (inr i) (inr j)) distinct.1,
  )

  pub filter-map : (f g : ℕ → Bool) (ps : List ℕ) → ((p : ℕ) → IsIn p ps → f (name p) ≡ g p)
      → filter f (map name ps) ≡ map name (filter g ps)
  filter-map f g [] same = refl
  filter-map f g (p ∷ ps) same =
      ap (λ b. cond b (name p ∷ filter f (map name ps)) (filter f (map name ps))) (same p (inl refl))
      ∙ ap (λ qs. cond (g p) (name p ∷ qs) qs) (filter-map f g ps (λ q i. same q (inr i)))
      ∙ (elim (g p) as (λ b. cond b (name p ∷ map name (filter g ps)) (map name (filter g ps)) ≡ map name
      (cond b (p ∷ filter g ps) (filter g ps))) [ true ↦ refl | false ↦ refl ])

  pub filter_map-map : {Y : Type 0} (f g : ℕ → Option Y) (ps : List ℕ) → ((p : ℕ) → IsIn p ps → f (name p) ≡ g p)
      → filter_map f (map name ps) ≡ filter_map g ps
  filter_map-map f g [] same = refl
  filter_map-map f g (p ∷ ps) same =
      ap (λ o. cons_option o (filter_map f (map name ps))) (same p (inl refl))
      ∙ ap (cons_option (g p)) (filter_map-map f g ps (λ q i. same q (inr i)))

-- the link that a listed place had, where each has got a new one
module _ {X L : Type 0} (new_link : L → L) (slots : Slots X L) where
  pub record WasLinked (place : ℕ) (l : L) : Type 0 where
    pub listed : IsIn place slots.order
    pub link : L
    pub link_was : link_at slots place ≡ Some link
    pub link_is : l ≡ new_link link

  pub was_linked : (slots_after : Slots X L) → IsSound slots → slots_after.order ≡ slots.order
      → ((place : ℕ) (l : L) → IsIn place slots.order → link_at slots place ≡ Some l → link_at slots_after place ≡ Some (new_link l))
      → (place : ℕ) (l : L) → IsIn place slots_after.order → link_at slots_after place ≡ Some l → WasLinked place l
  was_linked slots_after sound order links place l listed is =
      let before = subst (IsIn place) order listed in
      let m = held (link_at slots place) (sound.linked place before) in
      let both : Some l ≡ Some (new_link m.value) = sym is ∙ links place m.value before m.is in
      record { listed = before; link = m.value; link_was = m.is; link_is = let same : l ≡ new_link m.value = cc in same }

module _ {K V : Type 0} (name : ℕ → ℕ) {keys keys_after : Slots K KeyLink} {values values_after : Slots V ValueLink}
    (keys_sound : IsSound keys) (values_sound : IsSound values) (chained : IsChained keys values)
    (r : Relocates name keys keys_after values values_after) where
  same_owner : (key q : ℕ) → IsIn q values.order → is_value_of values_after key (name q) ≡ is_value_of values key q
  same_owner key q listed =
      let l = held (link_at values q) (values_sound.linked q listed) in
      is_value_of-is keys_after values_after key (name q) (relocated_value name l.value) (r.links q l.value listed l.is)
      ∙ sym (is_value_of-is keys values key q l.value l.is)

  -- each chain goes along
  pub chain_of-relocated : (key : ℕ) → chain_of values_after key ≡ map name (chain_of values key)
  chain_of-relocated key =
      ap (filter (is_value_of values_after key)) r.order
      ∙ filter-map name (is_value_of values_after key) (is_value_of values key) values.order (same_owner key)

  told : (key q : ℕ) → IsIn q values.order → IsTold name (chain_of values key) q
  told key q listed p i = r.apart p q (IsIn-kept (is_value_of values key) p values.order i).0 listed

  -- the value and the link that were at the place before
  record WasAt (place : ℕ) (l : ValueLink) : Type 0 where
    old : ℕ
    old_listed : IsIn old values.order
    place_is : place ≡ name old
    link : ValueLink
    link_was : link_at values old ≡ Some link
    link_is : l ≡ relocated_value name link

  was_at : (place : ℕ) (l : ValueLink) → IsIn place values_after.order → link_at values_after place ≡ Some l → WasAt place l
  was_at place l listed is =
      let n = IsIn-map name place values.order (subst (IsIn place) r.order listed) in
      let m = held (link_at values n.place) (values_sound.linked n.place n.member) in
      let both : Some l ≡ Some (relocated_value name m.value) = sym is ∙ ap (link_at values_after) n.is
      ∙ r.links n.place m.value n.member m.is in
      let same : l ≡ relocated_value name m.value = cc in
      record { old = n.place; old_listed = n.member; place_is = n.is; link = m.value; link_was = m.is; link_is = same }

  abbrev was_key : (key : ℕ) (l : KeyLink) → IsIn key keys_after.order → link_at keys_after key ≡ Some l
      → WasLinked (relocated_key name) keys key l
  was_key = was_linked (relocated_key name) keys keys_after keys_sound r.key_order r.key_links

  -- what is beside a value under its key, on either side, goes along
  beside : (of : List ℕ → ℕ → Option ℕ) (side : ValueLink → Option ℕ)
      → ((ps : List ℕ) (q : ℕ) → IsTold name ps q → of (map name ps) (name q) ≡ option_map name (of ps q))
      → ((l : ValueLink) → side (relocated_value name l) ≡ option_map name (side l))
      → ((q : ℕ) (l : ValueLink) → IsIn q values.order → link_at values q ≡ Some l → of (chain_of values l.key) q ≡ side l)
      → (place : ℕ) (l : ValueLink) → IsIn place values_after.order → link_at values_after place ≡ Some l
      → of (chain_of values_after l.key) place ≡ side l
  beside of side of-map side_is was place l listed is =
      let w = was_at place l listed is in
      ap (λ (x : ValueLink). of (chain_of values_after x.key) place) w.link_is
      ∙ (λ i. of (chain_of-relocated w.link.key i) (w.place_is i))
      ∙ of-map (chain_of values w.link.key) w.old (told w.link.key w.old w.old_listed)
      ∙ ap (option_map name) (was w.old w.link w.old_listed w.link_was) ∙ sym (side_is w.link) ∙ ap side (sym w.link_is)

  pub chained-relocated : IsChained keys_after values_after
  chained-relocated = record {
    owned = λ place l listed is.
        let w = was_at place l listed is in
        rw (r.key_order, ap (λ (x : ValueLink). x.key) w.link_is) (chained.owned w.old w.link w.old_listed w.link_was);
    head = λ key l listed is.
        let w = was_key key l listed is in
        ap first_of (chain_of-relocated key) ∙ first_of-map name (chain_of values key)
        ∙ ap (option_map name) (chained.head key w.link w.listed w.link_was) ∙ ap (λ (x : KeyLink). Some x.head) (sym w.link_is);
    tail = λ key l listed is.
        let w = was_key key l listed is in
        ap last_of (chain_of-relocated key) ∙ last_or-map name None (chain_of values key)
        ∙ ap (option_map name) (chained.tail key w.link w.listed w.link_was) ∙ ap (λ (x : KeyLink). Some x.tail) (sym w.link_is);
    length = λ key l listed is.
        let w = was_key key l listed is in
        ap length (chain_of-relocated key) ∙ length-map (chain_of values key) name ∙ chained.length key w.link w.listed w.link_was
        ∙ ap (λ (x : KeyLink). x.length) (sym w.link_is);
    previous = beside previous_of (λ l. l.previous) (previous_of-map name) (λ l. refl) chained.previous;
    next = beside next_of (λ l. l.next) (next_of-map name) (λ l. refl) chained.next;
  }

  -- the pairs are the same, in the same order
  pub pairs_of-relocated : pairs_of keys_after values_after ≡ pairs_of keys values
  pairs_of-relocated =
      ap (filter_map (pair_at keys_after values_after)) r.order
      ∙ filter_map-map name (pair_at keys_after values_after) (pair_at keys values) values.order (λ q listed.
      let p = pair_of keys values keys_sound values_sound chained q listed in
      pair_at-is keys_after values_after (name q) (relocated_value name p.link) p.key p.value (r.links q p.link listed p.link_is)
      (r.key_items p.link.key ∙ p.key_is) (r.items q listed ∙ p.value_is) ∙ sym p.pair_is)

  pub items_of-relocated : items_of keys_after ≡ items_of keys
  items_of-relocated =
      ap (filter_map (item_at keys_after)) r.key_order
      ∙ filter_map-agree (item_at keys_after) (item_at keys) keys.order (λ q i. r.key_items q)

  pub keys_sound-relocated : IsSound keys_after
  keys_sound-relocated = record {
    distinct = subst AreDistinct (sym r.key_order) keys_sound.distinct;
    filled = λ q i. rw (r.key_items q) (keys_sound.filled q (subst (IsIn q) r.key_order i));
    linked = λ q i.
        let before = subst (IsIn q) r.key_order i in
        let l = held (link_at keys q) (keys_sound.linked q before) in
        rw (r.key_links q l.value before l.is) refl;
    fits = omega (arith, ap length r.key_order, r.key_room);
  }

  pub values_sound-relocated : IsSound values_after
  values_sound-relocated = record {
    distinct = subst AreDistinct (sym r.order) (AreDistinct-map name values.order r.apart values_sound.distinct);
    filled = λ q i.
        let n = IsIn-map name q values.order (subst (IsIn q) r.order i) in
        subst (λ o. IsSome o) (sym (ap (item_at values_after) n.is ∙ r.items n.place n.member)) (values_sound.filled n.place n.member);
    linked = λ q i.
        let n = IsIn-map name q values.order (subst (IsIn q) r.order i) in
        let l = held (link_at values n.place) (values_sound.linked n.place n.member) in
        subst (λ o. IsSome o) (sym (ap (link_at values_after) n.is ∙ r.links n.place l.value n.member l.is)) refl;
    fits = omega (arith, ap length r.order, length-map values.order name, r.room);
  }

-- so chained lists stay so
pub chains-relocated : {K V : Type 0} {keys keys_after : Slots K KeyLink} {values values_after : Slots V ValueLink} → AreChained keys values
    → AreRelocated keys keys_after values values_after → AreChained keys_after values_after
chains-relocated s r = record {
  keys_sound = keys_sound-relocated r.name s.keys_sound s.sound s.chained r.relocates;
  sound = values_sound-relocated r.name s.keys_sound s.sound s.chained r.relocates;
  chained = chained-relocated r.name s.keys_sound s.sound s.chained r.relocates;
}

-- and all three agree, on the same two lists
module _ {K V : Type 0} (name : ℕ → ℕ) {eq : K → K → Bool} {hash : K
    → ℕ} {keys keys_after : Slots K KeyLink} {rows : FinMap nat_cmp ℕ} {values values_after : Slots V ValueLink}
    (agrees : Agrees eq hash keys rows values) (r : Relocates name keys keys_after values values_after) where
  pub agrees-relocated : Agrees eq hash keys_after rows values_after
  agrees-relocated = record {
    keys_sound = keys_sound-relocated name agrees.keys_sound agrees.values_sound agrees.chained r;
    values_sound = values_sound-relocated name agrees.keys_sound agrees.values_sound agrees.chained r;
    chained = chained-relocated name agrees.keys_sound agrees.values_sound agrees.chained r;
    distinct = rw (items_of-relocated name agrees.keys_sound agrees.values_sound agrees.chained r) agrees.distinct;
    hashed = λ place k l listed item is.
        let w = was_key name agrees.keys_sound agrees.values_sound agrees.chained r place l listed is in
        ap (λ (x : KeyLink). x.hash) w.link_is ∙ agrees.hashed place k w.link w.listed (sym (r.key_items place) ∙ item) w.link_was;
    in_table = λ place l listed is.
        let w = was_key name agrees.keys_sound agrees.values_sound agrees.chained r place l listed is in
        agrees.in_table place w.link w.listed w.link_was ∙ ap (λ (x : KeyLink). Some x.hash) (sym w.link_is);
    listed = λ place h e. subst (IsIn place) (sym r.key_order) (agrees.listed place h e);
    counted = agrees.counted ∙ sym (ap length r.key_order);
  }

  pub lists_of-relocated : lists_of keys_after values_after ≡ lists_of keys values
  lists_of-relocated = λ i. lists (items_of-relocated name agrees.keys_sound agrees.values_sound agrees.chained r i)
      (pairs_of-relocated name agrees.keys_sound agrees.values_sound agrees.chained r i)
