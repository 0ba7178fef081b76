-- After an append key list, table and values agree, and the two lists are the appended ones.
use Rattle.std.proofs.Common.{◌≡◌, ℕ, ◌+◌, ◌<◌, Bool, true, false, cond, List, [], ◌∷◌, ◌++◌, length, Some, None, refl, sym}
use Rattle.std.proofs.Common.{ap, ◌∙◌, subst, inl, inr, arith, length-append, Result, Ok, Err, OnOk, OnErr}
use Rattle.std.proofs.lemmas.Bool.{cases_eq, ne_eqb}
use Rattle.std.proofs.lemmas.List.Elements.{filter_map-append}
use Rattle.std.proofs.lemmas.Map.Keys.{IsDistinct-push}
use Rattle.std.specs.Cmp.{IsEquivalence}
use Rattle.std.specs.List.{filter_map, cons_option, IsDistinct}
use Rattle.std.specs.Ordering.{nat_cmp}
use Rattle.std.specs.FinMap.{FinMap, get, insert}
use Rattle.multimap_slots.specs.Lists.{IsIn, first_of, last_of}
use Rattle.multimap_slots.specs.Slots.{Slots, IsSound, HasRoomFor, PushesBack, item_at, link_at, with_link}
use Rattle.multimap_slots.proofs.Callers.PlaceLists.{IsIn-kept}
use Rattle.multimap_walks.specs.declared.links.KeyLink.{KeyLink}
use Rattle.multimap_walks.specs.declared.links.ValueLink.{ValueLink}
use Rattle.multimap_walks.specs.Chained.{IsChained, is_value_of, chain_of, pairs_of}
use Rattle.ordered_multimap.specs.Lists.{lists}
use Rattle.ordered_multimap.specs.Keys.{is_listed, stored_key}
use Rattle.ordered_multimap.specs.Changes.{appended}
use Rattle.ordered_multimap.specs.Agrees.{Agrees, HasKey, items_of, lists_of}
use Rattle.ordered_multimap.specs.Private.Append.{PushesValue, PushesBehind, HasListedRows, PushesRow, AppendsBehind, AppendsFirst}
use Rattle.ordered_multimap.specs.Private.Append.{link_of_one}
use Rattle.ordered_multimap.proofs.Callers.Members.{filter-none}
use Rattle.ordered_multimap.proofs.Callers.Places.{held, IsIn-filter_map, filter_map-agree, filter_shorter, last_of-member}
use Rattle.ordered_multimap.proofs.Callers.ListedKeys.{is_listed-member, stored_key_only, stored_key_absent}
use Rattle.ordered_multimap.proofs.Agreement.Agreed.{is_value_of-is}
use Rattle.ordered_multimap.proofs.Chains.LongerLists.{first_of-push}
use Rattle.ordered_multimap.proofs.Append.Steps.{old_other, listed_cases, IsSound-push, IsSound-with_link}
use Rattle.ordered_multimap.proofs.Append.Steps.{sets_link}
use Rattle.ordered_multimap.proofs.Append.Steps.{sets_pushed, SetsKey}
use Rattle.ordered_multimap.specs.Private.KeyRelocations.{HasRows}
use Rattle.ordered_multimap.specs.Private.Relocations.{AreRelocated}
use Rattle.ordered_multimap.specs.TapeNumbers.{TapeNumbers, TakesOut, ArePaid}
use Rattle.ordered_multimap.proofs.Append.Chained.{chained-append, pairs_of-append}
use Rattle.ordered_multimap.proofs.Agreement.Rows.{rows-step}
use Rattle.ordered_multimap.proofs.Agreement.Relocated.{agrees-relocated, lists_of-relocated}

-- what an append ends with
pub record AppendsOne {K V : Type 0} (eq : K → K → Bool) (hash : K → ℕ) (keys : Slots K KeyLink) (values : Slots V ValueLink) (key : K) (v : V)
    (keys_after : Slots K KeyLink) (rows_after : FinMap nat_cmp ℕ) (values_after : Slots V ValueLink) : Type 0 where
  pub agrees : Agrees eq hash keys_after rows_after values_after
  pub lists : lists_of keys_after values_after ≡ appended eq (lists_of keys values) key v

module _ {K V : Type 0} {eq : K → K → Bool} (laws : IsEquivalence eq) {hash : K
    → ℕ} {keys : Slots K KeyLink} {rows : FinMap nat_cmp ℕ} {values : Slots V ValueLink}
    (agrees : Agrees eq hash keys rows values) (key : K) (v : V) (place last n : ℕ) (values_after : Slots V ValueLink)
    (sound : IsSound values_after) where
  -- one more value of a present key
  pub append_present : (l : KeyLink) (keys_after : Slots K KeyLink) → HasKey eq keys key place → link_at keys place ≡ Some l
      → PushesValue values values_after last v place (Some l.tail) → n ≡ l.length + 1
      → keys_after ≡ with_link keys place (record l { tail = last; length = n })
      → AppendsOne eq hash keys values key v keys_after rows values_after
  append_present l keys_after has link_is pushes more sets_is =
      let link : KeyLink = record l { tail = last; length = n } in
      let after : Slots K KeyLink = with_link keys place link in
      let chain : List ℕ = chain_of values place in
      let ks : List K = items_of keys in
      let ps : List (K × V) = pairs_of keys values in
      let tail_is : Some l.tail ≡ last_of chain = sym (agrees.chained.tail place l has.listed link_is) in
      let behind : PushesValue values values_after last v place (last_of chain) = subst
      (PushesValue values values_after last v place) tail_is pushes in
      let sets : SetsKey keys after place has.stored link = sets_link keys place has.stored link has.listed has.item_is
      (agrees.keys_sound.linked place has.listed) in
      let there : is_listed eq ks key ≡ true = is_listed-member laws key has.stored ks
      (IsIn-filter_map (item_at keys) place has.stored keys.order has.listed has.item_is) has.equal in
      let own : stored_key eq ks key ≡ has.stored = stored_key_only laws key has.stored ks agrees.distinct
      (IsIn-filter_map (item_at keys) place has.stored keys.order has.listed has.item_is) has.equal in
      let all : AppendsOne eq hash keys values key v after rows values_after = record {
        agrees = record {
          keys_sound = IsSound-with_link keys place link has.listed agrees.keys_sound;
          values_sound = sound;
          chained = chained-append agrees.keys_sound agrees.values_sound agrees.chained sets behind
              (first_of-push chain last l.head (agrees.chained.head place l has.listed link_is)) refl
              (more ∙ ap (λ m. m + 1) (sym (agrees.chained.length place l has.listed link_is)));
          distinct = agrees.distinct;
          hashed = λ p k m listed item is. elim (cases_eq p place) [
            | inl same ↦
                let both : Some link ≡ Some m = sym sets.link_is ∙ ap (link_at after) (sym same) ∙ is in
                let is_link : link ≡ m = cc in
                ap (λ (x : KeyLink). x.hash) (sym is_link)
                ∙ agrees.hashed place k l has.listed (ap (item_at keys) (sym same) ∙ item) link_is
            | inr differs ↦ agrees.hashed p k m listed item (sym (sets.links p differs) ∙ is)
          ];
          in_table = λ p m listed is. elim (cases_eq p place) [
            | inl same ↦
                let both : Some link ≡ Some m = sym sets.link_is ∙ ap (link_at after) (sym same) ∙ is in
                let is_link : link ≡ m = cc in
                ap (get rows) same ∙ agrees.in_table place l has.listed link_is ∙ ap (λ (x : KeyLink). Some x.hash) is_link
            | inr differs ↦ agrees.in_table p m listed (sym (sets.links p differs) ∙ is)
          ];
          listed = agrees.listed;
          counted = agrees.counted;
        };
        lists =
            ap (λ pairs. lists ks pairs) (pairs_of-append agrees.keys_sound agrees.values_sound agrees.chained sets behind)
            ∙ sym (ap (λ b. lists (cond b ks (ks ++ key ∷ [])) (ps ++ (stored_key eq ks key, v) ∷ [])) there
            ∙ ap (λ s. lists ks (ps ++ (s, v) ∷ [])) own);
      } in
      subst (λ s. AppendsOne eq hash keys values key v s rows values_after) (sym sets_is) all

  -- a first value of a key that was absent
  pub append_absent : (h : ℕ) (after : Slots K KeyLink) (rows_after : FinMap nat_cmp ℕ)
      → is_listed eq (items_of keys) key ≡ false → h ≡ hash key → HasRoomFor keys 1
      → PushesRow keys after rows rows_after place key (link_of_one h last)
      → PushesValue values values_after last v place None → AppendsOne eq hash keys values key v after rows_after values_after
  append_absent h after rows_after unlisted hash_is room row pushes =
      let link : KeyLink = link_of_one h last in
      let pushed : PushesBack keys after place key link = row.key_pushed in
      let chain : List ℕ = chain_of values place in
      let ks : List K = items_of keys in
      let ps : List (K × V) = pairs_of keys values in
      let none : chain ≡ [] = filter-none (is_value_of values place) values.order (λ q listed.
      let l = held (link_at values q) (agrees.values_sound.linked q listed) in
      is_value_of-is keys values place q l.value l.is
      ∙ ne_eqb l.value.key place (old_other pushed l.value.key (agrees.chained.owned q l.value listed l.is))) in
      let first : PushesValue values values_after last v place (last_of chain) = subst (PushesValue values values_after last v place)
      (sym (ap last_of none)) pushes in
      let sets : SetsKey keys after place key link = sets_pushed pushed in
      let items : items_of after ≡ ks ++ key ∷ [] =
      ap (filter_map (item_at after)) pushed.order
      ∙ filter_map-append (item_at after) keys.order (place ∷ [])
      ∙ ap (λ js. js ++ filter_map (item_at after) (place ∷ []))
      (filter_map-agree (item_at after) (item_at keys) keys.order (λ q i. pushed.others.items q (old_other pushed q i)))
      ∙ ap (λ o. ks ++ cons_option o []) pushed.item_is in
      let was : HasRows keys rows = record { in_table = agrees.in_table; listed = agrees.listed; counted = agrees.counted } in
      let has : HasRows after (insert rows place h) = rows-step pushed refl was in
      let own : stored_key eq ks key ≡ key = stored_key_absent laws key ks unlisted in
      let all : AppendsOne eq hash keys values key v after (insert rows place h) values_after = record {
        agrees = record {
          keys_sound = IsSound-push pushed agrees.keys_sound room row.same_room;
          values_sound = sound;
          chained = chained-append agrees.keys_sound agrees.values_sound agrees.chained sets first
              (ap (λ qs. first_of (qs ++ last ∷ [])) none) refl (ap (λ qs. length qs + 1) (sym none));
          distinct = subst (IsDistinct eq) (sym items) (IsDistinct-push laws ks key agrees.distinct unlisted);
          hashed = λ p k m listed item is. elim (listed_cases pushed p listed) [
            | inl before ↦ agrees.hashed p k m before (sym (pushed.others.items p (old_other pushed p before)) ∙ item)
                (sym (sets.links p (old_other pushed p before)) ∙ is)
            | inr here ↦
                let both : Some link ≡ Some m = sym sets.link_is ∙ ap (link_at after) (sym here) ∙ is in
                let is_link : link ≡ m = cc in
                let both_keys : Some key ≡ Some k = sym pushed.item_is ∙ ap (item_at after) (sym here) ∙ item in
                let is_key : key ≡ k = cc in
                ap (λ (x : KeyLink). x.hash) (sym is_link) ∙ hash_is ∙ ap hash is_key
          ];
          in_table = has.in_table;
          listed = has.listed;
          counted = has.counted;
        };
        lists =
            (λ i. lists (items i) (pairs_of-append agrees.keys_sound agrees.values_sound agrees.chained sets first i))
            ∙ sym (ap (λ b. lists (cond b ks (ks ++ key ∷ [])) (ps ++ (stored_key eq ks key, v) ∷ [])) unlisted
            ∙ ap (λ s. lists (ks ++ key ∷ []) (ps ++ (s, v) ∷ [])) own);
      } in
      subst (λ r. AppendsOne eq hash keys values key v after r values_after) (sym row.rows_are) all

-- a chain is a part of the list
module _ {K V : Type 0} {keys : Slots K KeyLink} {values : Slots V ValueLink} (chained : IsChained keys values) (place : ℕ) (l : KeyLink)
    (listed : IsIn place keys.order) (link_is : link_at keys place ≡ Some l) where
  -- its tail is listed
  pub tail_listed : (q : ℕ) → Some l.tail ≡ Some q → IsIn q values.order
  tail_listed q is =
      let last = chained.tail place l listed link_is ∙ is in
      (IsIn-kept (is_value_of values place) q values.order (last_of-member (chain_of values place) q last)).0

  -- and it is shorter than the list with another value
  pub chain_shorter : (more : List ℕ) (last : ℕ) → more ≡ values.order ++ last ∷ [] → l.length < length more
  chain_shorter more last is =
      let count = chained.length place l listed link_is in
      let short = filter_shorter (is_value_of values place) values.order in
      omega (arith, count, short, ap length is, length-append values.order (last ∷ []))

-- an append, from the slots before room was made
module _ {K V : Type 0} {eq : K → K → Bool} (laws : IsEquivalence eq) {hash : K
    → ℕ} {keys : Slots K KeyLink} {rows : FinMap nat_cmp ℕ} {values : Slots V ValueLink}
    (agrees : Agrees eq hash keys rows values) {keys_reserved : Slots K KeyLink} {reserved : Slots V ValueLink}
    (r : AreRelocated keys keys_reserved values reserved) where
  -- with room
  pub agrees_reserved : Agrees eq hash keys_reserved rows reserved
  agrees_reserved = agrees-relocated r.name agrees r.relocates

  pub lists_reserved : lists_of keys_reserved reserved ≡ lists_of keys values
  lists_reserved = lists_of-relocated r.name agrees r.relocates

  pub present_step : (key : K) (v : V) (place : ℕ) {values_after : Slots V ValueLink} {keys_after : Slots K KeyLink}
      → HasKey eq keys key place
      → PushesBehind keys_reserved keys_after reserved values_after place v → AppendsOne eq hash keys values key v keys_after rows values_after
  present_step key v place {values_after} {keys_after} has p =
      let there : HasKey eq keys_reserved key place = record {
        listed = subst (IsIn place) (sym r.relocates.key_order) has.listed;
        stored = has.stored;
        item_is = r.relocates.key_items place ∙ has.item_is;
        equal = has.equal;
      } in
      let done = append_present laws agrees_reserved key v place p.last
      (p.link.length + 1) values_after p.sound p.link keys_after there p.link_is p.pushed refl p.keys_are in
      record { agrees = done.agrees; lists = done.lists ∙ ap (λ m. appended eq m key v) lists_reserved }

  absent_step : (rows_reserved : FinMap nat_cmp ℕ) → rows_reserved ≡ rows
      → (key : K) (v : V) (place last h : ℕ) {values_after : Slots V ValueLink} {keys_after : Slots K KeyLink} {rows_after : FinMap nat_cmp
      ℕ}
      → is_listed eq (items_of keys) key ≡ false → h ≡ hash key → HasRoomFor keys_reserved 1
      → PushesRow keys_reserved keys_after rows_reserved rows_after place key (link_of_one h last)
      → PushesValue reserved values_after last v place None → IsSound values_after
      → AppendsOne eq hash keys values key v keys_after rows_after values_after
  absent_step rows_reserved same_rows key v place last h {values_after} {keys_after} {rows_after} unlisted hash_is fits row pushes sound =
      let a : Agrees eq hash keys_reserved rows_reserved reserved = subst (λ m. Agrees eq hash keys_reserved m reserved)
      (sym same_rows) agrees_reserved in
      let done = append_absent laws a key v place last 1 values_after sound h keys_after rows_after
      (ap (λ m. is_listed eq m.keys key) lists_reserved ∙ unlisted) hash_is fits row pushes in
      record { agrees = done.agrees; lists = done.lists ∙ ap (λ m. appended eq m key v) lists_reserved }

-- the table of reserved rows has listed places alone
pub rows_listed : {K V : Type 0} {keys keys_reserved : Slots K KeyLink} {values reserved : Slots V ValueLink} {rows rows_reserved : FinMap
    nat_cmp ℕ}
    → AreRelocated keys keys_reserved values reserved → rows_reserved ≡ rows → HasListedRows keys rows
    → HasListedRows keys_reserved rows_reserved
rows_listed r same_rows listed p h is = subst (IsIn p) (sym r.relocates.key_order) (listed p h (ap (λ m. get m p) (sym same_rows) ∙ is))

-- what either outcome of an append leaves
module _ {K V : Type 0} {eq : K → K → Bool} (laws : IsEquivalence eq) {hash : K
    → ℕ} {keys : Slots K KeyLink} {rows : FinMap nat_cmp ℕ} {values : Slots V ValueLink}
    (agrees : Agrees eq hash keys rows values) (key : K) (v : V) (keys_after : Slots K KeyLink) (values_after : Slots V ValueLink) where
  pub refused_lists : {X E : Type 0} (r : Result X E) → OnErr r (AreRelocated keys keys_after values values_after)
      → OnErr r (lists_of keys_after values_after ≡ lists_of keys values)
  refused_lists (Ok x) relocated = relocated
  refused_lists (Err e) relocated = lists_reserved laws agrees relocated

  -- of a present key
  module _ (place : ℕ) (has : HasKey eq keys key place) where
    behind : AppendsBehind keys keys_after values values_after place v → AppendsOne eq hash keys values key v keys_after rows values_after
    behind done = present_step laws agrees done.relocated key v place has done.pushed

    -- no key comes
    pub behind_keys : {X E : Type 0} (r : Result X E) → OnOk r (AppendsBehind keys keys_after values values_after place v)
        → OnErr r (AreRelocated keys keys_after values values_after) → items_of keys_after ≡ items_of keys
    behind_keys (Ok x) done relocated = ap items_of done.pushed.keys_are ∙ ap (λ m. m.keys) (lists_reserved laws agrees done.relocated)
    behind_keys (Err e) done relocated = ap (λ m. m.keys) (lists_reserved laws agrees relocated)

    pub behind_agrees : {X E : Type 0} (r : Result X E) → OnOk r (AppendsBehind keys keys_after values values_after place v)
        → OnErr r (AreRelocated keys keys_after values values_after) → Agrees eq hash keys_after rows values_after
    behind_agrees (Ok x) done relocated = (behind done).agrees
    behind_agrees (Err e) done relocated = agrees_reserved laws agrees relocated

  -- of an absent key
  module _ (rows_after : FinMap nat_cmp ℕ) (h : ℕ) (unlisted : is_listed eq (items_of keys) key ≡ false) (hash_is : h ≡ hash key) where
    pub first : AppendsFirst keys keys_after rows rows_after values values_after h key v
        → AppendsOne eq hash keys values key v keys_after rows_after values_after
    first done =
        absent_step laws agrees done.relocated done.rows_reserved done.same_rows
        key v done.place done.last h unlisted hash_is done.fits done.row done.value_pushed done.sound

    pub first_agrees : {X E : Type 0} (r : Result X E) → OnOk r (AppendsFirst keys keys_after rows rows_after values values_after h key v)
        → OnErr r (AreRelocated keys keys_after values values_after × (rows_after ≡ rows)) → Agrees eq hash keys_after rows_after values_after
    first_agrees (Ok x) done kept = (first done).agrees
    first_agrees (Err e) done kept = subst (λ m. Agrees eq hash keys_after m values_after) (sym kept.1) (agrees_reserved laws agrees kept.0)

    pub first_lists : {X E : Type 0} (r : Result X E) → OnOk r (AppendsFirst keys keys_after rows rows_after values values_after h key v)
        → OnOk r (lists_of keys_after values_after ≡ appended eq (lists_of keys values) key v)
    first_lists (Ok x) done = (first done).lists
    first_lists (Err e) done = done

-- under each key that is equal to the one at the place
pub behind_lists : {K V : Type 0} {eq : K → K → Bool}
    (laws : IsEquivalence eq) {hash : K → ℕ} {keys : Slots K KeyLink} {rows : FinMap nat_cmp ℕ} {values : Slots V ValueLink}
    → Agrees eq hash keys rows values → (keys_after : Slots K KeyLink) (values_after : Slots V ValueLink) (v : V) (place : ℕ) {X E : Type 0}
    (r : Result X E) → OnOk r (AppendsBehind keys keys_after values values_after place v)
    → OnOk r ((k : K) → HasKey eq keys k place → lists_of keys_after values_after ≡ appended eq (lists_of keys values) k v)
behind_lists laws agrees keys_after values_after v place (Ok x) done = λ k has.
    (present_step laws agrees done.relocated k v place has done.pushed).lists
behind_lists laws agrees keys_after values_after v place (Err e) done = done

-- the moves stay paid, however many pairs were taken out
pub stays_paid : {n : ℕ} {old new : TapeNumbers} → TakesOut n old new → ArePaid old → ArePaid new
stays_paid taken paid = omega (arith, taken.freed, taken.paid, paid)
