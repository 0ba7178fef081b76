-- Clones of all keys and values, whose links name the new places, agree as the originals do, and their lists are clones.
use Rattle.std.proofs.Common.{◌≡◌, ℕ, ◌==◌, Bool, true, false, List, [], ◌∷◌, map, length, filter, Option, None, Some, option_map, refl}
use Rattle.std.proofs.Common.{sym, ap, ◌∙◌, subst, inl, inr}
use Rattle.std.proofs.lemmas.Bool.{cases_eq, eq-eqb, ne_eqb}
use Rattle.std.proofs.lemmas.List.{length-map}
use Rattle.std.specs.Cmp.{IsEquivalence}
use Rattle.std.specs.List.{AllByRecursion, AllZip, IsDistinct, cons_option, filter_map}
use Rattle.std.specs.Ordering.{nat_cmp}
use Rattle.std.specs.FinMap.{FinMap}
use Rattle.multimap_slots.specs.Lists.{IsIn, first_of, last_of, next_of, previous_of}
use Rattle.multimap_slots.specs.Slots.{Slots, item_at, link_at}
use Rattle.multimap_slots.proofs.Callers.PlaceLists.{IsIn-kept}
use Rattle.multimap_walks.specs.declared.links.KeyLink.{KeyLink}
use Rattle.multimap_walks.specs.declared.links.ValueLink.{ValueLink}
use Rattle.multimap_walks.specs.Chained.{IsChained, chain_of, is_value_of, pair_at, pairs_of}
use Rattle.ordered_multimap.specs.Agrees.{Agrees, items_of, lists_of}
use Rattle.ordered_multimap.specs.Clones.{AreClones, IsKeyClone, IsPairClone}
use Rattle.ordered_multimap.specs.Private.Copies.{AreCopied, IsKeyCopy, IsValueCopy}
use Rattle.ordered_multimap.specs.Private.KeyRelocations.{with_new_key}
use Rattle.ordered_multimap.specs.Private.Relocations.{relocated_key, relocated_value}
use Rattle.ordered_multimap.proofs.Agreement.Agreed.{is_value_of-is, pair_at-is}
use Rattle.ordered_multimap.proofs.Agreement.NewPlaces.{CameFrom, came_from}
use Rattle.ordered_multimap.proofs.Agreement.Relocated.{IsIn-name, IsTold, filter-map, first_of-map, last_or-map, next_of-map}
use Rattle.ordered_multimap.proofs.Agreement.Relocated.{previous_of-map}
use Rattle.ordered_multimap.proofs.Callers.Places.{IsIn-filter_map}

-- what both options hold is related
record AreRelated {X Y : Type 0} (R : X → Y → Type 0) (o : Option X) (p : Option Y) : Type 0 where
  first : X
  second : Y
  first_is : o ≡ Some first
  second_is : p ≡ Some second
  related : R first second

-- lists of what stands at places, and at their new places
all_related : {X Y : Type 0} (R : X → Y → Type 0) (f : ℕ → Option X) (g : ℕ → Option Y) (name : ℕ → ℕ) (ps : List ℕ)
    → ((q : ℕ) → IsIn q ps → AreRelated R (f q) (g (name q))) → AllZip R (filter_map f ps) (filter_map g (map name ps))
all_related R f g name [] each = tt
all_related R f g name (p ∷ ps) each =
    let r = each p (inl refl) in
    subst (λ o. AllZip R (cons_option o (filter_map f ps)) (cons_option (g (name p)) (filter_map g (map name ps)))) (sym r.first_is)
    (subst (λ o. AllZip R (r.first ∷ filter_map f ps) (cons_option o (filter_map g (map name ps)))) (sym r.second_is)
    (r.related, all_related R f g name ps (λ q i. each q (inr i))))

-- clones of distinct keys are distinct
module _ {K : Type 0} {eq : K → K → Bool} (laws : IsEquivalence eq) (key_clone : K → K → Type 0) where
  clones_apart : (k c : K) (keys copies : List K) → eq k c ≡ true → AllZip (IsKeyClone eq key_clone) keys copies
      → AllByRecursion (λ j. eq k j ≡ false) keys → AllByRecursion (λ j. eq c j ≡ false) copies
  clones_apart k c [] [] same clones apart = apart
  clones_apart k c [] (d ∷ copies) same clones apart = absurd clones
  clones_apart k c (j ∷ keys) [] same clones apart = absurd clones
  clones_apart k c (j ∷ keys) (d ∷ copies) same clones apart = (
    sym (laws.congr k c d same) ∙ laws.symm k d ∙ sym (laws.congr j d k clones.0.1) ∙ laws.symm j k ∙ apart.0,
    clones_apart k c keys copies same clones.1 apart.1,
  )

  clones_distinct : (keys copies : List K) → AllZip (IsKeyClone eq key_clone) keys copies → IsDistinct eq keys → IsDistinct eq copies
  unfolding IsDistinct
  clones_distinct [] [] clones distinct = distinct
  clones_distinct [] (c ∷ copies) clones distinct = absurd clones
  clones_distinct (k ∷ keys) [] clones distinct = absurd clones
  clones_distinct (k ∷ keys) (c ∷ copies) clones distinct = (
    clones_apart k c keys copies clones.0.1 clones.1 distinct.0,
    clones_distinct keys copies clones.1 distinct.1,
  )

module _ {K V : Type 0} {key_clone : K → K → Type 0} {value_clone : V → V → Type 0} {eq : K → K → Bool} {hash hash_after : K → ℕ}
    {keys copies : Slots K KeyLink} {rows rows_after : FinMap nat_cmp ℕ} {values value_copies : Slots V ValueLink}
    (agrees : Agrees eq hash keys rows values)
    (c : AreCopied key_clone value_clone hash_after keys copies rows_after values value_copies) where
  -- the key, or the value, of which there is a clone at the place
  abbrev OfKey : ℕ → Type 0
  OfKey = CameFrom (IsKeyCopy key_clone hash_after c.rank keys) c.name keys.order copies

  abbrev OfValue : ℕ → Type 0
  OfValue = CameFrom (IsValueCopy value_clone c.name c.rank values) c.rank values.order value_copies

  key_link_is : (place : ℕ) (l : KeyLink) (w : OfKey place) → link_at copies place ≡ Some l
      → l ≡ record (relocated_key c.rank w.stands.original_link) { hash = hash_after w.stands.copy }
  key_link_is place l w is =
      let both : Some l ≡ Some (record (relocated_key c.rank w.stands.original_link) { hash = hash_after w.stands.copy })
      = sym is ∙ w.stands.link_is in cc

  value_link_is : (place : ℕ) (l : ValueLink) (w : OfValue place) → link_at value_copies place ≡ Some l
      → l ≡ with_new_key c.name (relocated_value c.rank w.stands.original_link)
  value_link_is place l w is =
      let both : Some l ≡ Some (with_new_key c.name (relocated_value c.rank w.stands.original_link)) = sym is ∙ w.stands.link_is in cc

  same_name : (p q : ℕ) → IsIn p keys.order → IsIn q keys.order → (c.name p == c.name q) ≡ (p == q)
  same_name p q i j = elim (cases_eq p q) [
    | inl same ↦ eq-eqb (c.name p) (c.name q) (ap c.name same) ∙ sym (eq-eqb p q same)
    | inr differs ↦ ne_eqb (c.name p) (c.name q) (λ e. differs (c.keys_copied.apart p q i j e)) ∙ sym (ne_eqb p q differs)
  ]

  -- each chain goes along, under the key's new place
  same_owner : (key : ℕ) → IsIn key keys.order → (q : ℕ) → IsIn q values.order
      → is_value_of value_copies (c.name key) (c.rank q) ≡ is_value_of values key q
  same_owner key there q listed =
      let s = c.values_copied.slots q listed in
      is_value_of-is copies value_copies (c.name key) (c.rank q) (with_new_key c.name (relocated_value c.rank s.original_link)) s.link_is
      ∙ same_name s.original_link.key key (agrees.chained.owned q s.original_link listed s.link_was) there
      ∙ sym (is_value_of-is keys values key q s.original_link s.link_was)

  chain : (key : ℕ) → IsIn key keys.order → chain_of value_copies (c.name key) ≡ map c.rank (chain_of values key)
  chain key there =
      ap (filter (is_value_of value_copies (c.name key))) c.values_copied.order
      ∙ filter-map c.rank (is_value_of value_copies (c.name key)) (is_value_of values key) values.order (same_owner key there)

  chain_at : (place : ℕ) (w : OfKey place) → chain_of value_copies place ≡ map c.rank (chain_of values w.old)
  chain_at place w = ap (chain_of value_copies) w.place_is ∙ chain w.old w.old_listed

  owner : (place : ℕ) (w : OfValue place) → IsIn w.stands.original_link.key keys.order
  owner place w = agrees.chained.owned w.old w.stands.original_link w.old_listed w.stands.link_was

  chain_by : (place : ℕ) (l : ValueLink) (w : OfValue place) → link_at value_copies place ≡ Some l
      → chain_of value_copies l.key ≡ map c.rank (chain_of values w.stands.original_link.key)
  chain_by place l w is = ap (λ (x : ValueLink). chain_of value_copies x.key) (value_link_is place l w is)
      ∙ chain w.stands.original_link.key (owner place w)

  told : (key q : ℕ) → IsIn q values.order → IsTold c.rank (chain_of values key) q
  told key q listed p i = c.values_copied.apart p q (IsIn-kept (is_value_of values key) p values.order i).0 listed

  -- what stands at either end of a key's values, and beside a value, goes along
  at_end : (of : List ℕ → Option ℕ) (end : KeyLink → ℕ) → ((ps : List ℕ) → of (map c.rank ps) ≡ option_map c.rank (of ps))
      → ((l : KeyLink) (hash : ℕ) → end (record (relocated_key c.rank l) { hash = hash }) ≡ c.rank (end l))
      → ((key : ℕ) (l : KeyLink) → IsIn key keys.order → link_at keys key ≡ Some l → of (chain_of values key) ≡ Some (end l))
      → (key : ℕ) (l : KeyLink) → IsIn key copies.order → link_at copies key ≡ Some l → of (chain_of value_copies key) ≡ Some (end l)
  at_end of end of-map end_is was key l listed is =
      let w = came_from c.keys_copied key listed in
      ap of (chain_at key w) ∙ of-map (chain_of values w.old)
      ∙ ap (option_map c.rank) (was w.old w.stands.original_link w.old_listed w.stands.link_was)
      ∙ ap Some (sym (end_is w.stands.original_link (hash_after w.stands.copy)))
      ∙ ap (λ (x : KeyLink). Some (end x)) (sym (key_link_is key l w is))

  beside : (of : List ℕ → ℕ → Option ℕ) (side : ValueLink → Option ℕ)
      → ((ps : List ℕ) (q : ℕ) → IsTold c.rank ps q → of (map c.rank ps) (c.rank q) ≡ option_map c.rank (of ps q))
      → ((l : ValueLink) → side (with_new_key c.name (relocated_value c.rank l)) ≡ option_map c.rank (side l))
      → ((q : ℕ) (l : ValueLink) → IsIn q values.order → link_at values q ≡ Some l → of (chain_of values l.key) q ≡ side l)
      → (place : ℕ) (l : ValueLink) → IsIn place value_copies.order → link_at value_copies place ≡ Some l
      → of (chain_of value_copies l.key) place ≡ side l
  beside of side of-map side_is was place l listed is =
      let w = came_from c.values_copied place listed in
      let s = w.stands.original_link in
      (λ i. of (chain_by place l w is i) (w.place_is i))
      ∙ of-map (chain_of values s.key) w.old (told s.key w.old w.old_listed)
      ∙ ap (option_map c.rank) (was w.old s w.old_listed w.stands.link_was)
      ∙ sym (side_is s) ∙ ap side (sym (value_link_is place l w is))

  chained : IsChained copies value_copies
  chained = record {
    owned = λ place l listed is.
        let w = came_from c.values_copied place listed in
        subst (λ q. IsIn q copies.order) (sym (ap (λ (x : ValueLink). x.key) (value_link_is place l w is)))
        (subst (IsIn (c.name w.stands.original_link.key)) (sym c.keys_copied.order)
        (IsIn-name c.name w.stands.original_link.key keys.order (owner place w)));
    head = at_end first_of (λ l. l.head) (first_of-map c.rank) (λ l hash. refl) agrees.chained.head;
    tail = at_end last_of (λ l. l.tail) (last_or-map c.rank None) (λ l hash. refl) agrees.chained.tail;
    length = λ key l listed is.
        let w = came_from c.keys_copied key listed in
        ap length (chain_at key w) ∙ length-map (chain_of values w.old) c.rank
        ∙ agrees.chained.length w.old w.stands.original_link w.old_listed w.stands.link_was
        ∙ ap (λ (x : KeyLink). x.length) (sym (key_link_is key l w is));
    previous = beside previous_of (λ l. l.previous) (previous_of-map c.rank) (λ l. refl) agrees.chained.previous;
    next = beside next_of (λ l. l.next) (next_of-map c.rank) (λ l. refl) agrees.chained.next;
  }

  module _ (laws : IsEquivalence eq) (equal : (k d : K) → IsIn k (items_of keys) → key_clone k d → eq k d ≡ true) where
    key_clone_at : (q : ℕ) → IsIn q keys.order → (s : IsKeyCopy key_clone hash_after c.rank keys q (item_at copies (c.name q))
        (link_at copies (c.name q)))
        → IsKeyClone eq key_clone s.original s.copy
    key_clone_at q listed s = (s.cloned, equal s.original s.copy (IsIn-filter_map (item_at keys) q s.original keys.order listed s.was) s.cloned)

    key_clones : AllZip (IsKeyClone eq key_clone) (items_of keys) (items_of copies)
    key_clones = subst (λ ps. AllZip (IsKeyClone eq key_clone) (items_of keys) (filter_map (item_at copies) ps)) (sym c.keys_copied.order)
        (all_related (IsKeyClone eq key_clone) (item_at keys) (item_at copies) c.name keys.order (λ q listed.
        let s = c.keys_copied.slots q listed in
        record { first = s.original; second = s.copy; first_is = s.was; second_is = s.item_is; related = key_clone_at q listed s }))

    pair_clones : AllZip (IsPairClone eq key_clone value_clone) (pairs_of keys values) (pairs_of copies value_copies)
    pair_clones = subst
        (λ ps. AllZip (IsPairClone eq key_clone value_clone) (pairs_of keys values) (filter_map (pair_at copies value_copies) ps))
        (sym c.values_copied.order)
        (all_related (IsPairClone eq key_clone value_clone) (pair_at keys values) (pair_at copies value_copies) c.rank values.order
        (λ q listed.
        let s = c.values_copied.slots q listed in
        let there = agrees.chained.owned q s.original_link listed s.link_was in
        let k = c.keys_copied.slots s.original_link.key there in
        record {
          first = (k.original, s.original);
          second = (k.copy, s.copy);
          first_is = pair_at-is keys values q s.original_link k.original s.original s.link_was k.was s.was;
          second_is = pair_at-is copies value_copies (c.rank q) (with_new_key c.name (relocated_value c.rank s.original_link)) k.copy s.copy
              s.link_is k.item_is s.item_is;
          related = (key_clone_at s.original_link.key there k, s.cloned);
        }))

    pub lists_cloned : AreClones eq key_clone value_clone (lists_of keys values) (lists_of copies value_copies)
    lists_cloned = record { keys = key_clones; pairs = pair_clones }

    pub agrees-copied : Agrees eq hash_after copies rows_after value_copies
    agrees-copied = record {
      keys_sound = c.keys_sound;
      values_sound = c.values_sound;
      chained = chained;
      distinct = clones_distinct laws key_clone (items_of keys) (items_of copies) key_clones agrees.distinct;
      hashed = λ place k l listed item is.
          let w = came_from c.keys_copied place listed in
          let both : Some w.stands.copy ≡ Some k = sym w.stands.item_is ∙ item in
          let same : w.stands.copy ≡ k = cc in
          ap (λ (x : KeyLink). x.hash) (key_link_is place l w is) ∙ ap hash_after same;
      in_table = c.rows_are.in_table;
      listed = c.rows_are.listed;
      counted = c.rows_are.counted;
    }
