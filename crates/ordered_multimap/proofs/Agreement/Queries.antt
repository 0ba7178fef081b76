-- What a query finds, what it stands for, and what a call then gives.
use Rattle.std.proofs.Common.{◌≡◌, ℕ, ◌||◌, Bool, true, false, List, [], ◌∷◌, Option, Some, None, is_some, IfSome, IfNone, refl, sym, ap}
use Rattle.std.proofs.Common.{◌∙◌, subst, inl, inr, option_map, unwrap_or, true≢false}
use mathlib.Core.Path.{fun_ext}
use Rattle.std.specs.Cmp.{IsEquivalence}
use Rattle.std.specs.FinMap.{FinMap}
use Rattle.std.specs.List.{filter_map, cons_option, list_any}
use Rattle.std.specs.Ordering.{nat_cmp}
use Rattle.multimap_slots.specs.Lists.{IsIn}
use Rattle.multimap_slots.specs.Slots.{Slots, item_at, link_at}
use Rattle.multimap_walks.specs.declared.links.KeyLink.{KeyLink}
use Rattle.multimap_walks.specs.declared.links.ValueLink.{ValueLink}
use Rattle.multimap_walks.specs.Chained.{pairs_of}
use Rattle.std.specs.Prelude.{find}
use Rattle.ordered_multimap.specs.Agrees.{Agrees, HasKey, HasKeyWhere, IsFoundBy, LacksWhere, StandsAt, items_of, lists_of}
use Rattle.ordered_multimap.specs.Changes.{removed}
use Rattle.ordered_multimap.specs.Keys.{stored_key, stored_where}
use Rattle.ordered_multimap.specs.Multimap.{Multimap}
use Rattle.ordered_multimap.specs.Pairs.{has_items, is_present_where, values_where}
use Rattle.ordered_multimap.specs.Removals.{IsRemovedWhere, LosesValues}
use Rattle.ordered_multimap.specs.Rooms.{SameRooms}
use Rattle.ordered_multimap.proofs.Callers.ListedKeys.{any_member, find_stored, is_present-any}
use Rattle.ordered_multimap.proofs.Callers.Places.{held, IsIn-filter_map}
use Rattle.ordered_multimap.proofs.Callers.WellFormed.{same_any}
use Rattle.ordered_multimap.proofs.Agreement.Agreed.{well_formed}
use Rattle.ordered_multimap.proofs.Agreement.LookUps.{AreKeyed, keyed}

-- keys that a test accepts are found by their hash
found_by : {K : Type 0} {eq : K → K → Bool} {hash : K → ℕ} {keys : Slots K KeyLink} {rows : FinMap nat_cmp ℕ}
    → AreKeyed eq hash keys rows
    → (accepts : K → Bool) (h : ℕ) → ((y : K) → accepts y ≡ true → h ≡ hash y) → IsFoundBy accepts keys rows h
found_by {keys = keys} keyed accepts h alike = record {
  places = keyed.listed;
  hashed = λ place j listed item accepted.
      let l = held (link_at keys place) (keyed.sound.linked place listed) in
      keyed.in_table place l.value listed l.is ∙ ap Some (keyed.hashed place j l.value listed item l.is ∙ sym (alike j accepted));
}

-- the keys that a query stands for are found by the hash of what is hashed of it
pub found_hashed : {K V X : Type 0} {eq : K → K → Bool} (laws : IsEquivalence eq) (hash : X → ℕ) {input : K → X} {keys : Slots K KeyLink}
    {rows : FinMap nat_cmp ℕ} {values : Slots V ValueLink} → Agrees eq (λ k. hash (input k)) keys rows values → (accepts : K → Bool)
    {h : ℕ} {x : X} → h ≡ hash x → ((y : K) → accepts y ≡ true → x ≡ input y) → IsFoundBy accepts keys rows h
found_hashed laws hash {keys = keys} {rows = rows} agrees accepts {x = x} is alike =
    subst (IsFoundBy accepts keys rows) (sym is)
    (found_by (keyed laws agrees) accepts (hash x) (λ y accepted. ap hash (alike y accepted)))

-- where the test accepts no listed key, none is in the list
pub none_accepted : {K : Type 0} (accepts : K → Bool) (keys : Slots K KeyLink) (places : List ℕ)
    → ((place : ℕ) (j : K) → IsIn place places → item_at keys place ≡ Some j → accepts j ≡ false)
    → list_any accepts (filter_map (item_at keys) places) ≡ false
none_accepted accepts keys [] apart = refl
none_accepted {K} accepts keys (p ∷ places) apart =
    let later = none_accepted accepts keys places (λ q j i. apart q j (inr i)) in
    let rest : List K = filter_map (item_at keys) places in
    let P : Option K → Type 0 = λ o. item_at keys p ≡ o → list_any accepts (cons_option o rest) ≡ false in
    elim (item_at keys p) as P [
      | None ↦ λ _. later
      | Some j ↦ λ e. ap (λ b. b || list_any accepts rest) (apart p j (inl refl) e) ∙ later
    ] refl

-- a query that is found at a key stands for the keys that are equal to that one
module _ {K : Type 0} {eq : K → K → Bool} (laws : IsEquivalence eq) (accepts : K → Bool)
    (respects : (x y : K) → accepts x ≡ true → accepts y ≡ eq x y) (keys : Slots K KeyLink) where
  pub stands_at : (o : Option ℕ) → IfSome o (HasKeyWhere accepts keys) → IfSome o (StandsAt eq accepts keys)
  stands_at None none = none
  stands_at (Some place) has = record {
    stored = has.stored;
    own = record { listed = has.listed; stored = has.stored; item_is = has.item_is; equal = laws.refl has.stored };
    same = fun_ext (λ y. respects has.stored y has.equal);
  }

module _ {K V : Type 0} {eq : K → K → Bool} {hash : K → ℕ} {keys : Slots K KeyLink} {rows : FinMap nat_cmp ℕ} {values : Slots V ValueLink}
    (agrees : Agrees eq hash keys rows values) where
  pub present_where : (accepts : K → Bool) → is_present_where accepts (pairs_of keys values) ≡ list_any accepts (items_of keys)
  present_where accepts = is_present-any accepts (pairs_of keys values) ∙ same_any accepts (lists_of keys values) (well_formed agrees)

  -- whether a key that a test accepts is listed
  pub listed_as_found : (accepts : K → Bool) (o : Option ℕ) → IfSome o (HasKeyWhere accepts keys)
      → IfNone o (list_any accepts (items_of keys) ≡ false) → is_some o ≡ list_any accepts (items_of keys)
  listed_as_found accepts None found unlisted = sym unlisted
  listed_as_found accepts (Some place) has unlisted = sym (any_member accepts has.stored (items_of keys)
      (IsIn-filter_map (item_at keys) place has.stored keys.order has.listed has.item_is) has.equal)

  -- where a test accepts no key
  pub lacks_where : (accepts : K → Bool) (o : Option ℕ) → IfNone o (list_any accepts (items_of keys) ≡ false)
      → IfNone o (LacksWhere accepts eq (lists_of keys values))
  lacks_where accepts None none = record {
    well_formed = well_formed agrees;
    unlisted = none;
    no_value = empty (values_where accepts (pairs_of keys values)) (present_where accepts ∙ none);
  }
    where
      empty : (xs : List V) → has_items xs ≡ false → xs ≡ []
      empty [] e = refl
      empty (x ∷ xs) e = absurd (true≢false e)
  lacks_where accepts (Some place) none = none

-- what is so of any key is so of the one that a query is
pub of_key : {K : Type 0} (P : K → Type 0) (o : Option K) → ((k : K) → P k) → IfSome o P
of_key P None each = tt
of_key P (Some k) each = each k

-- a pair of a key and of a value that is there
module _ {K V : Type 0} (o : Option V) (s : K) (r : K × V) (made : Some r ≡ option_map (λ v. (s, v)) o) where
  pub key_of_pair : r.0 ≡ s
  key_of_pair =
      elim o as (λ o. Some r ≡ option_map (λ v. (s, v)) o → r.0 ≡ s) [
        | None ↦ λ e. absurd (true≢false (ap is_some e))
        | Some v ↦ λ e. let same : r ≡ (s, v) = cc in ap (λ x. x.0) same
      ] made

  pub value_of_pair : Some r.1 ≡ o
  value_of_pair =
      ap (option_map (λ (x : K × V). x.1)) made
      ∙ elim o as (λ o. option_map (λ (x : K × V). x.1) (option_map (λ v. (s, v)) o) ≡ o) [ None ↦ refl | Some v ↦ refl ]

module _ {K : Type 0} (eq : K → K → Bool) (accepts : K → Bool) (s : K) (same : accepts ≡ eq s) where
  -- its stored key is the one that the query finds, whatever key stands for an absent one
  pub stored_is : (keys : List K) (k : K) → list_any accepts keys ≡ true → stored_where (eq s) keys s ≡ stored_where accepts keys k
  stored_is keys k listed =
      ap (λ (t : K → Bool). stored_where t keys s) (sym same)
      ∙ sym (ap (λ o. unwrap_or o k) (find_stored accepts s keys listed))

  -- so that is the first one which the query accepts
  pub found_stored : (keys : List K) → list_any accepts keys ≡ true → {key : K} → key ≡ stored_where (eq s) keys s
      → Some key ≡ find accepts keys
  found_stored keys listed is = ap Some (is ∙ stored_is keys s listed) ∙ sym (find_stored accepts s keys listed)

  -- and its removal is that of the query
  pub removes_where : {V S : Type 0} {old new : Multimap K V S} → LosesValues eq old new s (removed eq old.lists s) → SameRooms old new
      → IsRemovedWhere accepts eq old new
  removes_where {old = old} {new = new} lost rooms =
      subst (λ (t : K → Bool). IsRemovedWhere t eq old new) (sym same) (record { loses = lost; rooms = rooms })

-- the stored key of a place that a query found is the first one that the query accepts
pub found_at : {K : Type 0} {eq : K → K → Bool} {accepts : K → Bool} {keys : Slots K KeyLink} {place : ℕ} {key : K}
    → StandsAt eq accepts keys place → (stored : List K) → true ≡ list_any accepts stored
    → ((k : K) → HasKey eq keys k place → key ≡ stored_key eq stored k) → Some key ≡ find accepts stored
found_at {eq = eq} {accepts = accepts} stands stored listed is =
    found_stored eq accepts stands.stored stands.same stored (sym listed) (is stands.stored stands.own)
