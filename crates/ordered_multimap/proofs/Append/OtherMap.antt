-- Pairs of another map that are put last one by one, from the front on: what is left of that map.
use Rattle.std.proofs.Common.{◌≡◌, ◌+◌, ◌≤◌, ℕ, Bool, true, false, List, [], ◌++◌, filter, length, Some, refl, sym, ap, ◌∙◌, subst, arith}
use Rattle.std.proofs.lemmas.List.{append-nil}
use Rattle.std.specs.FinMap.{FinMap}
use Rattle.std.specs.List.{filter_map}
use Rattle.std.specs.Ordering.{nat_cmp}
use Rattle.multimap_slots.specs.Lists.{IsIn}
use Rattle.multimap_slots.specs.Slots.{Slots, item_at, link_at}
use Rattle.multimap_slots.specs.Tapes.{Taped}
use Rattle.multimap_walks.specs.declared.links.KeyLink.{KeyLink}
use Rattle.multimap_walks.specs.declared.links.ValueLink.{ValueLink}
use Rattle.multimap_walks.specs.Chained.{is_value_of, pair_at, pairs_of}
use Rattle.ordered_multimap.specs.Agrees.{Agrees, HasKey}
use Rattle.ordered_multimap.specs.Private.AppendMap.{all_put, count_for_all}
use Rattle.ordered_multimap.specs.Lists.{lists}
use Rattle.ordered_multimap.specs.Multimap.{Multimap}
use Rattle.ordered_multimap.specs.Rooms.{SameRooms}
use Rattle.ordered_multimap.specs.TapeNumbers.{TakesOut}
use Rattle.ordered_multimap.proofs.Agreement.Agreed.{length-pairs}
use Rattle.ordered_multimap.proofs.Append.Merged.{length-all_put}
use Rattle.ordered_multimap.proofs.Callers.Members.{filter-all}

module _ {K V S : Type 0} (eq : K → K → Bool) (now : Multimap K V S) (keys : Slots K KeyLink) where
  -- the link names the place of the key in the map
  pub record IsHandedOn (values_now : Slots V ValueLink) (p : ℕ) (l : ValueLink) : Type 0 where
    pub place : ℕ
    pub link_is : link_at values_now p ≡ Some (record l { key = place })
    pub stands : (k : K) → item_at keys l.key ≡ Some k → HasKey eq now.slots.keys k place

  -- the link is as it was where the value before it wasn't taken, and else it names the place of
  -- the key in the map
  pub record HasLinkLeft (values_now : Slots V ValueLink) (taken : List ℕ) (p : ℕ) (l : ValueLink) : Type 0 where
    pub waits : ((q : ℕ) → l.previous ≡ Some q → IsIn q taken → ⊥) → link_at values_now p ≡ Some l
    pub handed_on : (q : ℕ) → l.previous ≡ Some q → IsIn q taken → IsHandedOn values_now p l

-- the pairs at these places were put last, and the others are still there
pub record IsMoving {K V S : Type 0} (eq : K → K → Bool) (replaces : Bool) (old now : Multimap K V S) (keys keys_now : Slots K KeyLink)
    (values values_now : Taped V ValueLink) : Type 0 where
  pub taken : List ℕ
  pub order : values.list.order ≡ taken ++ values_now.list.order
  pub lists : now.lists ≡ all_put eq replaces old.lists (filter_map (pair_at keys values.list) taken)
  pub rooms : SameRooms old now
  pub gone : ℕ
  pub counted : length now.lists.pairs + gone ≡ length old.lists.pairs + length taken
  pub tape : TakesOut gone old.tape now.tape
  pub key_room : length now.lists.keys + length keys_now.order ≤ now.key_room
  pub value_room : length now.lists.pairs + length values_now.list.order ≤ now.value_room
  pub items : (p : ℕ) → IsIn p values_now.list.order → item_at values_now.list p ≡ item_at values.list p
  pub links : (p : ℕ) (l : ValueLink) → IsIn p values_now.list.order → link_at values.list p ≡ Some l
      → HasLinkLeft eq now keys values_now.list taken p l
  pub keys_left : (q : ℕ) → IsIn q keys.order → filter (is_value_of values.list q) taken ≡ []
      → IsIn q keys_now.order × (item_at keys_now q ≡ item_at keys q)
  pub keys_capacity : keys_now.capacity ≡ keys.capacity
  pub capacity : values_now.list.capacity ≡ values.list.capacity
  pub moved : values_now.moved ≡ values.moved
  pub freed : values_now.freed + length values_now.list.order ≡ values.freed + length values.list.order

module _ {K V S : Type 0} {eq : K → K → Bool} {old : Multimap K V S} {keys : Slots K KeyLink} {values : Taped V ValueLink} where
  pub moving-start : (replaces : Bool) → length old.lists.keys + length keys.order ≤ old.key_room
      → length old.lists.pairs + length values.list.order ≤ old.value_room
      → IsMoving eq replaces old old keys keys values values
  moving-start replaces key_room value_room = record {
    taken = [];
    order = refl;
    lists = none_put replaces;
    rooms = record { keys = refl; values = refl; slots = refl; hasher = refl };
    gone = 0;
    counted = omega arith;
    tape = record { freed = omega arith; paid = omega arith };
    key_room = key_room;
    value_room = value_room;
    items = λ p i. refl;
    links = λ p l i is. record { waits = λ none. is; handed_on = λ q e i. absurd i };
    keys_left = λ q i none. (i, refl);
    keys_capacity = refl;
    capacity = refl;
    moved = refl;
    freed = refl;
  }
    where
      none_put : (replaces : Bool) → old.lists ≡ all_put eq replaces old.lists []
      none_put true = ap (lists old.lists.keys) (sym (filter-all (λ p. true) old.lists.pairs (λ p i. refl)))
      none_put false = refl

-- once no pair is left, all were put
pub moved_all : {K V S : Type 0} {eq : K → K → Bool} {replaces : Bool} {hash : K → ℕ} {old now : Multimap K V S}
    {keys keys_now : Slots K KeyLink} {rows : FinMap nat_cmp ℕ} {values values_now : Taped V ValueLink}
    → Agrees eq hash keys rows values.list → IsMoving eq replaces old now keys keys_now values values_now
    → values_now.list.order ≡ []
    → TakesOut (count_for_all eq replaces old.lists (pairs_of keys values.list)) old.tape now.tape
moved_all {eq = eq} {replaces = replaces} {old = old} {now = now} {keys = keys} {values = values} agrees w none =
    let all : values.list.order ≡ w.taken = w.order ∙ ap (λ ps. w.taken ++ ps) none ∙ append-nil w.taken in
    let lists : now.lists ≡ all_put eq replaces old.lists (pairs_of keys values.list) = w.lists
    ∙ ap (λ ps. all_put eq replaces old.lists (filter_map (pair_at keys values.list) ps)) (sym all) in
    let gone : w.gone ≡ count_for_all eq replaces old.lists (pairs_of keys values.list) = omega (
      arith,
      w.counted,
      ap (λ m. length m.pairs) lists,
      length-all_put eq replaces old.lists (pairs_of keys values.list),
      length-pairs agrees,
      ap length all,
    ) in
    subst (λ n. TakesOut n old.tape now.tape) gone w.tape
