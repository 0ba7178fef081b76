-- What a map is where a pair was put last unless its key was present.
use Rattle.std.proofs.Common.{◌≡◌, ℕ, suc, ◌+◌, Bool, true, false, cond, List, [], ◌∷◌, filter, map, slice_get, Option, Some, None}
use Rattle.std.proofs.Common.{unwrap_or, refl, sym, ap, ◌∙◌, subst, inl, arith, true≢false}
use Rattle.std.specs.List.{enumerate_from}
use Rattle.std.specs.declared.cmp.PartialEq as equality
use Rattle.std.specs.declared.hash.Hash as hash
use Rattle.std.specs.declared.hash.Hasher as hasher
use Rattle.std.specs.declared.hash.BuildHasher as builder
use Rattle.ordered_multimap.specs.Lists.{Lists, lists}
use Rattle.ordered_multimap.specs.Multimap.{Multimap}
use Rattle.ordered_multimap.specs.Pairs.{has_items, is_present, positions_of, values_of, with_value_at}
use Rattle.ordered_multimap.specs.Changes.{appended, first_written}
use Rattle.ordered_multimap.specs.declared.list_ordered_multimap.entry.Entry.{Entry}
use Rattle.ordered_multimap.specs.declared.list_ordered_multimap.entry.Entry.TheVariants.{Occupied, Vacant}
use Rattle.ordered_multimap.specs.Entries.{IsEntered, IsEntryOf, entry_map, first_value, is_occupied}
use Rattle.multimap_tool.specs.declared.commands.Command.TheVariants.{OrInsert}
use Rattle.multimap_tool.specs.declared.replies.Reply.TheVariants.{Value}
use Rattle.multimap_tool.specs.Step.{IsOwnStep}

module _ {K V : Type 0} (eq : K → K → Bool) (k : K) where
  -- the first value of the key stands at its first position, so there is no change where it is written there again
  written_again : (at : ℕ) (pairs : List (K × V)) (w : V) (j : ℕ) → slice_get (values_of eq pairs k) 0 ≡ Some w
      → slice_get (map (λ e. e.0) (filter (λ e. eq k e.1.0) (enumerate_from at pairs))) 0 ≡ Some j
      → (i : ℕ) × (j ≡ at + i) × (with_value_at pairs i w ≡ pairs)
  written_again at [] w j first position = absurd (let bad = first in cc)
  written_again at (p ∷ pairs) w j first position =
      let rest : List (ℕ × (K × V)) = enumerate_from (at + 1) pairs in
      let P : Bool → Type 0 = λ b. slice_get (map (λ q. q.1) (cond b (p ∷ filter (λ q. eq k q.0) pairs) (filter (λ q. eq k q.0) pairs)))
      0 ≡ Some w
      → slice_get (map (λ e. e.0) (cond b ((at, p) ∷ filter (λ e. eq k e.1.0) rest) (filter (λ e. eq k e.1.0) rest))) 0 ≡ Some j
      → (i : ℕ) × (j ≡ at + i) × (with_value_at (p ∷ pairs) i w ≡ p ∷ pairs) in
      elim (eq k p.0) as P [
        | true ↦ λ own here.
            let value : p.1 ≡ w = cc in let place : at ≡ j = cc in
            (0, omega (arith, place), ap (λ v. (p.0, v) ∷ pairs) (sym value))
        | false ↦ λ own here.
            let later = written_again (at + 1) pairs w j own here in
            (suc later.0, omega (arith, later.1), ap (λ ps. p ∷ ps) later.2)
      ] first position

  -- so the lists stay
  first_written-first : (m : Lists K V) (w : V) → slice_get (values_of eq m.pairs k) 0 ≡ Some w → first_written eq m k w ≡ m
  first_written-first m w first =
      let write : Option ℕ → List (K × V) = λ o. elim o as (λ _. List (K × V)) [ None ↦ m.pairs | Some i ↦ with_value_at m.pairs i w ] in
      let all : (o : Option ℕ) → slice_get (positions_of eq m.pairs k) 0 ≡ o → write o ≡ m.pairs =
      elim [
        | None ↦ λ _. refl
        | Some j ↦ λ at.
            let again = written_again 0 m.pairs w j first at in
            let same : j ≡ again.0 = omega (arith, again.1) in
            ap (λ i. with_value_at m.pairs i w) same ∙ again.2
      ] in
      ap (lists m.keys) (all (slice_get (positions_of eq m.pairs k) 0) refl)

  -- a present key has a first value, and an absent key has none
  first_of_present : (values : List V) (v : V) → has_items values ≡ true → slice_get values 0 ≡ Some (unwrap_or (slice_get values 0) v)
  first_of_present [] v present = absurd (true≢false (sym present))
  first_of_present (w ∷ values) v present = refl

  first_of_absent : (values : List V) (v : V) → has_items values ≡ false → unwrap_or (slice_get values 0) v ≡ v
  first_of_absent [] v absent = refl
  first_of_absent (w ∷ values) v absent = absurd (true≢false absent)

  -- the step where the key is present, where it is absent, and of either kind of entry
  present_step : {A : Type 0} (m n : Lists K V) (v w : V) → true ≡ is_present eq m.pairs k
      → w ≡ unwrap_or (slice_get (values_of eq m.pairs k) 0) v
      → n ≡ first_written eq m k w → IsOwnStep eq {A = A} (OrInsert k v) m (Value (Some w)) n
  present_step m n v w present first left =
      let there = first_of_present (values_of eq m.pairs k) v (sym present) ∙ ap Some (sym first) in
      inl (ap Some first, left ∙ first_written-first m w there ∙ ap (λ b. cond b m (appended eq m k v)) present)

  absent_step : {A : Type 0} (m n : Lists K V) (v w : V) → false ≡ is_present eq m.pairs k
      → w ≡ unwrap_or (slice_get (values_of eq m.pairs k) 0) v
      → n ≡ appended eq m k w → IsOwnStep eq {A = A} (OrInsert k v) m (Value (Some w)) n
  absent_step m n v w absent first left =
      let own = first ∙ first_of_absent (values_of eq m.pairs k) v (sym absent) in
      inl (ap Some first, left ∙ ap (appended eq m k) own ∙ ap (λ b. cond b m (appended eq m k v)) absent)

module _ {R K V S A H : Type 0} {e : equality.Ghosts K} {j : hash.Ghosts K} {b : builder.Ghosts S H} {h : hasher.Ghosts H} where
  entered_step : (x : Entry K V S A H e j b h) (k : K) (v w : V) (n : Multimap K V S) → IsEntryOf x k
      → is_occupied x ≡ is_present e.eq (entry_map x).lists.pairs k
      → w ≡ unwrap_or (first_value x k) v → IsEntered x w n
      → IsOwnStep e.eq {A = R} (OrInsert k v) (entry_map x).lists (Value (Some w)) n.lists
  entered_step (Occupied o) k v w n own occupied first entered = present_step e.eq k o.map.now.lists n.lists v w occupied first
      (entered k own).lists
  entered_step (Vacant x) k v w n own occupied first entered = absent_step e.eq k x.map.now.lists n.lists v w occupied first
      (entered.lists ∙ ap (λ q. appended e.eq x.map.now.lists q w) own)

  -- the step of the map that the entry was made of
  pub or_insert_step : (x : Entry K V S A H e j b h) (m : Multimap K V S) (k : K) (v w : V) (n : Lists K V) (last : Multimap K V S)
      → entry_map x ≡ m → IsEntryOf x k
      → is_occupied x ≡ is_present e.eq m.lists.pairs k → w ≡ unwrap_or (first_value x k) v → IsEntered x w last → n ≡ last.lists
      → IsOwnStep e.eq {A = R} (OrInsert k v) m.lists (Value (Some w)) n
  or_insert_step x m k v w n last same own occupied first entered ended =
      let present = occupied ∙ ap (λ l. is_present e.eq l.lists.pairs k) (sym same) in
      let step = entered_step x k v w last own present first entered in
      subst (λ l. IsOwnStep e.eq {A = R} (OrInsert k v) m.lists (Value (Some w)) l) (sym ended)
      (subst (λ l. IsOwnStep e.eq {A = R} (OrInsert k v) l.lists (Value (Some w)) last.lists) same step)
