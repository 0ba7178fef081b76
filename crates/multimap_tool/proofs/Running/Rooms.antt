-- The room that a run leaves: a step adds one key and one pair at most.
use Rattle.std.proofs.Common.{◌≡◌, ◌≢◌, ℕ, zero, suc, ◌+◌, ◌≤◌, ◌-◌, not, Bool, true, false, cond, List, [], ◌∷◌, ◌++◌, length, filter}
use Rattle.std.proofs.Common.{Option, None, Some, slice_get, refl, ap, inl, inr, arith, length-append, length-take}
use Rattle.std.specs.Map.{keys_of}
use Rattle.ordered_multimap.specs.End.{End}
use Rattle.ordered_multimap.specs.End.TheVariants as ends
use Rattle.ordered_multimap.specs.Walk.{end_rest}
use Rattle.ordered_multimap.specs.Lists.{Lists, empty_lists}
use Rattle.ordered_multimap.specs.Keys.{is_listed, keys_with, stored_key}
use Rattle.ordered_multimap.specs.Pairs.{has_items, is_present, pairs_without, positions_of, with_value_at, end_position}
use Rattle.ordered_multimap.specs.Changes.{appended, inserted, kept, removed, first_written, end_written}
use Rattle.ordered_multimap.specs.Popped.{popped}
use Rattle.ordered_multimap.specs.RemovedAt.{removed_at}
use Rattle.ordered_multimap.specs.Retain.{Retains}
use Rattle.ordered_multimap.proofs.Callers.RemovedAt.{pairs_besides-few}
use Rattle.ordered_multimap.specs.Multimap.{Multimap}
use Rattle.ordered_multimap.specs.Rooms.{HasKeyRoom, HasValueRoom}
use Rattle.multimap_tool.specs.MapRuns.{FindsItsRoom}
use Rattle.multimap_tool.specs.declared.commands.Command.{Command}
use Rattle.multimap_tool.specs.declared.commands.Command.TheVariants.{Append, Insert, InsertAll, SetFirst, SetFront, SetBack, OrInsert}
use Rattle.multimap_tool.specs.declared.commands.Command.TheVariants.{Remove, RemoveAll, RemoveEntry}
use Rattle.multimap_tool.specs.declared.commands.Command.TheVariants.{RemoveEntryAll, RemoveAt, PopFront, PopBack, Retain, Clear}
use Rattle.multimap_tool.specs.declared.commands.Command.TheVariants.{PackToFit, Swap, Json, Json2}
use Rattle.multimap_tool.specs.declared.replies.Reply.{Reply}
use Rattle.multimap_tool.specs.Step.{Leaves, IsStep, KeepsPairs, entered}
use Rattle.multimap_tool.specs.RunRooms.{FindsRoom, IsAddition, KeepsRoom}
use Rattle.multimap_tool.specs.declared.replies.Reply.TheVariants.{NoMemory}

-- at most one key and one pair more
pub record GrowsByOne {K V : Type 0} (m n : Lists K V) : Type 0 where
  pub keys : length n.keys ≤ length m.keys + 1
  pub pairs : length n.pairs ≤ length m.pairs + 1

filter_few : {X : Type 0} (p : X → Bool) (xs : List X) → length (filter p xs) ≤ length xs
filter_few p [] = omega arith
filter_few p (x ∷ xs) = elim (p x) as (λ b. length (cond b (x ∷ filter p xs) (filter p xs)) ≤ suc (length xs)) [
  | true ↦ omega (arith, filter_few p xs)
  | false ↦ omega (arith, filter_few p xs)
]

rest_few : {X : Type 0} (end : End) (xs : List X) → length (end_rest end xs) ≤ length xs
rest_few ends.Front [] = omega arith
rest_few ends.Front (x ∷ xs) = omega arith
rest_few ends.Back xs = omega (arith, length-take (length xs - 1) xs)

as_many : {K V : Type 0} (pairs : List (K × V)) (i : ℕ) (v : V) → length (with_value_at pairs i v) ≡ length pairs
as_many [] i v = refl
as_many (p ∷ pairs) zero v = refl
as_many (p ∷ pairs) (suc i) v = ap suc (as_many pairs i v)

retained_few : {K V : Type 0} (keeps : K → V → Bool → V → Type 0) (old new : List (K × V))
    → Retains (λ s k v b w t. keeps k v b w) (tt {0}) old new (tt {0}) → length new ≤ length old
retained_few keeps [] new r = omega (arith, ap length r.0)
retained_few keeps (p ∷ old) new (b, w, next, rest, called, later, is) =
    elim b as (λ x. new ≡ cond x ((p.0, w) ∷ rest) rest → length new ≤ suc (length old)) [
      | true ↦ λ more. omega (arith, ap length more, retained_few keeps old rest later)
      | false ↦ λ same. omega (arith, ap length same, retained_few keeps old rest later)
    ] is

one_key : {K : Type 0} (eq : K → K → Bool) (keys : List K) (k : K) → length (keys_with eq keys k) ≤ length keys + 1
one_key eq keys k = elim (is_listed eq keys k) as (λ b. length (cond b keys (keys ++ k ∷ [])) ≤ length keys + 1) [
  | true ↦ omega arith
  | false ↦ omega (arith, length-append keys (k ∷ []))
]

module _ {K V : Type 0} (eq : K → K → Bool) where
  same_grows : (m n : Lists K V) → n ≡ m → GrowsByOne m n
  same_grows m n same = record {
    keys = omega (arith, ap (λ (l : Lists K V). length l.keys) same);
    pairs = omega
        (arith, ap (λ (l : Lists K V). length l.pairs) same);
  }

  kept_grows : (m : Lists K V) (pairs : List (K × V)) → length pairs ≤ length m.pairs → GrowsByOne m (kept eq m pairs)
  kept_grows m pairs few = record { keys = omega (arith, filter_few (is_listed eq (keys_of pairs)) m.keys); pairs = omega (arith, few) }

  appended_grows : (m : Lists K V) (k : K) (v : V) → GrowsByOne m (appended eq m k v)
  appended_grows m k v = record {
    keys = one_key eq m.keys k;
    pairs = omega
        (arith, length-append m.pairs ((stored_key eq m.keys k, v) ∷ []));
  }

  inserted_grows : (m : Lists K V) (k : K) (v : V) → GrowsByOne m (inserted eq m k v)
  inserted_grows m k v = record {
    keys = one_key eq m.keys k;
    pairs = omega (
      arith,
      length-append (pairs_without eq m.pairs k) ((stored_key eq m.keys k, v) ∷ []),
      filter_few
          (λ p. not (eq k p.0)) m.pairs,
    );
  }

  removed_grows : (m : Lists K V) (k : K) → GrowsByOne m (removed eq m k)
  removed_grows m k = kept_grows m (pairs_without eq m.pairs k) (filter_few _ m.pairs)

  removed_at_grows : (m : Lists K V) (k : K) (i : ℕ) → GrowsByOne m (removed_at eq m k i)
  removed_at_grows m k i = record { keys = omega arith; pairs = omega (arith, pairs_besides-few eq k m.pairs i) }

  popped_grows : (end : End) (m : Lists K V) → GrowsByOne m (popped eq end m)
  popped_grows end m = elim (has_items m.pairs) as (λ b. GrowsByOne m (cond b (kept eq m (end_rest end m.pairs)) m)) [
    | true ↦ kept_grows m (end_rest end m.pairs) (rest_few end m.pairs)
    | false ↦ same_grows m m refl
  ]

  entered_grows : (m : Lists K V) (k : K) (v : V) → GrowsByOne m (entered eq m k v)
  entered_grows m k v = elim (is_present eq m.pairs k) as (λ b. GrowsByOne m (cond b m (appended eq m k v))) [
    | true ↦ same_grows m m refl
    | false ↦ appended_grows m k v
  ]

  first_written_grows : (m : Lists K V) (k : K) (v : V) → GrowsByOne m (first_written eq m k v)
  first_written_grows m k v = record {
    keys = omega arith;
    pairs = elim (slice_get (positions_of eq m.pairs k) 0) as
        (λ (o : Option ℕ). length (elim o as (λ _. List (K × V)) [ None ↦ m.pairs | Some i ↦ with_value_at m.pairs i v ]) ≤ length m.pairs
        + 1) [
          | None ↦ omega arith
          | Some i ↦ omega (arith, as_many m.pairs i v)
        ];
  }

  end_written_grows : (end : End) (m : Lists K V) (v : V) → GrowsByOne m (end_written end m v)
  end_written_grows end m v = record { keys = omega arith; pairs = omega (arith, as_many m.pairs (end_position end m.pairs) v) }

  kept_by_grows : (keeps : K → V → Bool → V → Type 0) (m n : Lists K V) → KeepsPairs keeps eq m n → GrowsByOne m n
  kept_by_grows keeps m n left = record {
    keys = omega
        (arith, ap length left.keys, filter_few (is_listed eq (keys_of n.pairs)) m.keys);
    pairs = omega
        (arith, retained_few keeps m.pairs n.pairs left.pairs);
  }

  by_same : (m n : Lists K V) (o : Lists K V) → n ≡ o → GrowsByOne m o → GrowsByOne m n
  by_same m n o same grows = record {
    keys = omega (arith, grows.keys, ap (λ (l : Lists K V). length l.keys) same);
    pairs = omega
        (arith, grows.pairs, ap (λ (l : Lists K V). length l.pairs) same);
  }

module _ {K V A : Type 0} (keeps : V → K → V → Bool → V → Type 0) (eq : K → K → Bool) where
  leaves_grow : (command : Command K V A) (m n : Lists K V) → KeepsRoom command → Leaves keeps eq command m n → GrowsByOne m n
  leaves_grow (Append k v) m n keeps_room left = by_same eq m n (appended eq m k v) left (appended_grows eq m k v)
  leaves_grow (Insert k v) m n keeps_room left = by_same eq m n (inserted eq m k v) left (inserted_grows eq m k v)
  leaves_grow (InsertAll k v) m n keeps_room left = by_same eq m n (inserted eq m k v) left (inserted_grows eq m k v)
  leaves_grow (SetFirst k v) m n keeps_room left = by_same eq m n (first_written eq m k v) left (first_written_grows eq m k v)
  leaves_grow (SetFront v) m n keeps_room left = by_same eq m n (end_written ends.Front m v) left (end_written_grows eq ends.Front m v)
  leaves_grow (SetBack v) m n keeps_room left = by_same eq m n (end_written ends.Back m v) left (end_written_grows eq ends.Back m v)
  leaves_grow (OrInsert k v) m n keeps_room left = by_same eq m n (entered eq m k v) left (entered_grows eq m k v)
  leaves_grow (Remove k) m n keeps_room left = by_same eq m n (removed eq m k) left (removed_grows eq m k)
  leaves_grow (RemoveAll k) m n keeps_room left = by_same eq m n (removed eq m k) left (removed_grows eq m k)
  leaves_grow (RemoveEntry k) m n keeps_room left = by_same eq m n (removed eq m k) left (removed_grows eq m k)
  leaves_grow (RemoveEntryAll k) m n keeps_room left = by_same eq m n (removed eq m k) left (removed_grows eq m k)
  leaves_grow (RemoveAt k i) m n keeps_room left = by_same eq m n (removed_at eq m k i) left (removed_at_grows eq m k i)
  leaves_grow PopFront m n keeps_room left = by_same eq m n (popped eq ends.Front m) left (popped_grows eq ends.Front m)
  leaves_grow PopBack m n keeps_room left = by_same eq m n (popped eq ends.Back m) left (popped_grows eq ends.Back m)
  leaves_grow (Retain x) m n keeps_room left = kept_by_grows eq (keeps x) m n left
  leaves_grow Clear m n keeps_room left = by_same eq m n empty_lists left (record { keys = omega arith; pairs = omega arith })
  leaves_grow PackToFit m n keeps_room left = absurd keeps_room
  leaves_grow Swap m n keeps_room left = absurd keeps_room
  leaves_grow Json m n keeps_room left = absurd keeps_room
  leaves_grow Json2 m n keeps_room left = absurd keeps_room
  leaves_grow command m n keeps_room left = same_grows eq m n left

  pub step_grows : (command : Command K V A) (m : Lists K V) (reply : Reply K V A) (n : Lists K V) → KeepsRoom command
      → IsStep keeps eq command m reply n → GrowsByOne m n
  step_grows command m reply n keeps_room step = elim step [
    | inl done ↦ leaves_grow command m n keeps_room done.1
    | inr refused ↦ same_grows
        eq m n refused.2
  ]

module _ {K V A : Type 0} where
  -- a run goes on by a command that finds its room
  pub FindsRoom-push : (commands : List (Command K V A)) (replies : List (Reply K V A)) (command : Command K V A) (reply : Reply K V A)
      → FindsRoom commands replies → (IsAddition command → reply ≢ NoMemory) → FindsRoom (commands ++ command ∷ []) (replies ++ reply ∷ [])
  FindsRoom-push [] [] command reply found finds = (finds, tt)
  FindsRoom-push (first ∷ commands) (told ∷ replies) command reply found finds =
      (found.0, FindsRoom-push commands replies command reply found.1 finds)
  FindsRoom-push [] (told ∷ replies) command reply found finds = absurd found
  FindsRoom-push (first ∷ commands) [] command reply found finds = absurd found

module _ {K V A S : Type 0} (eq : K → K → Bool) (m : Multimap K V S) (reply : Reply K V A) where
  -- an addition finds the room that is there
  pub addition_finds : (command : Command K V A) → FindsItsRoom eq command m reply → IsAddition command → HasKeyRoom m → HasValueRoom m
      → reply ≢ NoMemory
  addition_finds (Append k v) finds adds = finds
  addition_finds (Insert k v) finds adds = finds
  addition_finds (OrInsert k v) finds adds = finds
  addition_finds command finds adds = absurd adds
