-- Worked examples of the definitions, at keys and values that are numbers: each is computed.
use Rattle.std.proofs.Common.{◌≡◌, ℕ, Bool, true, false, List, [], ◌∷◌, Some, None, Option, nat_eq, refl}
use Rattle.std.specs.Prelude.{nat_le, ◌==◌, ◌+◌, ◌%◌}
use Rattle.multimap_walks.specs.declared.End.{End}
use Rattle.multimap_walks.specs.declared.End.TheVariants.{Front, Back}
use Rattle.multimap_walks.specs.Walk.{answers_of_walk, forward}
use Rattle.ordered_multimap.specs.Lists.{Lists, lists, empty_lists}
use Rattle.ordered_multimap.specs.Pairs.{values_of, positions_of, is_present, same_pairs, with_value_at}
use Rattle.ordered_multimap.specs.Keys.{KeepsKeyOrder}
use Rattle.ordered_multimap.specs.Changes.{appended, inserted, kept, removed, all_appended, built_from, first_occurrences, first_written}
use Rattle.ordered_multimap.specs.Changes.{end_written}
use Rattle.ordered_multimap.specs.Popped.{Popped, popped_pair, popped}
use Rattle.ordered_multimap.specs.Retain.{Retains}
use Rattle.ordered_multimap.specs.RemovedAt.{removed_at, removable_value_at}
use Rattle.ordered_multimap.specs.Laws.{all_of, staying}

-- the definitions at numbers
abbrev Numbers : Type 0
Numbers = Lists ℕ ℕ

abbrev none : Numbers
none = empty_lists

abbrev insert : Numbers → ℕ → ℕ → Numbers
insert = inserted nat_eq

abbrev append : Numbers → ℕ → ℕ → Numbers
append = appended nat_eq

abbrev append_each : List (ℕ × ℕ) → Numbers
append_each = all_appended nat_eq none

abbrev values : List (ℕ × ℕ) → ℕ → List ℕ
values = values_of nat_eq

abbrev positions : List (ℕ × ℕ) → ℕ → List ℕ
positions = positions_of nat_eq

abbrev present : List (ℕ × ℕ) → ℕ → Bool
present = is_present nat_eq

abbrev walk : List ℕ → List End → List (Option ℕ)
walk = answers_of_walk

-- the pair that a pop answers
abbrev popped_as : Bool → ℕ → ℕ → Option (Popped ℕ ℕ)
popped_as owned key value = Some (record { owned = owned; key = key; value = value })

abbrev pair_popped : End → Numbers → Option (Popped ℕ ℕ)
pair_popped end m = popped_pair nat_eq end m.pairs

abbrev pop : End → Numbers → Numbers
pop = popped nat_eq

-- two inserts and two appends: pairs in the order in which they came, keys too
abbrev four_pairs : Numbers
four_pairs = append (append (insert (insert none 1 1) 2 2) 2 3) 1 4

four_additions : four_pairs ≡ lists (1 ∷ 2 ∷ []) ((1, 1) ∷ (2, 2) ∷ (2, 3) ∷ (1, 4) ∷ [])
four_additions = refl

-- popped from the back, a key is owned with its last value
popped_at_back : pair_popped Back four_pairs ∷ pair_popped Back (pop Back four_pairs) ∷ pair_popped Back (pop Back (pop Back four_pairs))
    ∷ pair_popped Back (pop Back (pop Back (pop Back four_pairs))) ∷ pair_popped Back
    (pop Back (pop Back (pop Back (pop Back four_pairs)))) ∷ []
    ≡ popped_as false 1 4 ∷ popped_as false 2 3 ∷ popped_as true 2 2 ∷ popped_as true 1 1 ∷ None ∷ []
popped_at_back = refl

popped_at_front : pair_popped Front four_pairs ∷ pair_popped Front (pop Front four_pairs) ∷ pair_popped Front
    (pop Front (pop Front four_pairs))
    ∷ pair_popped Front (pop Front (pop Front (pop Front four_pairs))) ∷ pair_popped Front
    (pop Front (pop Front (pop Front (pop Front four_pairs)))) ∷ []
    ≡ popped_as false 1 1 ∷ popped_as false 2 2 ∷ popped_as true 2 3 ∷ popped_as true 1 4 ∷ None ∷ []
popped_at_front = refl

-- an insert under a present key puts the pair last and leaves the key in its place, so that keys and pairs differ in order
abbrev inserted_again : Numbers
inserted_again = insert (insert (insert none 1 10) 2 20) 1 30

insert_keeps_key : inserted_again ≡ lists (1 ∷ 2 ∷ []) ((2, 20) ∷ (1, 30) ∷ [])
insert_keeps_key = refl

-- built of its pairs alone, the keys take the order of the pairs
rebuilt_order : built_from nat_eq inserted_again.pairs ≡ lists (2 ∷ 1 ∷ []) ((2, 20) ∷ (1, 30) ∷ [])
rebuilt_order = refl

occurrences : first_occurrences nat_eq {V = ℕ} ((2, 20) ∷ (1, 30) ∷ (2, 40) ∷ []) ≡ 2 ∷ 1 ∷ []
occurrences = refl

-- equality reads the pairs alone
same_without_key_order : same_pairs nat_eq nat_eq inserted_again.pairs (append_each ((2, 20) ∷ (1, 30) ∷ [])).pairs ≡ true
same_without_key_order = refl

other_key_order : (append_each ((2, 20) ∷ (1, 30) ∷ [])).keys ≡ 2 ∷ 1 ∷ []
other_key_order = refl

-- values of at least 9 are kept: neighbours of one key go in one call
keep_large : Unit {0} → ℕ → ℕ → Bool → ℕ → Unit {0} → Type 0
keep_large f k v answer left g = (answer ≡ nat_le 9 v) × (left ≡ v)

abbrev five_pairs : Numbers
five_pairs = append_each ((1, 1) ∷ (2, 9) ∷ (1, 2) ∷ (1, 3) ∷ (1, 9) ∷ [])

neighbours_go : Retains keep_large tt five_pairs.pairs ((2, 9) ∷ (1, 9) ∷ []) tt
unfolding keep_large
neighbours_go = (
  false,
  1,
  tt,
  _,
  (refl, refl),
  (
    true,
    9,
    tt,
    _,
    (refl, refl),
    (
      false,
      2,
      tt,
      _,
      (refl, refl),
      (
        false,
        3,
        tt,
        _,
        (refl, refl),
        (true, 9, tt, _, (refl, refl), (refl, refl), refl),
        refl,
      ),
      refl,
    ),
    refl,
  ),
  refl,
)

neighbours_gone : kept nat_eq five_pairs ((2, 9) ∷ (1, 9) ∷ []) ≡ lists (1 ∷ 2 ∷ []) ((2, 9) ∷ (1, 9) ∷ [])
neighbours_gone = refl

last_of_key : walk (values ((2, 9) ∷ (1, 9) ∷ []) 1) (Back ∷ Front ∷ []) ≡ Some 9 ∷ None ∷ []
last_of_key = refl

-- where no pair is kept, no key is
all_go : Retains keep_large tt ((1, 1) ∷ (1, 2) ∷ []) [] tt
unfolding keep_large
all_go = (false, 1, tt, _, (refl, refl), (false, 2, tt, _, (refl, refl), (refl, refl), refl), refl)

no_key_stays : append (kept nat_eq (append_each ((1, 1) ∷ (1, 2) ∷ [])) []) 1 5 ≡ lists (1 ∷ []) ((1, 5) ∷ [])
no_key_stays = refl

-- a function may change values that it keeps
add_one : Unit {0} → ℕ → ℕ → Bool → ℕ → Unit {0} → Type 0
add_one f k v answer left g = (answer ≡ ((v + 1) % 2 == 0)) × (left ≡ v + 1)

changed_and_kept : Retains add_one tt ((1, 1) ∷ (1, 2) ∷ (1, 3) ∷ []) ((1, 2) ∷ (1, 4) ∷ []) tt
unfolding add_one
changed_and_kept =
    (true, 2, tt, _, (refl, refl), (false, 3, tt, _, (refl, refl), (true, 4, tt, _, (refl, refl), (refl, refl), refl), refl), refl)

-- a walk of four values from both ends meets the middle ones once
both_ends : walk (values (append_each ((1, 1) ∷ (1, 2) ∷ (1, 3) ∷ (1, 4) ∷ [])).pairs 1) (Front ∷ Back ∷ Front ∷ Back ∷ Front ∷ [])
    ≡ Some 1 ∷ Some 4 ∷ Some 2 ∷ Some 3 ∷ None ∷ []
both_ends = refl

whole_walk : walk (1 ∷ 2 ∷ []) (forward {X = ℕ} (1 ∷ 2 ∷ [])) ≡ Some 1 ∷ Some 2 ∷ []
whole_walk = refl

-- a key that went and comes again stands last
abbrev without_one : Numbers
without_one = removed nat_eq (append_each ((1, 1) ∷ (2, 2) ∷ [])) 1

comes_again : append without_one 1 3 ≡ lists (2 ∷ 1 ∷ []) ((2, 2) ∷ (1, 3) ∷ [])
comes_again = refl

order_of_keys : KeepsKeyOrder nat_eq without_one.keys (append without_one 1 3).keys
order_of_keys = refl

-- values and positions of a key
values_in_order : values four_pairs.pairs 1 ≡ 1 ∷ 4 ∷ []
values_in_order = refl

positions_in_order : positions four_pairs.pairs 1 ≡ 0 ∷ 3 ∷ []
positions_in_order = refl

absent_key : present four_pairs.pairs 3 ≡ false
absent_key = refl

changed_in_place : with_value_at four_pairs.pairs 3 7 ≡ (1, 1) ∷ (2, 2) ∷ (2, 3) ∷ (1, 7) ∷ []
changed_in_place = refl

-- the first value of a key is written, and where the key is absent nothing
abbrev key_twice : Numbers
key_twice = append_each ((1, 1) ∷ (2, 2) ∷ (1, 3) ∷ [])

first_values_written : first_written nat_eq key_twice 1 9 ∷ first_written nat_eq key_twice 2 9 ∷ first_written nat_eq key_twice 3 9 ∷ []
    ≡ lists (1 ∷ 2 ∷ []) ((1, 9) ∷ (2, 2) ∷ (1, 3) ∷ []) ∷ lists (1 ∷ 2 ∷ []) ((1, 1) ∷ (2, 9) ∷ (1, 3) ∷ []) ∷ key_twice ∷ []
first_values_written = refl

-- the value of the first or the last pair, and of none where there is no pair
end_values_written : end_written Front key_twice 7 ∷ end_written Back key_twice 7 ∷ end_written Front none 7 ∷ end_written Back none 7 ∷ []
    ≡ lists (1 ∷ 2 ∷ []) ((1, 7) ∷ (2, 2) ∷ (1, 3) ∷ []) ∷ lists (1 ∷ 2 ∷ []) ((1, 1) ∷ (2, 2) ∷ (1, 7) ∷ []) ∷ none ∷ none ∷ []
end_values_written = refl

-- one of several values goes, by its index among them, and an only value stays
marked_pairs : List (Bool × (ℕ × ℕ))
marked_pairs = (true, (1, 1)) ∷ (false, (1, 2)) ∷ (true, (2, 5)) ∷ (true, (1, 3)) ∷ []

abbrev three_of_one : Numbers
three_of_one = append_each ((1, 1) ∷ (1, 2) ∷ (2, 5) ∷ (1, 3) ∷ [])

values_beside : removable_value_at nat_eq three_of_one.pairs 1 1 ∷ removable_value_at nat_eq three_of_one.pairs 1 3 ∷ removable_value_at nat_eq
    three_of_one.pairs 2 0 ∷ []
    ≡ Some 2 ∷ None ∷ None ∷ []
values_beside = refl

second_goes : removed_at nat_eq three_of_one 1 1 ≡ lists (1 ∷ 2 ∷ []) ((1, 1) ∷ (2, 5) ∷ (1, 3) ∷ [])
second_goes = refl

only_one_stays : removed_at nat_eq three_of_one 2 0 ≡ three_of_one
only_one_stays = refl

-- so it is one of the drops of pairs that the law of chains speaks of
one_is_dropped : (removed_at nat_eq (lists (1 ∷ 2 ∷ []) (all_of marked_pairs)) 1 1).pairs ≡ staying marked_pairs
unfolding marked_pairs
one_is_dropped = refl

positions_left : positions (removed_at nat_eq three_of_one 1 1).pairs 1 ≡ 0 ∷ 2 ∷ []
positions_left = refl
