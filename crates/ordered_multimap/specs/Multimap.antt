-- What a contract sees of a `ListOrderedMultimap`.
use Rattle.std.specs.Prelude.{ℕ, List, refl}
use Rattle.std.specs.Coded.{Coded, code_by, coded×, coded_list, coded_ℕ}
use Rattle.ordered_multimap.specs.Lists.{Lists, lists}
use Rattle.ordered_multimap.specs.MapSlots.{MapSlots, map_slots_code}
use Rattle.ordered_multimap.specs.TapeNumbers.{TapeNumbers, numbers_code}

-- its two lists, how many keys and values fit without growing, its hash builder, its tape's
-- numbers, and its slots
pub record Multimap (K V S : Type 0) : Type 0 where
  pub lists : Lists K V
  pub key_room : ℕ
  pub value_room : ℕ
  pub hasher : S
  pub tape : TapeNumbers
  pub slots : MapSlots K V

module _ {K V S : Type 0} where
  abbrev pub multimap : Lists K V → ℕ → ℕ → S → TapeNumbers → MapSlots K V → Multimap K V S
  multimap two_lists key_room value_room hasher tape slots = record {
    lists = two_lists;
    key_room = key_room;
    value_room = value_room;
    hasher = hasher;
    tape = tape;
    slots = slots;
  }

  -- a map is stored as its lists, its rooms, its builder, its tape's numbers and its slots
  abbrev pub multimap_code : Coded K → Coded V → Coded S → Coded (Multimap K V S)
  multimap_code k v s =
      code_by ((List K × List (K × V)) × ((ℕ × ℕ) × (S × (TapeNumbers × MapSlots K V))))
      (coded× (coded× (coded_list k) (coded_list (coded× k v)))
      (coded× (coded× coded_ℕ coded_ℕ) (coded× s (coded× numbers_code (map_slots_code k v)))))
      (λ m. (
        (m.lists.keys, m.lists.pairs),
        ((m.key_room, m.value_room), (m.hasher, (m.tape, m.slots))),
      ))
      (λ p. multimap (lists p.0.0 p.0.1) p.1.0.0 p.1.0.1 p.1.1.0 p.1.1.1.0 p.1.1.1.1) (λ _. refl)
