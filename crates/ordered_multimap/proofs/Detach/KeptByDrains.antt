-- What of a map stays while a drain takes detached values.
use Rattle.std.proofs.Common.{◌≡◌, ℕ, ◌+◌, ◌-◌, ◌/◌, Bool, length, unwrap_or, Some, refl, ap, arith}
use Rattle.std.specs.Ordering.{nat_cmp}
use Rattle.std.specs.FinMap.{FinMap}
use Rattle.multimap_slots.specs.Slots.{Slots, IsDetached, TakesDetached, link_at}
use Rattle.multimap_slots.specs.Tapes.{Taped, HasTapeRoomFor, KeepsCounts}
use Rattle.multimap_walks.specs.Ends.{end_place, ends_after, step_from}
use Rattle.multimap_walks.specs.Walk.{with_end}
use Rattle.multimap_walks.specs.declared.End.{End}
use Rattle.multimap_walks.specs.declared.End.TheVariants.{Front, Back}
use Rattle.multimap_walks.specs.declared.links.ChainEnds.{ChainEnds}
use Rattle.multimap_walks.specs.declared.links.KeyLink.{KeyLink}
use Rattle.multimap_walks.specs.declared.links.ValueLink.{ValueLink}
use Rattle.ordered_multimap.specs.Agrees.{Agrees}
use Rattle.ordered_multimap.specs.Detaches.{IsDrained, KeepsListed, KeepsSlots, drained}
use Rattle.ordered_multimap.specs.TapeNumbers.{ArePaid, numbers_of}
use Rattle.ordered_multimap.proofs.Append.Rooms.{map_of}
use Rattle.ordered_multimap.proofs.Detach.DrainSteps.{first_detached, first_given, first_rest, last_detached, last_given, last_rest}
use Rattle.ordered_multimap.proofs.Detach.DrainSteps.{lists_of-listed}

-- a step at an end of detached values
module _ {V : Type 0} {values : Slots V ValueLink} (ends : ChainEnds) (some : ∥ IsDrained values ends ∥₁)
    (more : ends.length ≡ (ends.length - 1) + 1) where
  pub end_detached : (end : End) → IsDetached values (end_place end ends)
  end_detached Front = first_detached ends some (ends.length - 1) more
  end_detached Back = last_detached ends some (ends.length - 1) more

  module _ (l : ValueLink) (place : ℕ) {values_after : Slots V ValueLink} {v : V} where
    pub end_rest : (end : End) → link_at values (end_place end ends) ≡ Some l
        → place ≡ unwrap_or (step_from end l.next l.previous) 0
        → TakesDetached values values_after (end_place end ends) v → IsDrained values_after (ends_after end ends place)
    end_rest Front is told takes = first_rest ends some (ends.length - 1) more l place is told takes
    end_rest Back is told takes = last_rest ends some (ends.length - 1) more l place is told takes

    pub end_given : (end : End) → link_at values (end_place end ends) ≡ Some l
        → place ≡ unwrap_or (step_from end l.next l.previous) 0
        → TakesDetached values values_after (end_place end ends) v
        → drained values ends ≡ with_end end v (drained values_after (ends_after end ends place))
    end_given Front is told takes = first_given ends some (ends.length - 1) more l place is told takes
    end_given Back is told takes = last_given ends some (ends.length - 1) more l place is told takes

module _ {V : Type 0} (values values_after : Taped V ValueLink) where
  pub fits-listed : KeepsSlots values.list values_after.list → values_after.list.capacity ≡ values.list.capacity → HasTapeRoomFor values 0
      → HasTapeRoomFor values_after 0
  fits-listed keeps room fits = omega (arith, fits, ap (λ n. n / 2) room, ap length keeps.order)

  pub paid-listed : KeepsCounts values values_after → ArePaid (numbers_of values) → ArePaid (numbers_of values_after)
  paid-listed counts paid = omega (arith, counts.moved, counts.freed, counts.holes, paid)

module _ {K V S : Type 0} {eq : K → K → Bool} {hash : K → ℕ} (keys : Slots K KeyLink) (rows : FinMap nat_cmp ℕ) (values : Taped V ValueLink)
    (agrees : Agrees eq hash keys rows values.list) (row_capacity : ℕ) (state : S) (left left_after : ChainEnds)
    (values_after : Taped V ValueLink) where
  pub keeps_listed : KeepsSlots values.list values_after.list → KeepsCounts values values_after
      → values_after.list.capacity ≡ values.list.capacity
      → KeepsListed (map_of keys row_capacity values state left) (map_of keys row_capacity values_after state left_after)
  keeps_listed keeps counts room = record {
    lists = lists_of-listed agrees keeps room;
    key_room = refl;
    value_room = ap (λ n. n / 2) room;
    hasher = refl;
    tape = λ i. record { slots = room i; moved = counts.moved i; freed = counts.freed i; holes = counts.holes i };
  }
