-- What a map is from which some pairs have left.
use Rattle.std.proofs.Common.{◌≤◌, ◌-◌, ◌/◌, ℕ, Bool, length, refl, ap, ◌∙◌, arith}
use Rattle.multimap_slots.specs.Slots.{Slots}
use Rattle.multimap_slots.specs.Tapes.{Taped}
use Rattle.multimap_table.specs.Table.{Table}
use Rattle.multimap_walks.specs.declared.links.KeyLink.{KeyLink}
use Rattle.multimap_walks.specs.declared.links.ValueLink.{ValueLink}
use Rattle.multimap_walks.specs.Chained.{pairs_of}
use Rattle.ordered_multimap.specs.Agrees.{IsMap}
use Rattle.ordered_multimap.specs.Private.Remove.{KeepsRoom}
use Rattle.ordered_multimap.specs.Private.Retain.{LosesSome}
use Rattle.ordered_multimap.specs.TapeNumbers.{TakesOut, numbers_of}
use Rattle.ordered_multimap.proofs.Agreement.Agreed.{length-pairs}
use Rattle.ordered_multimap.proofs.Append.Appended.{stays_paid}

module _ {K V : Type 0} where
  pub room_same : {keys : Slots K KeyLink} {table : Table} {values : Taped V ValueLink} → KeepsRoom keys keys table table values values
  room_same = record { key_room = refl; row_room = refl; value_room = refl }

  pub room_still : {keys keys_now keys_after : Slots K KeyLink} {table table_now table_after : Table}
      {values values_now values_after : Taped V ValueLink} → KeepsRoom keys keys_now table table_now values values_now
      → KeepsRoom keys_now keys_after table_now table_after values_now values_after
      → KeepsRoom keys keys_after table table_after values values_after
  room_still was is = record {
    key_room = is.key_room ∙ was.key_room;
    row_room = is.row_room ∙ was.row_room;
    value_room = is.value_room ∙ was.value_room;
  }

module _ {K V : Type 0} {eq : K → K → Bool} {hash : K → ℕ} {keys keys_after : Slots K KeyLink} {table table_after : Table}
    {values values_after : Taped V ValueLink} (m : IsMap eq hash keys table.rows values)
    (t : LosesSome eq keys keys_after table table_after values values_after) where
  pub map_fewer : IsMap eq hash keys_after table_after.rows values_after
  map_fewer = record {
    agrees = t.agrees hash m.agrees;
    fits = omega (arith, t.fewer, m.fits, ap (λ n. n / 2) t.room.value_room);
    paid = stays_paid t.counts m.paid;
  }

  pub pairs_fewer : length (pairs_of keys_after values_after.list) ≤ length (pairs_of keys values.list)
  pairs_fewer = omega (arith, t.fewer, length-pairs (t.agrees hash m.agrees), length-pairs m.agrees)

  pub pairs_taken : TakesOut (length (pairs_of keys values.list) - length (pairs_of keys_after values_after.list)) (numbers_of values)
      (numbers_of values_after)
  pairs_taken =
      let after = length-pairs (t.agrees hash m.agrees) in
      let before = length-pairs m.agrees in
      record { freed = omega (arith, t.counts.freed, after, before); paid = omega (arith, t.counts.paid, after, before) }
