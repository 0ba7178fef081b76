use Rattle.std.proofs.Common.{rules}
use Rattle.std.proofs.Common.{◌/◌, min, length, refl, ap, sym, ◌∙◌, subst, arith}
use Rattle.std.specs.List.{filter_map}
use Rattle.multimap_slots.specs.Slots.{item_at}
use Rattle.multimap_walks.specs.Chained.{pair_at, pairs_of}
use Rattle.ordered_multimap.specs.Lists.{lists}
use Rattle.ordered_multimap.specs.Private.AppendMap.{MovesMap, all_put, count_for_all}
use Rattle.ordered_multimap.specs.TapeNumbers.{ArePaid}
use Rattle.ordered_multimap.proofs.Agreement.Agreed.{agrees_empty, length-keys, length-pairs}
use Rattle.ordered_multimap.proofs.Append.Appended.{stays_paid}
use Rattle.ordered_multimap.proofs.Append.Rooms.{map_of}
use Rattle.ordered_multimap.proofs.list_ordered_multimap.ListOrderedMultimap.move_all.Goals as goal

pub returns-in_err-reserve_keys-clause-paid : goal.returns-in_err-reserve_keys-clause-paid
returns-in_err-reserve_keys-clause-paid g c =
    subst ArePaid (sym c.reserve_keys.ensures.tape) (subst (λ m. ArePaid m.tape) c.self.view_is c.self.invariant.paid)

pub returns-in_err-reserve_values-clause-paid : goal.returns-in_err-reserve_values-clause-paid
returns-in_err-reserve_values-clause-paid g c =
    stays_paid c.reserve_values.ensures.taken
    (subst ArePaid (sym c.reserve_keys.ensures.tape) (subst (λ m. ArePaid m.tape) c.self.view_is c.self.invariant.paid))

pub move_parts-requires-clause-key_room : goal.move_parts-requires-clause-key_room
move_parts-requires-clause-key_room g c = omega (
  arith,
  c.in_ok-reserve_keys.ensures.room,
  c.keys_len.ensures.len,
  ap (λ m. length m.lists.keys) c.other.view_is,
  length-keys c.other.invariant.agrees,
  ap (λ m. length m.keys) c.reserve_keys.ensures.grows.lists,
  ap (λ m. length m.keys) c.reserve_values.ensures.grows.lists,
  c.reserve_values.ensures.keys,
)

pub move_parts-requires-clause-value_room : goal.move_parts-requires-clause-value_room
move_parts-requires-clause-value_room g c = omega (
  arith,
  c.in_ok-reserve_values.ensures.room,
  c.values_len.ensures,
  ap (λ m. length m.lists.pairs) c.other.view_is,
  length-pairs c.other.invariant.agrees,
  ap (λ m. length m.pairs) c.reserve_values.ensures.grows.lists,
)

pub invariant_of-other : goal.invariant_of-other
invariant_of-other g c =
    let keys = c.clear_listed.ensures in
    let values = c.clear-2.ensures in
    let used = c.move_parts.ensures.used_up in
    record {
      agrees = agrees_empty c.clear_listed.new.self c.clear-2.new.self.list keys.order values.empty.order _ _ _ c.clear.ensures.empty;
      fits = omega (arith, ap length values.empty.order);
      paid = omega (
        arith,
        values.moved,
        values.freed,
        values.holes,
        used.moved,
        used.freed,
        c.other.invariant.paid,
      );
    }

pub returns-clause-ok : goal.returns-clause-ok
returns-clause-ok g c =
    let keys = c.reserve_keys.ensures in
    let values = c.reserve_values.ensures in
    let parts = c.move_parts.ensures in
    let used = parts.used_up in
    let i = c.other.inside in
    let same = values.grows.lists ∙ keys.grows.lists in
    let gone = ap (λ m. count_for_all g.K.PartialEq.eq c.args.replaces m (pairs_of i.keys i.values.list)) same in
    let after = map_of c.clear_listed.new.self c.clear.new.self.capacity c.clear-2.new.self i.state i.left in
    subst (λ m. MovesMap g.K.PartialEq.eq c.args.replaces c.args.self.now c.move_parts.new.self m after) c.other.view_is (record {
      lists = parts.lists ∙ ap (λ m. all_put g.K.PartialEq.eq c.args.replaces m (pairs_of i.keys i.values.list)) same;
      rooms = record {
        keys = omega (arith, keys.grows.rooms.keys, values.keys, parts.rooms.keys);
        values = omega (arith, values.grows.rooms.values, keys.values, parts.rooms.values);
        hasher = parts.rooms.hasher ∙ values.grows.rooms.hasher ∙ keys.grows.rooms.hasher;
      };
      doubles = record {
        keys = λ more. omega (arith, keys.grows.doubles.keys (omega (arith, more, values.keys, parts.rooms.keys)), values.keys, parts.rooms.keys);
        values = λ more. omega (
          arith,
          values.grows.doubles.values (omega (arith, more, keys.values, parts.rooms.values)),
          keys.values,
          parts.rooms.values,
        );
      };
      taken = record {
        freed = omega (arith, parts.taken.freed, gone, values.taken.freed, ap (λ t. t.freed) keys.tape);
        paid = omega (arith, parts.taken.paid, gone, values.taken.paid, ap (λ t. t.moved) keys.tape, ap (λ t. t.holes) keys.tape);
      };
      cleared = record {
        lists = λ j. lists (filter_map (item_at c.clear_listed.new.self) (c.clear_listed.ensures.order j))
            (filter_map (pair_at c.clear_listed.new.self c.clear-2.new.self.list) (c.clear-2.ensures.empty.order j));
        rooms = record {
          keys = ap (λ n. min n c.clear.new.self.capacity) (c.clear_listed.ensures.capacity ∙ used.keys_capacity)
              ∙ ap (min i.keys.capacity) c.clear.ensures.capacity;
          values = ap (λ n. n / 2) (c.clear-2.ensures.capacity ∙ used.capacity);
          slots = c.clear-2.ensures.capacity ∙ used.capacity;
          hasher = refl;
        };
        taken = record {
          freed = omega (arith, c.clear-2.ensures.freed, used.freed, ap length used.none, length-pairs c.other.invariant.agrees);
          paid = omega (arith, c.clear-2.ensures.moved, c.clear-2.ensures.holes, used.moved);
        };
        holes = c.clear-2.ensures.holes;
      };
    })

pub returns-clause-paid : goal.returns-clause-paid
returns-clause-paid g c =
    stays_paid c.move_parts.ensures.taken (stays_paid c.reserve_values.ensures.taken
    (subst ArePaid (sym c.reserve_keys.ensures.tape) (subst (λ m. ArePaid m.tape) c.self.view_is c.self.invariant.paid)))

pub returns-clause-refused : goal.returns-clause-refused
returns-clause-refused g c = search rules
