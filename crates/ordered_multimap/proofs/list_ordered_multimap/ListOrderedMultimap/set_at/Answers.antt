use Rattle.std.proofs.Common.{ap, ◌∙◌, length, slice_get, arith}
use Rattle.std.proofs.lemmas.Option.{slice_get_within}
use Rattle.ordered_multimap.specs.Lists.{Lists, lists}
use Rattle.ordered_multimap.specs.OneValue.{only_written}
use Rattle.ordered_multimap.specs.Pairs.{values_of}
use Rattle.ordered_multimap.specs.TapeNumbers.{TapeNumbers}
use Rattle.ordered_multimap.proofs.Callers.OnlyValue.{with_first-values, with_only-first}
use Rattle.ordered_multimap.proofs.list_ordered_multimap.ListOrderedMultimap.set_at.Goals as goal

pub returns-clause-stays : goal.returns-clause-stays
returns-clause-stays g c =
    let first = c.replace_first-first.ensures in
    let rest = c.drop_others.ensures.stays in
    record {
      place_stays = record {
        listed = rest.place_stays.listed;
        stays = λ k has. rest.place_stays.stays k (first.stays.stays k has);
      };
      rooms = record {
        keys = rest.rooms.keys ∙ first.numbers.rooms.keys;
        values = rest.rooms.values ∙ first.numbers.rooms.values;
        slots = rest.rooms.slots ∙ first.numbers.rooms.slots;
        hasher = rest.rooms.hasher ∙ first.numbers.rooms.hasher;
      };
    }

pub returns-clause-only : goal.returns-clause-only
returns-clause-only g c =
    λ k has.
    let first = c.replace_first-first.ensures in
    let old = c.args.self.now.lists in
    let value = c.args.value in
    let some = slice_get_within (values_of g.K.PartialEq.eq old.pairs k) 0 c.replace_first-first.result (first.value k has) in
    let values = with_first-values (g.K.PartialEq.eq k) old.pairs value some in
    let pairs = ap (λ (m : Lists g.row.K.Denot g.row.V.Denot). m.pairs) (first.lists k has) in
    let rest = c.drop_others.ensures.only k value (first.stays.stays k has)
    (ap (λ ps. slice_get (values_of g.K.PartialEq.eq ps k) 0) pairs ∙ values.0) in
    let fewer = ap (λ ps. length (values_of g.K.PartialEq.eq ps k)) pairs in
    record {
      lists = rest.lists ∙ ap (λ (m : Lists g.row.K.Denot g.row.V.Denot). only_written (g.K.PartialEq.eq k) m value) (first.lists k has)
          ∙ (λ i. lists old.keys (with_only-first (g.K.PartialEq.eq k) old.pairs value i));
      taken = record {
        freed = omega (arith, rest.taken.freed, ap (λ (n : TapeNumbers). n.freed) first.numbers.tape, fewer, values.1);
        paid = omega (
          arith,
          rest.taken.paid,
          ap (λ (n : TapeNumbers). n.moved) first.numbers.tape,
          ap (λ (n : TapeNumbers). n.holes) first.numbers.tape,
          fewer,
          values.1,
        );
      };
    }
