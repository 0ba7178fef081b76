use Rattle.std.proofs.Common.{◌∙◌, sym, subst, arith}
use Rattle.multimap_slots.specs.Slots.{DoublesIfGrown}
use Rattle.ordered_multimap.proofs.Append.Inserted.{chain-relocated, inserts-over, over_keys, over_values}
use Rattle.ordered_multimap.proofs.Append.Steps.{ok_if}
use Rattle.ordered_multimap.proofs.list_ordered_multimap.insert.insert_behind_all.Goals as goal

pub replace_chain-requires : goal.replace_chain-requires
replace_chain-requires g c = let e = c.make_value_room.ensures in record {
  chain = chain-relocated c.requires.chain e.relocated;
  room = ok_if c.make_value_room.result (sym c.is_err.ensures.value ∙ c.if-is_err.false) e.end_room;
}

pub returns-clause-ok : goal.returns-clause-ok
returns-clause-ok g c =
    let e = c.make_value_room.ensures in
    inserts-over c.requires.chain e.relocated e.tape.taken (e.tape.fits c.requires.fits) c.replace_chain.ensures

pub returns-clause-grows : goal.returns-clause-grows
returns-clause-grows g c =
    let e = c.make_value_room.ensures in
    let same = over_values c.replace_chain.ensures in
    record {
      keys_capacity = over_keys c.replace_chain.ensures ∙ e.keys_capacity;
      no_less = omega (arith, e.tape.no_less, same);
      had_room = λ room. same ∙ e.tape.had_room room;
      doubles = subst (DoublesIfGrown c.args.values.now.list.capacity) (sym same) e.tape.doubles;
    }
