use Rattle.std.proofs.Common.{false, arith, rules}
use Rattle.multimap_slots.specs.SlotCells.{lent_slots}
use Rattle.multimap_walks.specs.Chained.{places_along}
use Rattle.multimap_walks.proofs.Callers.Chains.{chain_leaves, chain_taken, steps_to}
use Rattle.multimap_walks.proofs.WritingLemmas.{chain_end_left, passed_over}
use Rattle.multimap_walks.proofs.writing.chain.chain_after.Goals as goal

pub link-requires : goal.link-requires
link-requires g c = record {
  left =
      rw c.place_at-place.ensures
      (chain_end_left c.args.cells.now c.args.left (omega (arith, c.if-left-eq0.false)) c.requires c.args.end);
}

pub returns-clause-taken : goal.returns-clause-taken
returns-clause-taken g c =
    let link = rw c.place_at-place.ensures at c.link.ensures in
    rw c.after.ensures
    (record {
      places_are = chain_taken (lent_slots c.args.cells.now) false c.args.left (omega (arith, c.if-left-eq0.false)) c.requires.chain
          c.args.end _ c.link.result link (steps_to c.unwrap_or.ensures c.step_from.ensures);
      count = search rules;
    })

pub returns-clause-can : goal.returns-clause-can
returns-clause-can g c =
    let left = c.args.left in
    let values = lent_slots c.args.cells.now in
    let link = rw c.place_at-place.ensures at c.link.ensures in
    record {
      chain =
          rw c.after.ensures
          (chain_leaves values false left (omega (arith, c.if-left-eq0.false)) c.requires.chain c.args.end _ c.link.result link
          (steps_to c.unwrap_or.ensures c.step_from.ensures));
      untaken =
          passed_over c.args.cells.now (places_along values left.first left.length) c.requires.untaken c.args.end _ _
          (returns-clause-taken g c).places_are;
    }
