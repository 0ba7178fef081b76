use Rattle.std.proofs.Common.{◌≡◌, ap}
use Rattle.multimap_slots.specs.SlotCells.{lent_slots}
use Rattle.multimap_walks.specs.Chained.{chain_of, places_along, positions_at, values_at}
use Rattle.multimap_walks.proofs.Callers.Chains.{along_whole}
use Rattle.multimap_walks.proofs.WritingLemmas.{chain_left}
use Rattle.multimap_walks.proofs.writing.chain.EntryValuesMut.new.Given.{Over}
use Rattle.multimap_walks.proofs.writing.chain.EntryValuesMut.new.Goals.{In-Some}
use Rattle.multimap_walks.proofs.writing.chain.EntryValuesMut.new.Goals as goal

-- the links lead through all values of the key
whole : (g : Over) (c : In-Some g) → places_along (lent_slots c.args.values) c.in-Some.link.head c.in-Some.link.length
    ≡ chain_of (lent_slots c.args.values) c.in-Some.field-0-0
whole g c = along_whole c.args.keys.now (lent_slots c.args.values) c.in-Some.field-0-0 c.in-Some.link c.requires.untaken.sound
    c.requires.chained (rw c.in-Some.is at c.requires.listed)

pub returns-clause-values : goal.returns-clause-values
returns-clause-values g c =
    rw (c.in-Some.is, c.ends.ensures)
    (ap (values_at (lent_slots c.args.values)) (whole g (goal.at.returns-clause-values g c).In-Some))

pub returns-clause-positions : goal.returns-clause-positions
returns-clause-positions g c =
    rw (c.in-Some.is, c.ends.ensures)
    (ap (positions_at (lent_slots c.args.values)) (whole g (goal.at.returns-clause-positions g c).In-Some))

pub invariant_of-result-2 : goal.invariant_of-result-2
invariant_of-result-2 g c =
    let r = c.requires in
    let has = rw c.in-Some.is at r.listed in
    rw c.ends.ensures (record {
      readable = ∣ chain_left c.args.keys.now c.args.values c.in-Some.field-0-0 c.in-Some.link r.untaken.sound r.chained has
          r.untaken.left ∣₁;
    })
