use Rattle.std.proofs.Common.{◌≡◌, ap, ◌∙◌}
use Rattle.multimap_walks.specs.Chained.{chain_of, places_along, positions_at, values_at}
use Rattle.multimap_walks.proofs.Callers.Chains.{chain_whole, along_whole}
use Rattle.multimap_walks.proofs.chain.EntryValues.new.Given.{Over}
use Rattle.multimap_walks.proofs.chain.EntryValues.new.Goals.{In-Some}
use Rattle.multimap_walks.proofs.chain.EntryValues.new.Goals as goal

pub along-requires-2 : goal.along-requires-2
along-requires-2 g c =
    let has = rw c.in-Some.is at c.requires.listed in
    rw c.ends.ensures
    (chain_whole c.args.keys.now c.args.values.now.list c.in-Some.field-0-0 c.in-Some.link c.len-values.ensures.sound c.requires.chained has)

-- the links lead through all values of the key
whole : (g : Over) (c : In-Some g) → places_along c.args.values.now.list c.in-Some.link.head c.in-Some.link.length
    ≡ chain_of c.args.values.now.list c.in-Some.field-0-0
whole g c = along_whole c.args.keys.now c.args.values.now.list c.in-Some.field-0-0 c.in-Some.link c.len-values.ensures.sound
    c.requires.chained (rw c.in-Some.is at c.requires.listed)

pub returns-clause-values : goal.returns-clause-values
returns-clause-values g c =
    rw c.in-Some.is (ap (λ w. w.left) (rw c.ends.ensures at c.along-2.ensures)
    ∙ ap (values_at c.args.values.now.list) (whole g (goal.at.returns-clause-values g c).In-Some))

pub returns-clause-positions : goal.returns-clause-positions
returns-clause-positions g c =
    rw c.in-Some.is (ap (λ w. w.positions) (rw c.ends.ensures at c.along-2.ensures)
    ∙ ap (positions_at c.args.values.now.list) (whole g (goal.at.returns-clause-positions g c).In-Some))
