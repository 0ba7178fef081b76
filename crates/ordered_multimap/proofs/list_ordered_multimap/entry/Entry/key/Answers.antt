use Rattle.std.proofs.Common.{◌≡◌, sym, ◌∙◌, subst}
use Rattle.ordered_multimap.specs.Keys.{stored_key}
use Rattle.ordered_multimap.proofs.Callers.ListedKeys.{stored_key_absent}
use Rattle.ordered_multimap.proofs.list_ordered_multimap.entry.Entry.key.Goals as goal

pub returns-in-Vacant-clause-stored : goal.returns-in-Vacant-clause-stored
returns-in-Vacant-clause-stored g c = rw c.in-Vacant.is (λ k own.
    let x = c.in-Vacant.entry in let keys = x.map.now.lists.keys in
    c.key-in-Vacant.ensures
    ∙ sym (subst (λ j. stored_key g.K.PartialEq.eq keys j ≡ x.key) own
    (stored_key_absent g.met.K.Eq.laws x.key keys x.unlisted)))
