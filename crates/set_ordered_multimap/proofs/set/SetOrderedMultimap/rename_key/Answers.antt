use Rattle.std.proofs.Common.{rules}
use Rattle.set_ordered_multimap.proofs.Renamed.{renames_set}
use Rattle.set_ordered_multimap.proofs.set.SetOrderedMultimap.rename_key.Goals as goal

pub returns-clause-set : goal.returns-clause-set
returns-clause-set g c =
    rw (← c.self.view_is) (renames_set g.V.PartialEq.eq g.met.K.Eq.laws (g.Q.KeyQuery.equivalent c.args.key)
    (g.met.Q.KeyQuery.respects_eq c.args.key) c.args.new_key c.self.inside.map c.rename_key.new.self c.rename_key.result
    c.keys_len-keys.ensures.well_formed c.rename_key.ensures.answer c.rename_key.ensures.renamed)

pub returns-clause-answer : goal.returns-clause-answer
returns-clause-answer g c = search rules
