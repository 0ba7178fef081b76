use Rattle.multimap_walks.specs.declared.End.TheVariants.{Back}
use Rattle.ordered_multimap.proofs.Walks.TakenApart.{progress}
use Rattle.ordered_multimap.proofs.list_ordered_multimap.into_iter.IntoIterDoubleEndedIterator.next_back.Goals as goal

pub returns-clause-goes : goal.returns-clause-goes
returns-clause-goes g c =
    progress g.K.Clone.is_clone g.K.Clone.is_infallible Back c.hand_out.result c.args.self.now c.hand_out.new.self c.hand_out.ensures

pub returns-clause-steps : goal.returns-clause-steps
returns-clause-steps g c = c.hand_out.ensures
