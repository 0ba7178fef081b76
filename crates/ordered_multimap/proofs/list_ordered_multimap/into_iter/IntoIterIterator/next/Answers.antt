use Rattle.multimap_walks.specs.declared.End.TheVariants.{Front}
use Rattle.ordered_multimap.proofs.Walks.TakenApart.{progress}
use Rattle.ordered_multimap.proofs.list_ordered_multimap.into_iter.IntoIterIterator.next.Goals as goal

pub returns-clause-goes : goal.returns-clause-goes
returns-clause-goes g c =
    progress g.K.Clone.is_clone g.K.Clone.is_infallible Front c.hand_out.result c.args.self.now c.hand_out.new.self c.hand_out.ensures
