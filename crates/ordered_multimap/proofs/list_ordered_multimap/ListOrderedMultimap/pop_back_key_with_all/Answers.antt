use Rattle.std.proofs.Common.{refl}
use Rattle.ordered_multimap.proofs.Detach.EndKeys.{drains_if_some}
use Rattle.ordered_multimap.proofs.list_ordered_multimap.ListOrderedMultimap.pop_back_key_with_all.Goals as goal

pub returns-clause-drain : goal.returns-clause-drain
returns-clause-drain g c =
    drains_if_some g.K.PartialEq.eq _ c.detach_end_or_none.result c.detach_end_or_none.ensures.detached c.detach_end_or_none.ensures.holds.rooms refl
