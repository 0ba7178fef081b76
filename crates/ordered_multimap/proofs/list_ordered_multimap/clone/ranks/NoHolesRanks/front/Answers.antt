use Rattle.std.proofs.Common.{true≢false, sym, ◌∙◌}
use Rattle.ordered_multimap.proofs.Clone.NoHoles.{first-zero}
use Rattle.ordered_multimap.proofs.list_ordered_multimap.clone.ranks.NoHolesRanks.front.Goals as goal

pub returns-else-is_empty : goal.returns-else-is_empty
returns-else-is_empty g c =
    first-zero c.args.values.now.list.order c.requires (λ none. true≢false (sym (c.is_empty.ensures.1 none) ∙ c.if-is_empty.false))
