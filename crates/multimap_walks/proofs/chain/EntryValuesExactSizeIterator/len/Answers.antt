use Rattle.std.proofs.Common.{◌∙◌, length, sym, ap}
use Rattle.multimap_walks.proofs.Callers.Chains.{length-left}
use Rattle.multimap_walks.proofs.chain.EntryValuesExactSizeIterator.len.Goals as goal

pub returns-clause-value : goal.returns-clause-value
returns-clause-value g c =
    let i = c.self.inside in
    sym (length-left i.values.now.list i.detached i.left.first i.left.last i.left.length c.self.invariant)
    ∙ ap (λ w. length w.left) c.self.view_is
