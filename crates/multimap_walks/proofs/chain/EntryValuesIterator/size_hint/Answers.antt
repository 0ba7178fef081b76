use Rattle.std.proofs.Common.{◌∙◌, length, sym, ap}
use Rattle.multimap_walks.proofs.Callers.Chains.{length-left}
use Rattle.multimap_walks.proofs.CountLemmas.{tells_length}
use Rattle.multimap_walks.proofs.chain.EntryValuesIterator.size_hint.Goals as goal

pub returns : goal.returns
returns g c =
    let i = c.self.inside in
    tells_length c.args.self.now.left i.left.length
    (sym (length-left i.values.now.list i.detached i.left.first i.left.last i.left.length c.self.invariant)
    ∙ ap (λ w. length w.left) c.self.view_is)
