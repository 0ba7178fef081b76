use Rattle.std.proofs.Common.{Some, arith, subst}
use Rattle.multimap_walks.specs.ChainWalk.{ChainWalk, GivesEnd, chain_walk}
use Rattle.multimap_walks.proofs.Callers.Chains.{end_stands, chain_leaves, gives_end, steps_to}
use Rattle.multimap_walks.proofs.chain.EntryValues.step.Goals as goal

pub chained_at-requires : goal.chained_at-requires
chained_at-requires g c =
    let i = c.self.inside in
    rw c.place_at-place.ensures (end_stands i.values.now.list i.detached i.left (omega arith) c.self.invariant c.args.end)

pub invariant_of-self : goal.invariant_of-self
invariant_of-self g c =
    let i = c.self.inside in
    let link = rw c.place_at-place.ensures at c.chained_at.ensures.link in
    rw c.after-self-inside.ensures
    (chain_leaves i.values.now.list i.detached i.left (omega arith) c.self.invariant c.args.end _ c.chained_at.result.1 link
    (steps_to c.unwrap_or.ensures c.step_from.ensures))

pub returns : goal.returns
returns g c =
    let i = c.self.inside in
    let values = i.values.now.list in
    let at = c.chained_at in
    let rest = c.after-self-inside.result in
    let link = rw c.place_at-place.ensures at at.ensures.link in
    let item = rw c.place_at-place.ensures at at.ensures.item in
    let new : ChainWalk g.row.V.Denot = chain_walk values i.detached rest.first rest.length at.new.reads in
    let given : GivesEnd c.args.end (chain_walk values i.detached i.left.first i.left.length i.reads) (Some at.result.0) new =
    rw c.after-self-inside.ensures
    (gives_end values i.detached i.left (omega arith) c.self.invariant c.args.end _ at.result.1 link
    (steps_to c.unwrap_or.ensures c.step_from.ensures) at.result.0 i.reads at.new.reads item at.ensures.counted) in
    subst (λ old. GivesEnd c.args.end old (Some at.result.0) new) c.self.view_is given
