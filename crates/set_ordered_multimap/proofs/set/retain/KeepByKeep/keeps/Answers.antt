use Rattle.std.proofs.Common.{refl, subst}
use Rattle.set_ordered_multimap.specs.Asked.{AskedOnPair}
use Rattle.set_ordered_multimap.proofs.set.retain.KeepByKeep.keeps.Goals as goal

pub returns-clause-gives : goal.returns-clause-gives
returns-clause-gives g c =
    let t : AskedOnPair g.F.FnMut c.self.inside.keep c.args.key.now c.args.value.now c.call_mut.result c.call_mut.new.self =
    record { key = _; value = _; shows = (refl, refl); called = c.call_mut.ensures } in
    subst (λ f. AskedOnPair g.F.FnMut f c.args.key.now c.args.value.now c.call_mut.result c.call_mut.new.self) c.self.view_is t
