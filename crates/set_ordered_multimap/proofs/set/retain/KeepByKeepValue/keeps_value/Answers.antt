use Rattle.std.proofs.Common.{refl, subst}
use Rattle.set_ordered_multimap.specs.Asked.{AskedOnValue}
use Rattle.set_ordered_multimap.proofs.set.retain.KeepByKeepValue.keeps_value.Goals as goal

pub returns-clause-gives : goal.returns-clause-gives
returns-clause-gives g c =
    let t : AskedOnValue g.F.FnMut c.self.inside.keep c.args.value.now c.call_mut.result c.call_mut.new.self =
    record { value = _; shows = refl; called = c.call_mut.ensures } in
    subst (λ f. AskedOnValue g.F.FnMut f c.args.value.now c.call_mut.result c.call_mut.new.self) c.self.view_is t
