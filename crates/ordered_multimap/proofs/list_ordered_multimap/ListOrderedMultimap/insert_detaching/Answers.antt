use Rattle.std.proofs.Common.{sym, ◌∙◌, subst}
use Rattle.ordered_multimap.specs.TapeNumbers.{TakesOut}
use Rattle.ordered_multimap.proofs.Agreement.AbsentKeys.{detaches_none, inserted_lacking}
use Rattle.ordered_multimap.proofs.list_ordered_multimap.ListOrderedMultimap.insert_detaching.Goals as goal

pub returns-in_default-clause-ok : goal.returns-in_default-clause-ok
returns-in_default-clause-ok g c =
    let n = c.detach_none.ensures in
    let a = (c.in_ok-append_new.ensures {u = tt}).appends in
    let lacks = rw c.in_default.is at c.look_up-hash.ensures.absent in
    detaches_none (g.K.PartialEq.eq c.args.key) lacks n.none (n.drain.kept.lists ∙ a.ok.lists
    ∙ inserted_lacking g.met.K.Eq.laws c.args.self.now.lists c.args.key lacks c.args.value)
    (subst (TakesOut 0 c.args.self.now.tape) (sym n.drain.kept.tape) a.ok.taken)
