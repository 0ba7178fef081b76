use Rattle.std.proofs.Common.{IfSome, subst}
use Rattle.ordered_multimap.specs.Agrees.{HasKey}
use Rattle.ordered_multimap.proofs.Agreement.AbsentKeys.{inserted_new, inserted_there}
use Rattle.ordered_multimap.proofs.list_ordered_multimap.ListOrderedMultimap.insert.Goals as goal

pub returns-in_default-clause-ok : goal.returns-in_default-clause-ok
returns-in_default-clause-ok g c =
    inserted_new g.met.K.Eq.laws (rw c.in_default.is at c.look_up-hash.ensures.absent) (c.in_ok-append_new.ensures {u = tt}).appends.ok

pub returns-clause-ok : goal.returns-clause-ok
returns-clause-ok g c =
    let has = subst (λ o. IfSome o (HasKey g.K.PartialEq.eq c.args.self.now.slots.keys c.args.key)) c.in-Some.is
    c.look_up-hash.ensures.found in
    inserted_there (c.insert_at.ensures.inserted c.args.key has) c.insert_at.ensures.stays.rooms
