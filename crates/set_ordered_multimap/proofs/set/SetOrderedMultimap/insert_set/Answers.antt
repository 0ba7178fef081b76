use Rattle.std.proofs.Common.{OnOk, subst}
use Rattle.set_ordered_multimap.proofs.Merged.{inserts_keep_sets, inserts_set}
use Rattle.set_ordered_multimap.specs.AppendSet.{InsertsSet}
use Rattle.set_ordered_multimap.specs.Set.{IsSet}
use Rattle.set_ordered_multimap.proofs.set.SetOrderedMultimap.insert_set.Goals as goal

pub returns-clause-ok : goal.returns-clause-ok
returns-clause-ok g c =
    let eq = g.K.PartialEq.eq in let value_eq = g.V.PartialEq.eq in let r = c.insert_map.result in let n = c.insert_map.new in
    subst (λ m. OnOk r (InsertsSet eq value_eq m n.self c.args.other.now n.other)) c.self.view_is
    (subst (λ m. OnOk r (InsertsSet eq value_eq c.self.inside.map n.self m n.other)) c.other.view_is
    (inserts_set g.met.K.Eq.laws g.met.V.Eq.laws c.self.inside.map n.self c.other.inside.map n.other r c.insert_map.ensures.ok))

pub returns-clause-set : goal.returns-clause-set
returns-clause-set g c =
    let eq = g.K.PartialEq.eq in let value_eq = g.V.PartialEq.eq in let n = c.insert_map.new in
    subst (λ m. IsSet eq value_eq m.lists → IsSet eq value_eq c.args.other.now.lists → IsSet eq value_eq n.self.lists) c.self.view_is
    (subst (λ m. IsSet eq value_eq c.self.inside.map.lists → IsSet eq value_eq m.lists → IsSet eq value_eq n.self.lists) c.other.view_is
    (inserts_keep_sets g.met.K.Eq.laws g.met.V.Eq.laws c.self.inside.map n.self c.other.inside.map n.other c.insert_map.result
    c.insert_map.ensures.ok c.insert_map.ensures.refused))
