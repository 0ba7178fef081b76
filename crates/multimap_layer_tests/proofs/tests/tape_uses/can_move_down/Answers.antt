use Rattle.std.proofs.Common.{Some, None, IsTrue, sym, ◌∙◌, rules}
use Rattle.std.proofs.lemmas.Bool.{ltb-true}
use Rattle.multimap_layer_tests.proofs.TapedLemmas.{none_between}
use Rattle.multimap_layer_tests.proofs.tests.tape_uses.can_move_down.Goals as goal

pub returns-in-Some-clause-holes : goal.returns-in-Some-clause-holes
returns-in-Some-clause-holes c is =
    let listed : IsTrue c.is_listed.result = search rules in
    none_between c.args.tape.now.list.order c.args.from c.args.to c.len-len.ensures.rises (c.is_listed.ensures listed)
    (Some c.in-Some.before)
    (sym c.in-Some.is ∙ c.previous_place_before.ensures) (ltb-true c.in-Some.before c.args.to is)

pub returns-in-None-clause-holes : goal.returns-in-None-clause-holes
returns-in-None-clause-holes c is =
    let listed : IsTrue c.is_listed.result = search rules in
    none_between c.args.tape.now.list.order c.args.from c.args.to c.len-len.ensures.rises (c.is_listed.ensures listed) None
    (sym c.in-None.is ∙ c.previous_place_before.ensures) tt
