use Rattle.std.proofs.Common.{◌∙◌, Some, sym, subst}
use Rattle.multimap_walks.specs.Chained.{pair_at, pairs_of}
use Rattle.ordered_multimap.specs.IntoIters.{HandsOut}
use Rattle.ordered_multimap.proofs.Walks.TakenApart.{hands_out}
use Rattle.ordered_multimap.proofs.Remove.AtEnds.{end_listed, none_at_end}
use Rattle.ordered_multimap.proofs.list_ordered_multimap.into_iter.IntoIter.hand_out.Goals as goal

pub give_pair-requires : goal.give_pair-requires
give_pair-requires g c = record {
  listed = end_listed c.args.end c.self.inside.values.list.order _ (sym c.place_at_end.ensures ∙ c.in-Some.is);
  sound = c.len-values.ensures.sound;
  counted = c.self.invariant;
}

pub invariant_of-self : goal.invariant_of-self
invariant_of-self g c = c.give_pair.ensures.counted

pub returns : goal.returns
returns g c =
    let i = c.self.inside in
    subst (λ old. HandsOut g.K.Clone.is_clone g.K.Clone.is_infallible c.args.end old (Some c.give_pair.result)
    (pairs_of c.give_pair.new.keys c.give_pair.new.values.list)) c.self.view_is
    (hands_out i.keys c.give_pair.new.keys i.values.list c.give_pair.new.values.list _ g.K.Clone.is_clone g.K.Clone.is_infallible c.args.end
    c.len-values.ensures.sound.distinct c.give_pair.ensures.pairs (sym c.place_at_end.ensures ∙ c.in-Some.is) c.give_pair.result
    c.give_pair.ensures.handed)

pub returns-in_default : goal.returns-in_default
returns-in_default g c =
    let i = c.self.inside in
    let none = sym c.self.view_is ∙ none_at_end (pair_at i.keys i.values.list) c.args.end i.values.list.order
    (sym c.place_at_end.ensures ∙ c.in_default.is) in
    (none, none)
