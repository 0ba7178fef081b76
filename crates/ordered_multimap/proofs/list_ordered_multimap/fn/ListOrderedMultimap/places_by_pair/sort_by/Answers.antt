use Rattle.std.proofs.Common.{◌∙◌}
use Rattle.ordered_multimap.proofs.KeySorts.Mapped.{answers_now}
use Rattle.ordered_multimap.proofs.list_ordered_multimap.fn.ListOrderedMultimap.places_by_pair.sort_by.Goals as goal

pub returns : goal.returns
returns g c = λ lt answers p is.
    let called = (g.met.F.FnMut.1.post_iff _ _ _).0 c.cmp.ensures in
    answers_now g.F.Fn _ called.1 answers ∙ (λ i. lt (c.pair_or.ensures p is i) (c.pair_or-2.ensures p is i))
