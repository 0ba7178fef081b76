use Rattle.std.proofs.Common.{ap, sym, ◌∙◌}
use Rattle.ordered_multimap.specs.Pairs.{values_of}
use Rattle.ordered_multimap.proofs.KeySorts.Mapped.{answers_now}
use Rattle.ordered_multimap.proofs.list_ordered_multimap.sort.cached.fn.ListOrderedMultimap+K+V+S.places_by_cached_key.sort_by_cached_key.Goals as goal

pub returns : goal.returns
returns g c = λ key answers first is k k_is.
    let called = (g.met.F.FnMut.1.post_iff _ _ _).0 c.f.ensures in
    let entry = c.entry_or-values.ensures in
    answers_now g.F.Fn _ called.1 answers ∙ ap (key c.entry_or-values.result.0.now) entry.values
    ∙ ap (λ j. key j (values_of g.K.PartialEq.eq c.captures.self.now.lists.pairs j)) (entry.key first is ∙ sym k_is)
