use Rattle.std.proofs.Common.{◌+◌, ◌&&◌, not, length, sym, ap, ◌∙◌, rules}
use Rattle.std.proofs.lemmas.Map.Made.{filter_same_pairs}
use Rattle.ordered_multimap.proofs.Callers.Retained.{RetainsPairs-retains, kept-named_by}
use Rattle.ordered_multimap.specs.Changes.{kept}
use Rattle.set_ordered_multimap.proofs.Removals.{one_goes, takes_one}
use Rattle.set_ordered_multimap.proofs.set.remove.take_equal.Goals as goal

pub returns-clause-lists : goal.returns-clause-lists
returns-clause-lists g c =
    let eq = g.K.PartialEq.eq in let m = c.args.map.now.lists in let r = c.retain_all.ensures in
    let accepts = g.Q.KeyQuery.equivalent c.args.key in let is = g.V.PartialEq.eq c.args.value.now in
    let pairs = filter_same_pairs _ (λ p. not (accepts p.0 && is p.1)) _ (λ k v b w f' t. search rules) _ _
    (RetainsPairs-retains _ _ _ _ _ r.retained.1) in
    kept-named_by eq m c.retain_all.new.self.lists r.keys ∙ ap (kept eq m) pairs

pub returns-clause-taken : goal.returns-clause-taken
returns-clause-taken g c = λ set.
    let m = c.args.map.now.lists in
    let one = one_goes g.met.V.Eq.laws (g.Q.KeyQuery.equivalent c.args.key) (g.met.Q.KeyQuery.respects_eq c.args.key) m.pairs
    c.args.value.now set c.requires in
    takes_one _ _ _ _ (one ∙ ap (λ l. length l.pairs + 1) (sym (returns-clause-lists g c))) c.retain_all.ensures.taken
