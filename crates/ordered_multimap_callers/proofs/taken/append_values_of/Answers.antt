use Rattle.std.proofs.Common.{◌≡◌, List, subst, sym}
use Rattle.std.proofs.lemmas.Iterator.{YieldsList}
use Rattle.std.proofs.lemmas.Iterator.Consumers.{YieldsList-from_rest}
use Rattle.std.specs.Map.Iter.{TakesFirst}
use Rattle.ordered_multimap.specs.AppendMany.{StopsAtValue, under_key}
use Rattle.ordered_multimap.specs.Changes.{all_appended}
use Rattle.ordered_multimap.specs.Pairs.{all_values}
use Rattle.ordered_multimap_callers.proofs.GivenLemmas.{count_all, of_all}
use Rattle.ordered_multimap_callers.proofs.taken.append_values_of.Given.{Over}
use Rattle.ordered_multimap_callers.proofs.taken.append_values_of.Goals.{After-append_many}
use Rattle.ordered_multimap_callers.proofs.taken.append_values_of.Goals as goal

-- the iterator gave all values of the other map
yields : (g : Over) (c : After-append_many g)
    → YieldsList (TakesFirst (λ v. v)) (λ v. v) c.append_many.ensures.appended.0 (all_values c.args.other.lists.pairs)
yields g c =
    subst (λ (it : List g.row.V.Denot). YieldsList (TakesFirst (λ v. v)) (λ v. v) it (all_values c.args.other.lists.pairs))
    (sym c.append_many.ensures.appended.2) (YieldsList-from_rest (all_values c.args.other.lists.pairs) c.into_values.ensures)

pub returns-clause-lists : goal.returns-clause-lists
returns-clause-lists g c =
    let a = c.append_many.ensures.appended in
    of_all a.1 (StopsAtValue (TakesFirst (λ v. v)) c.args.key a.0 a.1) c.append_many.result
    (λ values. c.append_many.new.self.lists ≡ all_appended g.K.PartialEq.eq c.args.map.now.lists (under_key c.args.key values))
    a.4 (yields g c) a.3

pub returns-clause-count : goal.returns-clause-count
returns-clause-count g c =
    let a = c.append_many.ensures.appended in
    count_all a.1 (StopsAtValue (TakesFirst (λ v. v)) c.args.key a.0 a.1) c.append_many.result a.4 (yields g c)
