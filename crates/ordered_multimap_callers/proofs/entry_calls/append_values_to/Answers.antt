use Rattle.std.proofs.Common.{◌≡◌, List, [], ◌∷◌, ◌++◌, subst, sym}
use Rattle.std.proofs.lemmas.Iterator.{YieldsList}
use Rattle.std.proofs.lemmas.Iterator.Consumers.{YieldsList-from_rest}
use Rattle.std.specs.Iterator.{Yields}
use Rattle.std.specs.Map.Iter.{TakesFirst}
use Rattle.ordered_multimap.specs.AppendMany.{under_key}
use Rattle.ordered_multimap.specs.Changes.{all_appended}
use Rattle.ordered_multimap.specs.Pairs.{all_values}
use Rattle.ordered_multimap_callers.proofs.GivenLemmas.{count_all, of_all}
use Rattle.ordered_multimap_callers.proofs.entry_calls.append_values_to.Given.{Over}
use Rattle.ordered_multimap_callers.proofs.entry_calls.append_values_to.Goals.{After-append_many}
use Rattle.ordered_multimap_callers.proofs.entry_calls.append_values_to.Goals as goal

-- the iterator gave all values of the other map
yields : (g : Over) (c : After-append_many g)
    → YieldsList (TakesFirst (λ v. v)) (λ v. v) c.append_many.ensures.appended.0 (all_values c.args.other.lists.pairs)
yields g c =
    subst (λ (it : List g.row.V.Denot). YieldsList (TakesFirst (λ v. v)) (λ v. v) it (all_values c.args.other.lists.pairs))
    (sym c.append_many.ensures.appended.1) (YieldsList-from_rest (all_values c.args.other.lists.pairs) c.into_values.ensures)

-- what comes back where memory was refused
abbrev Stops : (g : Over) (c : After-append_many g) → g.row.V.Denot → Type 0
Stops g c value =
    let a = c.append_many.ensures.appended in
    (t : List g.row.V.Denot) × Yields (TakesFirst (λ v. v)) a.0 (a.2.given ++ value ∷ []) t

pub returns-clause-lists : goal.returns-clause-lists
returns-clause-lists g c = λ k own.
    let a = c.append_many.ensures.appended in
    of_all a.2.given (λ refused. Stops g c refused.value) c.append_many.result
    (λ values. c.append_many.new.self.map.now.lists ≡ all_appended g.K.PartialEq.eq c.args.entry.now.map.now.lists (under_key k values))
    a.2.read (yields g c) (a.2.lists k own)

pub returns-clause-count : goal.returns-clause-count
returns-clause-count g c =
    let a = c.append_many.ensures.appended in
    count_all a.2.given (λ refused. Stops g c refused.value) c.append_many.result a.2.read (yields g c)
