use Rattle.std.proofs.Common.{◌≡◌, ◌++◌, ◌∷◌, [], OnSome, Some, None, slice_get, subst, sym, ap, ◌∙◌}
use Rattle.std.proofs.lemmas.Int.{to_z-of_z}
use Rattle.std.specs.Int.{w64}
use Rattle.std.specs.Option.{option_copied_mut}
use Rattle.ordered_multimap.specs.Changes.{appended, first_written}
use Rattle.ordered_multimap.specs.Pairs.{values_of}
use Rattle.ordered_multimap.specs.Writes.{IsWritten}
use Rattle.group_report.specs.Sums.{Summarizes, nothing, summary_with}
use Rattle.group_report.proofs.Steps.{summarizes-absent, summarizes-present}
use Rattle.group_report.proofs.summaries.add_value.Goals as goal

pub returns-in_ok-summary-in-Some-clause-added : goal.returns-in_ok-summary-in-Some-clause-added
returns-in_ok-summary-in-Some-clause-added g c = λ entries before.
    let eq = g.G.PartialEq.eq in let m = c.args.summaries.now in let k = c.args.group in let w = c.in_ok-summary-in-Some.field-0 in
    let written : IsWritten m (c.get_mut.follows.lender w) (first_written eq m.lists k w) =
    subst (λ o. OnSome o (IsWritten m (c.get_mut.follows.lender w) (first_written eq m.lists k w))) c.in-Some.is (c.get_mut.follows.holds w) in
    let first : slice_get (values_of eq m.lists.pairs k) 0 ≡ Some c.in-Some.summary.now =
    sym (subst (λ o. option_copied_mut o ≡ slice_get (values_of eq m.lists.pairs k) 0) c.in-Some.is c.get_mut.ensures.value) in
    subst (Summarizes eq (entries ++ (k, c.args.value) ∷ []))
    (sym (written.lists ∙ ap (first_written eq m.lists k) (c.in_ok-summary-in-Some.ensures.with
    ∙ ap (summary_with c.in-Some.summary.now) (to_z-of_z w64 c.args.value c.ranges.value))))
    (summarizes-present g.met.G.Eq.laws entries m.lists k c.args.value before c.in-Some.summary.now first)

pub returns-in_ok-append-in-None-clause-added : goal.returns-in_ok-append-in-None-clause-added
returns-in_ok-append-in-None-clause-added g c = λ entries before.
    let eq = g.G.PartialEq.eq in let m = c.args.summaries.now in let k = c.args.group in
    let none : slice_get (values_of eq m.lists.pairs k) 0 ≡ None =
    sym (subst (λ o. option_copied_mut o ≡ slice_get (values_of eq m.lists.pairs k) 0) c.in-None.is c.get_mut.ensures.value) in
    subst (Summarizes eq (entries ++ (k, c.args.value) ∷ []))
    (sym (c.in_ok-append-in-None.ensures.ok.lists
    ∙ ap (λ l. appended eq l k c.in_ok-with-in-None.field-0) (ap (λ n. n.lists) c.get_mut.follows.holds-at-none)
    ∙ ap (appended eq m.lists k) (c.in_ok-with-in-None.ensures.with
    ∙ ap (summary_with nothing) (to_z-of_z w64 c.args.value c.ranges.value))))
    (summarizes-absent g.met.G.Eq.laws entries m.lists k c.args.value before none)
