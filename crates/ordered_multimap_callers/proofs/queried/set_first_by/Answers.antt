use Rattle.std.proofs.Common.{◌≡◌, OnSome, None, slice_get, subst, sym, ap, ◌∙◌}
use Rattle.std.specs.Option.{option_copied_mut}
use Rattle.ordered_multimap.specs.Changes.{first_written_where}
use Rattle.ordered_multimap.specs.Pairs.{values_where}
use Rattle.ordered_multimap.specs.Writes.{IsWritten}
use Rattle.ordered_multimap.proofs.Callers.Writes.{first_written-none}
use Rattle.ordered_multimap_callers.proofs.queried.set_first_by.Goals as goal

pub returns-in-Some-clause-lists : goal.returns-in-Some-clause-lists
returns-in-Some-clause-lists g c =
    let m = c.args.map.now in let accepts = g.Q.KeyQuery.equivalent c.args.query in let w = c.replace.new.dest in
    let written : IsWritten m (c.get_mut.follows.lender w) (first_written_where accepts m.lists w) =
    subst (λ o. OnSome o (IsWritten m (c.get_mut.follows.lender w) (first_written_where accepts m.lists w))) c.in-Some.is
    (c.get_mut.follows.holds w) in
    written.lists ∙ ap (first_written_where accepts m.lists) c.replace.ensures.after

pub returns-in-None-clause-lists : goal.returns-in-None-clause-lists
returns-in-None-clause-lists g c =
    let m = c.args.map.now in let accepts = g.Q.KeyQuery.equivalent c.args.query in
    let none : slice_get (values_where accepts m.lists.pairs) 0 ≡ None =
    sym (subst (λ o. option_copied_mut o ≡ slice_get (values_where accepts m.lists.pairs) 0) c.in-None.is c.get_mut.ensures.value) in
    ap (λ n. n.lists) c.get_mut.follows.holds-at-none ∙ sym (first_written-none accepts m.lists c.args.value none)
