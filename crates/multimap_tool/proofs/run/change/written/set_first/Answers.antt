use Rattle.std.proofs.Common.{◌≡◌, OnSome, Some, None, slice_get, subst, sym, ap, ◌∙◌, inl, rules}
use Rattle.ordered_multimap.specs.Changes.{first_written}
use Rattle.ordered_multimap.specs.Pairs.{values_of}
use Rattle.ordered_multimap.specs.Writes.{IsWritten}
use Rattle.ordered_multimap.proofs.Callers.Writes.{first_written-absent}
use Rattle.multimap_tool.proofs.run.change.written.set_first.Goals as goal

pub returns-in-Some : goal.returns-in-Some
returns-in-Some g c =
    let m = c.args.map.now in let eq = g.K.PartialEq.eq in let k = c.args.key.now in let w = c.replace.new.dest in
    let written : IsWritten m (c.get_mut.follows.lender w) (first_written eq m.lists k w) =
    subst (λ o. OnSome o (IsWritten m (c.get_mut.follows.lender w) (first_written eq m.lists k w))) c.in-Some.is
    (c.get_mut.follows.holds w) in
    let value : Some c.in-Some.first.now ≡ slice_get (values_of eq m.lists.pairs k) 0 = (c.in-Some.ensures {u = tt}).value in
    record {
      step = inl (ap Some c.replace.ensures.value ∙ value, written.lists ∙ ap (first_written eq m.lists k) c.replace.ensures.after);
      rooms = search (rules);
      finds_room = tt;
      makes_room = tt;
    }

pub returns-in-None : goal.returns-in-None
returns-in-None g c =
    let m = c.args.map.now in let eq = g.K.PartialEq.eq in let k = c.args.key.now in
    let none : None ≡ slice_get (values_of eq m.lists.pairs k) 0 = (c.in-None.ensures {u = tt}).value in
    record {
      step = inl (
        none,
        ap (λ n. n.lists) c.get_mut.follows.holds-at-none ∙ sym (first_written-absent eq m.lists k c.args.value (sym none)),
      );
      rooms = search rules;
      finds_room = tt;
      makes_room = tt;
    }
