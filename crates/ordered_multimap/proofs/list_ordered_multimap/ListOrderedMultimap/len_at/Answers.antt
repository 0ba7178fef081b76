use Rattle.std.proofs.Common.{◌≡◌, arith, length, sym, subst}
use Rattle.ordered_multimap.specs.Agrees.{HasKey}
use Rattle.ordered_multimap.specs.Pairs.{values_of}
use Rattle.ordered_multimap.proofs.Append.Inserted.{chain_some}
use Rattle.ordered_multimap.proofs.Agreement.LookUps.{count_of_values}
use Rattle.ordered_multimap.proofs.list_ordered_multimap.ListOrderedMultimap.len_at.Goals as goal

pub returns-clause-len : goal.returns-clause-len
returns-clause-len g c =
    subst (λ m. (k : g.row.K.Denot) → HasKey g.K.PartialEq.eq m.slots.keys k c.args.place
    → c.listed_link-link.result.length ≡ length (values_of g.K.PartialEq.eq m.lists.pairs k)) c.self.view_is
    (λ k has. sym (count_of_values g.met.K.Eq.laws c.self.invariant.agrees k c.args.place c.listed_link-link.result has c.listed_link-link.ensures.link_is))

pub returns-clause-some : goal.returns-clause-some
returns-clause-some g c =
    let a = c.self.invariant.agrees in
    let listed = c.listed_link-link.ensures.listed in
    omega (
      arith,
      chain_some a.keys_sound a.chained c.args.place listed,
      a.chained.length c.args.place c.listed_link-link.result listed
          c.listed_link-link.ensures.link_is,
    )
