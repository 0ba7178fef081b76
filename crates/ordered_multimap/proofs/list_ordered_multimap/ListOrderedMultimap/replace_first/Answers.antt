use Rattle.std.proofs.Common.{◌≡◌, Some, slice_get, subst}
use Rattle.ordered_multimap.specs.Agrees.{HasKey, lists_of}
use Rattle.ordered_multimap.specs.Changes.{first_written}
use Rattle.ordered_multimap.specs.Pairs.{values_of}
use Rattle.ordered_multimap.proofs.Agreement.LookUps.{first_value, head_listed}
use Rattle.ordered_multimap.proofs.Update.FirstValue.{lists_of-rewritten, map-rewritten}
use Rattle.ordered_multimap.proofs.list_ordered_multimap.ListOrderedMultimap.replace_first.Goals as goal

pub replace_value-requires : goal.replace_value-requires
replace_value-requires g c =
    head_listed g.met.K.Eq.laws c.self.invariant.agrees c.args.place c.listed_link-link.result c.listed_link-link.ensures.listed c.listed_link-link.ensures.link_is

pub invariant_of-self : goal.invariant_of-self
invariant_of-self g c =
    map-rewritten g.met.K.Eq.laws c.self.invariant c.args.place c.listed_link-link.result c.args.value c.listed_link-link.ensures.listed c.listed_link-link.ensures.link_is c.replace_value.ensures.written

pub returns-clause-value : goal.returns-clause-value
returns-clause-value g c =
    subst (λ m. (k : g.row.K.Denot) → HasKey g.K.PartialEq.eq m.slots.keys k c.args.place
    → slice_get (values_of g.K.PartialEq.eq m.lists.pairs k) 0 ≡ Some c.replace_value.result) c.self.view_is
    (λ k has. first_value g.met.K.Eq.laws c.self.invariant.agrees k c.args.place c.listed_link-link.result c.replace_value.result has
    c.listed_link-link.ensures.link_is c.replace_value.ensures.old)

pub returns-clause-lists : goal.returns-clause-lists
returns-clause-lists g c =
    let eq = g.K.PartialEq.eq in
    subst (λ m. (k : g.row.K.Denot) → HasKey eq m.slots.keys k c.args.place
    → lists_of c.self.inside.keys c.replace_value.new.values.list ≡ first_written eq m.lists k c.args.value) c.self.view_is
    (λ k has. lists_of-rewritten g.met.K.Eq.laws c.self.invariant c.args.place c.listed_link-link.result c.args.value c.listed_link-link.ensures.listed
    c.listed_link-link.ensures.link_is c.replace_value.ensures.written k has)
