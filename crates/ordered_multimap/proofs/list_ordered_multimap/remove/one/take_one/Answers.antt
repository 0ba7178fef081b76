use Rattle.std.proofs.Common.{rules, sym, ap, ◌∙◌, subst}
use Rattle.multimap_slots.specs.Lists.{IsIn, without}
use Rattle.multimap_slots.specs.Slots.{item_at, with_link}
use Rattle.multimap_slots.specs.Tapes.{Taped}
use Rattle.multimap_walks.specs.declared.links.ValueLink.{ValueLink}
use Rattle.ordered_multimap.proofs.Append.Steps.{if_each}
use Rattle.ordered_multimap.proofs.Chains.Parts.{before_own, behind_own, before_other, behind_other, neighbours_differ}
use Rattle.ordered_multimap.proofs.list_ordered_multimap.remove.one.take_one.Goals as goal

pub set_next-requires-clause-listed : goal.set_next-requires-clause-listed
set_next-requires-clause-listed g c =
    let s = c.requires.links in
    if_each c.link_of-link.result.previous (λ q e. (before_own s.sound s.chained c.args.place c.link_of-link.result s.listed c.link_of-link.ensures.link q e).0)

pub set_previous-requires-clause-listed : goal.set_previous-requires-clause-listed
set_previous-requires-clause-listed g c =
    let s = c.requires.links in
    if_each c.link_of-link.result.next (λ q e. subst (λ (t : Taped g.row.V.Denot ValueLink). IsIn q t.list.order) (sym c.set_next.ensures.rest)
    (behind_own s.sound s.chained c.args.place c.link_of-link.result s.listed c.link_of-link.ensures.link q e).0)

pub take_listed-value-requires : goal.take_listed-value-requires
take_listed-value-requires g c = search rules

pub returns-clause-taken : goal.returns-clause-taken
returns-clause-taken g c =
    let s = c.requires.links in
    let differ = neighbours_differ s.sound s.chained c.args.place c.link_of-link.result s.listed c.link_of-link.ensures.link in
    let before_differs = before_other s.sound s.chained c.args.place c.link_of-link.result s.listed c.link_of-link.ensures.link in
    let behind_differs = behind_other s.sound s.chained c.args.place c.link_of-link.result s.listed c.link_of-link.ensures.link in
    let first = c.set_next.ensures in
    let second = c.set_previous.ensures in
    let t = c.take_listed-value.ensures.removed in
    record {
      link = c.link_of-link.result;
      key_link = c.args.key_link;
      link_is = c.link_of-link.ensures.link;
      key_link_is = s.key_link_is c.link_of-link.result c.link_of-link.ensures.link;
      more = c.requires.more;
      had =
          sym (ap (λ (v : Taped g.row.V.Denot ValueLink). item_at v.list c.args.place) second.rest
          ∙ ap (λ (v : Taped g.row.V.Denot ValueLink). item_at v.list c.args.place) first.rest)
          ∙ t.had;
      order =
          t.order
          ∙ ap (λ (v : Taped g.row.V.Denot ValueLink). without v.list.order c.args.place) second.rest
          ∙ ap (λ (v : Taped g.row.V.Denot ValueLink). without v.list.order c.args.place) first.rest;
      items = λ q differs.
          t.others.items q differs
          ∙ ap (λ (v : Taped g.row.V.Denot ValueLink). item_at v.list q) second.rest
          ∙ ap (λ (v : Taped g.row.V.Denot ValueLink). item_at v.list q) first.rest;
      before = λ q m is has. t.others.links q (before_differs q is) ∙ second.others q (differ q is) ∙ first.here q m is has;
      behind = λ q m is has. t.others.links q (behind_differs q is) ∙ second.here q m is (first.others q (λ e. differ q e is) ∙ has);
      links = λ q differs not_before not_behind. t.others.links q differs ∙ second.others q not_behind ∙ first.others q not_before;
      keys_are = c.set_link.ensures ∙ ap (with_link c.args.keys.now c.link_of-link.result.key) c.shorter_link.ensures;
      capacity =
          t.capacity
          ∙ ap (λ (v : Taped g.row.V.Denot ValueLink). v.list.capacity) second.rest
          ∙ ap (λ (v : Taped g.row.V.Denot ValueLink). v.list.capacity) first.rest;
    }

pub returns-clause-frees : goal.returns-clause-frees
returns-clause-frees g c = search rules
