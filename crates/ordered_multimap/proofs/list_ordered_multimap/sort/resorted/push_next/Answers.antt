use Rattle.std.proofs.Common.{List, ℕ, sym, ◌∙◌, subst, arith}
use Rattle.multimap_walks.specs.Chained.{chain_of}
use Rattle.ordered_multimap.specs.Private.Append.{PushesValue}
use Rattle.ordered_multimap.proofs.PairSorts.Begun.{IsNextLink, first_link, last_listed, next_link, shorter_chain}
use Rattle.ordered_multimap.proofs.list_ordered_multimap.sort.resorted.push_next.Goals.{in-Some, in-None}
use Rattle.ordered_multimap.proofs.list_ordered_multimap.sort.resorted.push_next.Goals as goal

pub push_value-last-requires-clause-tail : goal.push_value-last-requires-clause-tail
push_value-last-requires-clause-tail g c =
    λ q is. last_listed c.args.values.now.list c.args.place q (sym c.last_value_of-tail.ensures ∙ is)

pub overflow_add-link : goal.overflow_add-link
overflow_add-link g c =
    let count = c.requires.begun.length c.listed_link-link.result c.in-Some.field-0 c.listed_link-link.ensures.link_is
    (sym c.last_value_of-tail.ensures ∙ c.in-Some.is) in
    let p = c.push_value-last.ensures in
    omega (arith, count, shorter_chain c.args.values.now.list c.args.place c.push_value-last.result p.pushed.order, p.last.counted)

pub returns-clause-pushed : goal.returns-clause-pushed
returns-clause-pushed g c =
    let values = c.args.values.now.list in
    let chain : List ℕ = chain_of values c.args.place in
    let was = c.listed_link-link.result in
    let last = c.push_value-last.result in
    let begun = c.requires.begun in
    let link_was = c.listed_link-link.ensures.link_is in
    let tail_is = c.last_value_of-tail.ensures in
    let p = c.push_value-last.ensures in
    let next : IsNextLink chain last was c.match-tail.link = elim c.match-tail.branch [
      | in-Some w ↦
          let behind = sym tail_is ∙ w.in-Some.is in
          subst (IsNextLink chain last was) (sym w.link-is)
          (next_link last (begun.head was w.in-Some.field-0 link_was behind) (begun.length was w.in-Some.field-0 link_was behind))
      | in-None w ↦
          subst (IsNextLink chain last was) (sym (w.link-is ∙ w.new_link-link.ensures)) (first_link last (sym tail_is ∙ w.in-None.is))
    ] in
    record {
      was = was;
      link = c.match-tail.link;
      last = last;
      link_was = link_was;
      keys_are = c.set_link.ensures;
      hash = next.hash;
      head = next.head;
      tail = next.tail;
      length = next.count;
      pushed = subst (PushesValue values c.push_value-last.new.values.list last c.args.value c.args.place) tail_is p.pushed;
      sound = p.last.sound;
    }
