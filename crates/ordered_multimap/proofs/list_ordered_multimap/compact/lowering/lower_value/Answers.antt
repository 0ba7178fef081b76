use Rattle.std.proofs.Common.{◌+◌, ◌∙◌, sym, ap, subst, arith}
use Rattle.multimap_slots.specs.Lists.{IsIn}
use Rattle.ordered_multimap.proofs.Compact.Lowered.{lowers-value}
use Rattle.ordered_multimap.proofs.Compact.LoweredLinks.{moved-listed, next-high}
use Rattle.ordered_multimap.proofs.list_ordered_multimap.compact.lowering.lower_value.Goals as goal

pub overflow_add-by : goal.overflow_add-by
overflow_add-by g c =
    let below = c.push_place-end.ensures.within (c.args.by + c.args.to) c.requires.listed in
    omega (arith, below, c.push_place-end.type_inv)

pub lower_previous-requires-clause-listed : goal.lower_previous-requires-clause-listed
lower_previous-requires-clause-listed g c = moved-listed c.move_down.ensures.moved

pub lower_previous-requires-clause-high : goal.lower_previous-requires-clause-high
lower_previous-requires-clause-high g c = λ l is. (c.requires.high l (sym c.move_down.ensures.moved.link_is ∙ is)).previous

pub lower_next-requires-clause-listed : goal.lower_next-requires-clause-listed
lower_next-requires-clause-listed g c =
    subst (IsIn c.args.to) (sym (ap (λ t. t.list.order) c.lower_previous.ensures.rest)) (moved-listed c.move_down.ensures.moved)

pub lower_next-requires-clause-high : goal.lower_next-requires-clause-high
lower_next-requires-clause-high g c =
    next-high c.args.by c.args.to c.move_down.ensures.moved (c.len-len.ensures.sound.linked (c.args.by + c.args.to) c.requires.listed)
    c.requires.high c.lower_previous.ensures

pub returns-clause-lowers : goal.returns-clause-lowers
returns-clause-lowers g c =
    lowers-value c.len-len.ensures.sound.distinct c.move_down.ensures.moved c.lower_previous.ensures c.lower_next.ensures

pub returns-clause-counts : goal.returns-clause-counts
returns-clause-counts g c =
    let down = c.move_down.ensures.counts in
    let previous = c.lower_previous.ensures.rest in
    let next = c.lower_next.ensures.rest in
    record {
      moved = ap (λ t. t.moved) next ∙ ap (λ t. t.moved) previous ∙ down.moved;
      freed = ap (λ t. t.freed) next ∙ ap (λ t. t.freed) previous ∙ down.freed;
      holes = ap (λ t. t.holes) next ∙ ap (λ t. t.holes) previous ∙ down.holes;
    }

pub returns-clause-capacity : goal.returns-clause-capacity
returns-clause-capacity g c =
    ap (λ t. t.list.capacity) c.lower_next.ensures.rest ∙ ap (λ t. t.list.capacity) c.lower_previous.ensures.rest
    ∙ c.move_down.ensures.capacity
