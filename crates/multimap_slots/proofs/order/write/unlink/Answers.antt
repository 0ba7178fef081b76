use Rattle.std.proofs.Common.{None, arith, length, ◌∙◌}
use Rattle.multimap_slots.proofs.Nodes.OneField.{field_read, within_low}
use Rattle.multimap_slots.proofs.order.write.unlink.Goals as goal

pub set_next-requires : goal.set_next-requires
set_next-requires g c =
    rw (c.previous-previous.ensures, field_read (λ n. n.standing.previous) _ _ _ None c.requires.within c.index.ensures) c.requires.before

pub set_previous-requires-clause-listed : goal.set_previous-requires-clause-listed
set_previous-requires-clause-listed g c =
    rw (c.set_next.ensures.items.states, field_read (λ n. n.next) _ _ _ None c.requires.within c.index-2.ensures) c.requires.behind

pub set_previous-requires-clause-low : goal.set_previous-requires-clause-low
set_previous-requires-clause-low g c =
    rw (c.previous-previous.ensures, field_read (λ n. n.standing.previous) _ _ _ None c.requires.within c.index.ensures)
    (within_low _ (length c.args.nodes.now.items) (omega (arith, c.args.nodes.now.ok)) c.requires.before)

pub returns : goal.returns
returns g c =
    let previous_is = c.previous-previous.ensures ∙ field_read (λ n. n.standing.previous) _ _ _ None c.requires.within c.index.ensures in
    let next_is = field_read (λ n. n.next) _ _ _ None c.requires.within c.index-2.ensures in
    record {
      items = record {
        tied = c.set_next.new.nodes.items;
        forth = rw (previous_is, next_is) at c.set_next.ensures.items;
        backward = rw (previous_is, next_is) at c.set_previous.ensures.items;
      };
      capacity = c.set_previous.ensures.capacity ∙ c.set_next.ensures.capacity;
    }
