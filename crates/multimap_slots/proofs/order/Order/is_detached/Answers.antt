use Rattle.std.proofs.Common.{arith, refl, sym, ◌∙◌}
use Rattle.multimap_slots.specs.declared.order.node.State.TheVariants.{Free}
use Rattle.multimap_slots.proofs.Nodes.OneField.{field_read}
use Rattle.multimap_slots.proofs.order.Order.is_detached.Goals as goal

pub returns-in-Detached : goal.returns-in-Detached
returns-in-Detached g c = (
  λ _. rw (← c.self.view_is) (sym (field_read (λ n. n.standing.state) c.self.inside.nodes.items c.args.place c.index.result.now Free
      (omega (arith, c.self.inside.nodes.ok)) c.index.ensures) ∙ sym c.state.ensures
      ∙ c.in-Detached.is),
  λ _. refl,
)
