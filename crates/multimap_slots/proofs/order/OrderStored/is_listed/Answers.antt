use Rattle.std.proofs.Common.{arith, inl, inr, refl, sym, ◌∙◌}
use Rattle.multimap_slots.proofs.Nodes.Linked.{split_at, split_within, state_tells}
use Rattle.multimap_slots.proofs.order.OrderStored.is_listed.Goals as goal

pub returns-then-place-len : goal.returns-then-place-len
returns-then-place-len g c = (
  λ e. absurd (cc),
  λ i. absurd (omega (
    arith,
    c.if-place-len.true,
    c.self.inside.nodes.ok,
    c.len.ensures,
    split_within c.self.invariant
        (split_at c.self.invariant c.args.place (rw (← c.self.view_is) at i)),
  )),
)

pub returns-in-Listed : goal.returns-in-Listed
returns-in-Listed g c = (
  λ _. rw (← c.self.view_is) ((state_tells c.self.invariant c.args.place c.index.result.now
      (omega (arith, c.self.inside.nodes.ok)) c.index.ensures).1 (sym c.state.ensures ∙ c.in-Listed.is)),
  λ _. refl,
)

pub returns-in-Detached : goal.returns-in-Detached
returns-in-Detached g c = (
  λ e. absurd (cc),
  λ i. absurd (
      let listed = (state_tells c.self.invariant c.args.place c.index.result.now (omega (arith, c.self.inside.nodes.ok)) c.index.ensures).0
      (rw (← c.self.view_is) at i) in
      elim c.in-Detached.is [
        | inl e ↦ let bad = sym e ∙ c.state.ensures ∙ listed in cc
        | inr e ↦ let bad = sym e ∙ c.state.ensures ∙ listed in cc
      ]),
)
