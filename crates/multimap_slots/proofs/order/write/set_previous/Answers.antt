use Rattle.std.proofs.Common.{ap, arith, refl, sym, ◌∙◌}
use Rattle.std.proofs.Math.Seq.{map-set_same}
use Rattle.multimap_slots.specs.declared.order.node.State.TheVariants.{Free}
use Rattle.multimap_slots.proofs.Nodes.OneField.{IsMoved-field, IsMoved-first, field_read, within_listed}
use Rattle.multimap_slots.proofs.order.write.set_previous.Goals as goal

pub index_mut-node-requires : goal.index_mut-node-requires
index_mut-node-requires g c =
    omega (arith, c.args.nodes.now.ok, within_listed _ c.in-Some.place (rw (← c.in-Some.ensures.place) at c.requires.listed))

pub returns-in-Some : goal.returns-in-Some
returns-in-Some g c =
    let listed = rw (← c.in-Some.ensures.place) at c.requires.listed in
    let within = within_listed c.args.nodes.now.items c.in-Some.place listed in
    let node = c.index_mut-node.ensures.value in
    let state_is = field_read (λ n. n.standing.state) c.args.nodes.now.items c.in-Some.place c.index_mut-node.result.now Free within node in
    record {
      items = record {
        previouses = rw (← c.in-Some.ensures.place, ← ap (λ s. s.previous) c.listed-node.ensures)
            (IsMoved-field (λ n. n.standing.previous) _ _ _ _ within);
        nexts = map-set_same _ _ _ _ _ (ap (λ n. n.next) node);
        states = map-set_same _ _ _ _ _
            (ap (λ s. s.state) c.listed-node.ensures ∙ sym (state_is ∙ listed) ∙ ap (λ n. n.standing.state) node);
        links = map-set_same _ _ _ _ _ (ap (λ n. n.link) node);
      };
      capacity = refl;
    }

pub returns-in-None : goal.returns-in-None
returns-in-None g c =
    record {
      items = rw (← c.in-None.ensures.place) (record {
        previouses = IsMoved-first _ _
            _;
        nexts = refl;
        states = refl;
        links = refl;
      });
      capacity = refl;
    }
