use Rattle.std.proofs.Common.{ap, refl}
use Rattle.std.proofs.Math.Seq.{map-set_same}
use Rattle.multimap_slots.proofs.Nodes.OneField.{IsMoved-field, IsMoved-first}
use Rattle.multimap_slots.proofs.order.write.set_next.Goals as goal

pub returns-in-Some : goal.returns-in-Some
returns-in-Some g c =
    let within = rw (← c.in-Some.ensures.place) at c.requires in
    record {
      items = record {
        nexts = rw (← c.in-Some.ensures.place) (IsMoved-field (λ n. n.next) _ _ _ _ within);
        previouses = map-set_same _ _ _ _ _ (ap (λ n. n.standing.previous) c.index_mut-node.ensures.value);
        states = map-set_same _ _ _ _ _ (ap (λ n. n.standing.state) c.index_mut-node.ensures.value);
        links = map-set_same _ _ _ _ _ (ap (λ n. n.link) c.index_mut-node.ensures.value);
      };
      capacity = refl;
    }

pub returns-in-None : goal.returns-in-None
returns-in-None g c =
    record {
      items = rw (← c.in-None.ensures.place) (record {
        nexts = IsMoved-first _ _
            _;
        previouses = refl;
        states = refl;
        links = refl;
      });
      capacity = refl;
    }
