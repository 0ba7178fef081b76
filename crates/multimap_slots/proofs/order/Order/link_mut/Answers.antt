use Rattle.std.proofs.Common.{refl, arith}
use Rattle.std.proofs.lemmas.List.{map-set}
use Rattle.multimap_slots.proofs.Nodes.OneField.{link_read, nexts-relink, states-relink}
use Rattle.multimap_slots.proofs.Nodes.Linked.{listed-within, IsOrdered-relink}
use Rattle.multimap_slots.proofs.order.Order.link_mut.Goals as goal

pub index_mut-requires : goal.index_mut-requires
index_mut-requires g c =
    omega (arith, c.self.inside.nodes.ok, listed-within c.self.invariant c.args.place (rw (← c.self.view_is) at c.requires))

pub invariant_of-self-lent : goal.invariant_of-self-lent
invariant_of-self-lent g c w =
    IsOrdered-relink c.args.place c.index_mut.result.now w c.index_mut.ensures.value c.self.invariant

pub returns : goal.returns
returns g c =
    let within = listed-within c.self.invariant c.args.place (rw (← c.self.view_is) at c.requires) in
    let read = c.index_mut.ensures.value in (
      (
        refl,
        λ w. rw (
          ← c.self.view_is,
          nexts-relink c.self.inside.nodes.items c.args.place c.index_mut.result.now w read,
          states-relink
              c.self.inside.nodes.items c.args.place c.index_mut.result.now w read,
          map-set,
        ),
      ),
      record {
        writes_back = tt;
        value = rw (← c.self.view_is) (link_read c.self.inside.nodes.items c.args.place c.index_mut.result.now within read);
      },
    )
