use Rattle.std.proofs.Common.{None, ap, get_or, refl, set, ◌∙◌}
use Rattle.std.proofs.lemmas.List.{get_or-set_other, map-set}
use Rattle.std.proofs.Math.Seq.{map-set_same}
use Rattle.multimap_slots.specs.Private.ListLayout.{states}
use Rattle.multimap_slots.proofs.order.write.set_detached.Goals as goal

pub returns : goal.returns
returns g c = record {
  items = record {
    nexts = map-set_same _ _ _ _ _ (ap (λ n. n.next) c.index_mut-node.ensures.value);
    previouses = λ q other. ap (λ ps. get_or ps q None) (map-set _ _ _ _) ∙ get_or-set_other _ c.args.place q _ None other;
    states = map-set _ _ _ _ ∙ ap (set (states c.args.nodes.now.items) c.args.place) c.detached-node.ensures;
    links = map-set_same _ _ _ _ _ (ap (λ n. n.link) c.index_mut-node.ensures.value);
  };
  capacity = refl;
}
