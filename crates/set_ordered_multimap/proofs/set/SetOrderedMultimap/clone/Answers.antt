use Rattle.std.proofs.Common.{Ok, refl, subst}
use Rattle.set_ordered_multimap.proofs.Callers.Sets.{IsSet-cloned}
use Rattle.set_ordered_multimap.specs.SetClones.{ClonesSet}
use Rattle.set_ordered_multimap.proofs.set.SetOrderedMultimap.clone.Goals as goal

pub returns : goal.returns
returns g c =
    let key_clone = g.K.Clone.is_clone in let value_clone = g.V.Clone.is_clone in
    let e = c.in_ok-map.ensures in
    record {
      clones =
          subst
          (λ m. ClonesSet g.K.PartialEq.eq g.V.PartialEq.eq key_clone value_clone g.S.Clone.is_clone g.S.Clone.is_infallible m
          (Ok c.in_ok-map.map))
          c.self.view_is
          (record {
            ok = record {
              lists = e.clones;
              set = λ equal set. IsSet-cloned g.met.K.Eq.laws g.met.V.Eq.laws key_clone value_clone equal c.self.inside.map.lists
                  c.in_ok-map.map.lists e.clones set;
              same = e.lists;
              hasher = e.hasher;
              unused = e.unused;
            };
            succeeds = λ _ _. refl;
          });
    }
