use Rattle.std.proofs.Common.{◌≡◌, Bool, rules, of_calls, subst}
use Rattle.ordered_multimap.specs.Retain.{Retains}
use Rattle.set_ordered_multimap.proofs.Retained.{callable, IsDistinct-retained, Retains-seen}
use Rattle.set_ordered_multimap.specs.Set.{IsSet, same_pair}
use Rattle.set_ordered_multimap.specs.SetChanges.{LosesPairs}
use Rattle.set_ordered_multimap.proofs.set.SetOrderedMultimap.retain_by.Goals as goal

pub retain-requires : goal.retain-requires
retain-requires g c =
    callable _ _ (λ f. g.P.Keep.lasts f.0) (λ f k v held. search (rules, of_calls))
    (λ f k v b w h held t. search (rules, of_calls)) _ _ c.requires

pub returns-clause-retained : goal.returns-clause-retained
returns-clause-retained g c =
    let r = c.retain.ensures.retained in
    let told : g.row.P.Denot → g.row.K.Denot → g.row.V.Denot → Bool → g.row.V.Denot → g.row.P.Denot → Type 0
    = λ p k v b w q. g.P.Keep.gives p k v b q × (w ≡ v) in (
      r.0.0,
      subst (λ m. Retains told c.args.keep m.lists.pairs c.retain.new.self.lists.pairs r.0.0) c.self.view_is
          (Retains-seen _ told (λ f. f.0) (λ f k v b w h t. search (rules, of_calls)) _ _ _ _ r.1),
    )

pub returns-clause-loses : goal.returns-clause-loses
returns-clause-loses g c =
    let eq = g.K.PartialEq.eq in let value_eq = g.V.PartialEq.eq in let e = c.retain.ensures in
    subst (λ m. LosesPairs eq value_eq m c.retain.new.self) c.self.view_is (record {
      keys = e.keys;
      set = λ set. IsDistinct-retained _ (λ f k v b w h t. t.1) (same_pair eq value_eq) _ _ _ _ (returns-clause-retained g c).1
          (subst (λ m. IsSet eq value_eq m.lists) c.self.view_is set);
      rooms = e.rooms;
      taken = e.taken;
      fewer = e.fewer;
    })
