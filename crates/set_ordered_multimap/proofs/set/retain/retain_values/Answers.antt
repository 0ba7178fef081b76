use Rattle.std.proofs.Common.{rules, of_calls}
use Rattle.set_ordered_multimap.proofs.Retained.{Retains-seen, asks_seen, callable_values}
use Rattle.set_ordered_multimap.specs.Asked.{AsksOfAccepted}
use Rattle.set_ordered_multimap.proofs.set.retain.retain_values.Goals as goal

pub retain_all-requires : goal.retain_all-requires
retain_all-requires g c =
    callable_values _ (λ f. g.P.KeepValue.lasts f.0) (λ f v held. search (rules, of_calls))
    (λ f v b w h held t. search (rules, of_calls)) _ _ c.requires

pub returns-clause-retained : goal.returns-clause-retained
returns-clause-retained g c =
    let r = c.retain_all.ensures.retained in let accepts = g.Q.OfKey.accepts c.args.key in (
      r.0.0,
      Retains-seen _ (AsksOfAccepted g.P.KeepValue.gives accepts) (λ f. f.0)
          (λ f k v b w h t. asks_seen _ g.P.KeepValue.gives (λ f. f.0)
          (λ f v b w h t. search (rules, of_calls)) (accepts k) f v b w h t) _ _ _ _ r.1,
    )
