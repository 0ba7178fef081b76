use Rattle.std.proofs.Common.{inl, rules}
use Rattle.ordered_multimap.proofs.Callers.Retained.{Retains-same}
use Rattle.multimap_tool.proofs.run.retain.Goals as goal

pub returns : goal.returns
returns g c =
    let r = c.retain.ensures in
    record {
      step = inl (
        tt,
        record {
          keys = r.keys;
          pairs = Retains-same _ (g.F.Keep.answers c.args.keep.now c.args.operand) _
              (λ k v b w f' t. (search rules, search rules)) _ _ _ r.retained.1;
        },
      );
      rooms = search rules;
      finds_room = tt;
      makes_room = tt;
    }
