use Rattle.std.proofs.Common.{IsSome, refl, rules}
use Rattle.ordered_multimap.specs.Private.Relocations.{relocated, relocated_key}
use Rattle.ordered_multimap.proofs.Compact.Relinked.{with_link-again}
use Rattle.ordered_multimap.proofs.list_ordered_multimap.compact.relink_ends.Goals as goal

pub returns-then-is_some-2 : goal.returns-then-is_some-2
returns-then-is_some-2 g c =
    let back : IsSome c.args.link.previous = search rules in
    let forth : IsSome c.args.link.next = search rules in
    record {
      relinked = λ l is. with_link-again _ c.args.link.key l (relocated_key (relocated c.args.from c.args.to) l) is
          (c.requires.between back forth l is);
      capacity = refl;
    }
