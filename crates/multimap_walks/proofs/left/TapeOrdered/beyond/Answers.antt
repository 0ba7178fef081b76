use Rattle.std.proofs.Common.{arith}
use Rattle.multimap_walks.specs.declared.End.TheVariants.{Front, Back}
use Rattle.multimap_walks.proofs.Callers.Along.{end_listed, neighbour_stands}
use Rattle.multimap_walks.proofs.left.TapeOrdered.beyond.Goals as goal

pub following_listed_place-requires-clause-listed : goal.following_listed_place-requires-clause-listed
following_listed_place-requires-clause-listed g c =
    end_listed c.args.self.now.list.order c.args.left (omega (arith, c.if-left-gt1.true)) c.requires Front

pub preceding_listed_place-requires-clause-listed : goal.preceding_listed_place-requires-clause-listed
preceding_listed_place-requires-clause-listed g c =
    end_listed c.args.self.now.list.order c.args.left (omega (arith, c.if-left-gt1.true)) c.requires Back

pub preceding_listed_place-requires-clause-more : goal.preceding_listed_place-requires-clause-more
preceding_listed_place-requires-clause-more g c =
    neighbour_stands c.args.self.now.list.order c.args.left (omega (arith, c.if-left-gt1.true)) c.requires Back
    (omega (arith, c.if-left-gt1.true))
