use Rattle.std.proofs.Common.{◌≡◌, ℕ, Option, None, Some, IsSome, refl, sym, ap, arith}
use Rattle.multimap_walks.specs.declared.End.TheVariants.{Front, Back}
use Rattle.multimap_walks.proofs.Callers.Along.{end_listed, neighbour_stands}
use Rattle.multimap_walks.proofs.left.SlotListOrdered.beyond.Goals as goal

-- the place that is told is the one that is there
the_one : (o : Option ℕ) (place : ℕ) → IsSome o → ((p : ℕ) → o ≡ Some p → place ≡ p) → o ≡ Some place
the_one None place some told = absurd (let bad = some in cc)
the_one (Some p) place some told = ap Some (sym (told p refl))

pub following_listed_place-requires : goal.following_listed_place-requires
following_listed_place-requires g c =
    end_listed c.args.self.now.order c.args.left (omega (arith, c.if-left-eq0.false)) c.requires Front

pub preceding_listed_place-requires : goal.preceding_listed_place-requires
preceding_listed_place-requires g c =
    end_listed c.args.self.now.order c.args.left (omega (arith, c.if-left-eq0.false)) c.requires Back

pub returns-in-Back-clause-beyond : goal.returns-in-Back-clause-beyond
returns-in-Back-clause-beyond g c more =
    rw c.in-Back.is
    (the_one _ c.preceding_listed_place.result
    (neighbour_stands c.args.self.now.order c.args.left (omega (arith, c.if-left-eq0.false)) c.requires Back (omega (arith, more)))
    c.preceding_listed_place.ensures)
