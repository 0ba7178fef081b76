use Rattle.std.proofs.Common.{arith}
use Rattle.ordered_multimap.proofs.Append.Steps.{room_on, room_same}
use Rattle.ordered_multimap.proofs.Clone.Copying.{FollowsNext, copying-end, copying-start, follows_next, values-step}
use Rattle.ordered_multimap.proofs.list_ordered_multimap.clone.steps.clone_values.Given.{Over}
use Rattle.ordered_multimap.proofs.list_ordered_multimap.clone.steps.clone_values.Goals.{In-Some}
use Rattle.ordered_multimap.proofs.list_ordered_multimap.clone.steps.clone_values.Goals as goal

pub loop-following-init : goal.loop-following-init
loop-following-init g c = record {
  copying = copying-start _ _ _ _ c.front-following.ensures c.requires.no_value;
  room = room_same;
}

abbrev at : (g : Over) (c : In-Some g)
    → FollowsNext c.args.values.now.list.order c.loop-following.following c.loop-following.copies.list c.in-Some.place
at g c = follows_next c.len-len.ensures.sound.distinct c.loop-following.invariant.copying c.in-Some.place c.in-Some.is

pub next-following-requires-clause-listed : goal.next-following-requires-clause-listed
next-following-requires-clause-listed g c = (at g c).listed

pub clone_value-requires : goal.clone_value-requires
clone_value-requires g c =
    let room = c.loop-following.invariant.room in
    let a = at g (goal.at.clone_value-requires g c).In-Some in
    record {
      listed = a.listed;
      ranked = λ l is. c.requires.ranked c.in-Some.place l a.listed is;
      small = λ l is. c.requires.small c.in-Some.place l a.listed is;
      named = λ l is. c.requires.named c.in-Some.place l a.listed is;
      end_room = omega (arith, a.fewer, room.counts.holes, room.capacity, c.requires.no_hole, c.requires.room);
    }

pub loop-following-smaller : goal.loop-following-smaller
loop-following-smaller g c =
    (at g (goal.at.loop-following-smaller g c).In-Some).smaller c.next-following.result c.next-following.ensures

pub loop-following-preserved : goal.loop-following-preserved
loop-following-preserved g c =
    let w = c.loop-following.invariant in
    record {
      copying =
          values-step c.len-len.ensures.sound.distinct c.in-Some.place c.in-Some.is c.next-following.result
          c.next-following.ensures c.requires.ranks w.copying c.in_ok-clone_value.ensures.copied
          (omega (arith, w.room.counts.holes, c.requires.no_hole));
      room = room_on w.room c.clone_value.ensures.room.counts c.clone_value.ensures.room.capacity;
    }

pub returns-clause-copied : goal.returns-clause-copied
returns-clause-copied g c = copying-end c.loop-following.invariant.copying c.in_default.is
