use Rattle.std.proofs.Common.{length, refl, ◌∙◌, ap, arith}
use Rattle.std.proofs.lemmas.List.{length-set}
use Rattle.ordered_multimap.proofs.Clone.Copying.{FollowsNext, copying-end, copying-start, follows_next, keys-step}
use Rattle.ordered_multimap.proofs.Agreement.Rows.{rows-start, rows-step}
use Rattle.ordered_multimap.proofs.list_ordered_multimap.clone.steps.clone_keys.Given.{Over}
use Rattle.ordered_multimap.proofs.list_ordered_multimap.clone.steps.clone_keys.Goals.{In-Some}
use Rattle.ordered_multimap.proofs.list_ordered_multimap.clone.steps.clone_keys.Goals as goal

pub loop-following-init : goal.loop-following-init
loop-following-init g c = record {
  copying = copying-start _ _ _ _ c.front_place-following.ensures c.requires.no_key;
  rows = rows-start _ _ c.requires.no_key c.requires.no_row;
  new_places = refl;
  rooms = record { key_room = refl; row_room = refl };
}

abbrev at : (g : Over) (c : In-Some g)
    → FollowsNext c.args.keys.now.order c.loop-following.following c.loop-following.copies c.in-Some.place
at g c = follows_next c.len-len.ensures.sound.distinct c.loop-following.invariant.copying c.in-Some.place c.in-Some.is

pub next_listed_place-following-requires : goal.next_listed_place-following-requires
next_listed_place-following-requires g c = (at g c).listed

pub clone_key-requires : goal.clone_key-requires
clone_key-requires g c =
    let w = c.loop-following.invariant in
    let a = at g (goal.at.clone_key-requires g c).In-Some in
    record {
      listed = a.listed;
      ranked = λ l is. c.requires.ranked c.in-Some.place l a.listed is;
      rows = w.rows.listed;
      key_room = omega (arith, a.fewer, w.rooms.key_room, c.requires.room);
      row_room = omega (arith, a.fewer, w.rows.counted, w.rooms.row_room, c.requires.room);
      within = omega (arith, w.new_places, c.requires.within c.in-Some.place a.listed);
    }

pub loop-following-smaller : goal.loop-following-smaller
loop-following-smaller g c =
    (at g (goal.at.loop-following-smaller g c).In-Some).smaller c.next_listed_place-following.result c.next_listed_place-following.ensures

pub loop-following-preserved : goal.loop-following-preserved
loop-following-preserved g c =
    let w = c.loop-following.invariant in
    let m = c.in_ok-clone_key.ensures.copied in
    let a = at g (goal.at.loop-following-preserved g c).In-Some in
    record {
      copying =
          keys-step c.len-len.ensures.sound.distinct c.in-Some.place c.in-Some.is
          c.next_listed_place-following.result c.next_listed_place-following.ensures w.copying m
          (omega (arith, w.new_places, c.requires.within c.in-Some.place a.listed));
      rows = rows-step m.adds.pushed m.adds.rows_are w.rows;
      new_places = ap length m.new_places_are ∙ length-set _ _ _ ∙ w.new_places;
      rooms = record {
        key_room = c.clone_key.ensures.rooms.key_room ∙ w.rooms.key_room;
        row_room = c.clone_key.ensures.rooms.row_room ∙ w.rooms.row_room;
      };
    }

pub returns-clause-copied : goal.returns-clause-copied
returns-clause-copied g c = copying-end c.loop-following.invariant.copying c.in_default.is
