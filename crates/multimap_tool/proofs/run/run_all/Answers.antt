use Rattle.std.proofs.Common.{[], ◌∷◌, ◌++◌, length, length-append, take, refl, sym, ◌∙◌, ap, subst, arith}
use Rattle.std.specs.Prelude.{Contains}
use Rattle.std.proofs.lemmas.List.{take_more, take_all}
use Rattle.multimap_tool.specs.MapRuns.{IsMapRun}
use Rattle.multimap_tool.specs.Runs.{IsRun}
use Rattle.multimap_tool.specs.RunRooms.{FindsRoom, HasRunRoom}
use Rattle.multimap_tool.proofs.Running.Rooms.{GrowsByOne, step_grows, FindsRoom-push, addition_finds}
use Rattle.multimap_tool.proofs.Running.Runs.{IsRun-push, IsMapRun-push}
use Rattle.multimap_tool.proofs.run.run_all.Goals as goal

pub loop-command-init : goal.loop-command-init
loop-command-init g c = record {
  ran = subst (λ replies. IsRun (g.F.Keep.answers c.args.keep.now) g.K.PartialEq.eq [] c.args.map.now.lists replies c.args.map.now.lists)
      (sym c.requires.empty) refl;
  stepped = subst
      (λ replies. IsMapRun (g.F.Keep.answers c.args.keep.now) g.K.PartialEq.eq g.S.Clone.is_clone [] c.args.map.now replies c.args.map.now)
      (sym c.requires.empty) refl;
  hasher = λ same. refl;
  keys = λ room. omega (arith, room.keys);
  values = λ room. omega (arith, room.values);
  found = λ room. subst (FindsRoom []) (sym c.requires.empty) tt;
  count = ap length c.requires.empty;
  room = c.requires.capacity;
}

pub step-requires : goal.step-requires
step-requires g c =
    let l = c.loop-command in
    c.requires.steps c.command-item.result (l.command-index, c.loop-command-test.true, sym c.command-item.is)

pub loop-command-preserved : goal.loop-command-preserved
loop-command-preserved g c =
    let l = c.loop-command in
    let done = take l.command-index c.args.commands.now in
    let command = c.command-item.result in
    let more = take_more c.args.commands.now l.command-index command c.loop-command-test.true
    ∙ ap (λ x. done ++ x ∷ []) (sym c.command-item.is) in
    let here : Contains c.args.commands.now command = (l.command-index, c.loop-command-test.true, sym c.command-item.is) in
    let keeps = g.F.Keep.answers c.args.keep.now in
    let longer = ap length c.push_reserved.ensures.items ∙ length-append l.replies.items (c.step.result ∷ []) in
    let grows : HasRunRoom c.args.commands.now c.args.map.now
    → GrowsByOne l.map.lists c.step.new.map.lists = λ room. step_grows keeps g.K.PartialEq.eq command l.map.lists c.step.result
    c.step.new.map.lists (room.keep command here) c.step.ensures.step in
    record {
      ran = rw (more, c.push_reserved.ensures.items)
          (IsRun-push keeps g.K.PartialEq.eq done c.args.map.now.lists l.replies.items l.map.lists command c.step.result
          c.step.new.map.lists l.invariant.ran c.step.ensures.step);
      stepped = rw (more, c.push_reserved.ensures.items)
          (IsMapRun-push keeps g.K.PartialEq.eq g.S.Clone.is_clone done c.args.map.now l.replies.items l.map command c.step.result
          c.step.new.map l.invariant.stepped c.step.ensures);
      hasher = λ same. c.step.ensures.hasher same ∙ l.invariant.hasher same;
      keys = λ room. omega (arith, (grows room).keys, l.invariant.keys room, (c.step.ensures.rooms (room.keep command here)).keys);
      values = λ room. omega (arith, (grows room).pairs, l.invariant.values room, (c.step.ensures.rooms (room.keep command here)).values);
      found = λ room. rw (more, c.push_reserved.ensures.items)
          (FindsRoom-push done l.replies.items command c.step.result (l.invariant.found room)
          (λ adds. addition_finds g.K.PartialEq.eq l.map c.step.result command c.step.ensures.finds_room adds
          (omega (arith, l.invariant.keys room, c.loop-command-test.true))
          (omega (arith, l.invariant.values room, c.loop-command-test.true))));
      count = omega (arith, l.invariant.count, longer);
      room = omega (arith, l.invariant.room, c.push_reserved.ensures.capacity);
    }

pub returns-clause-ok : goal.returns-clause-ok
returns-clause-ok g c =
    let l = c.loop-command in
    subst (λ done. IsRun (g.F.Keep.answers c.args.keep.now) g.K.PartialEq.eq done c.args.map.now.lists l.replies.items l.map.lists)
    (take_all l.command-index c.args.commands.now c.loop-command-test.false) l.invariant.ran

pub returns-clause-steps : goal.returns-clause-steps
returns-clause-steps g c =
    let l = c.loop-command in
    let answers = g.F.Keep.answers c.args.keep.now in
    subst (λ done. IsMapRun answers g.K.PartialEq.eq g.S.Clone.is_clone done c.args.map.now l.replies.items l.map)
    (take_all l.command-index c.args.commands.now c.loop-command-test.false) l.invariant.stepped

pub returns-clause-room : goal.returns-clause-room
returns-clause-room g c =
    let l = c.loop-command in
    λ room. subst (λ done. FindsRoom done l.replies.items) (take_all l.command-index c.args.commands.now c.loop-command-test.false)
    (l.invariant.found room)
