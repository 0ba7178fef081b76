use Rattle.std.proofs.Common.{◌∙◌, sym}
use Rattle.ordered_multimap.proofs.Clone.Passing.{passing-listed, passing-smaller}
use Rattle.ordered_multimap.proofs.Compact.LoweredKeys.{lowering-end, lowering-follows, lowering-listed, lowering-next, lowering-same}
use Rattle.ordered_multimap.proofs.Compact.LoweredKeys.{lowering-start, lowering-step}
use Rattle.ordered_multimap.proofs.list_ordered_multimap.compact.lowering.lower_keys.Goals as goal

pub loop-following-init : goal.loop-following-init
loop-following-init g c = lowering-start _ c.front_place-following.ensures

pub lower_key-requires : goal.lower_key-requires
lower_key-requires g c =
    let w = c.loop-following.invariant in
    let distinct = c.len-len.ensures.sound.distinct in
    record {
      listed = lowering-listed distinct w c.in-Some.place c.in-Some.is;
      high = λ l is. c.requires.high c.in-Some.place l (passing-listed distinct w.passed c.in-Some.place c.in-Some.is)
          (sym (lowering-same distinct w c.in-Some.place c.in-Some.is) ∙ is);
    }

pub next_listed_place-following-requires : goal.next_listed_place-following-requires
next_listed_place-following-requires g c =
    let sound = c.len-len.ensures.sound in
    let w = c.loop-following.invariant in
    let listed = passing-listed sound.distinct w.passed c.in-Some.place c.in-Some.is in
    lowering-next sound.distinct w c.in-Some.place c.in-Some.is (sound.linked c.in-Some.place listed) c.lower_key.ensures

pub loop-following-smaller : goal.loop-following-smaller
loop-following-smaller g c =
    let sound = c.len-len.ensures.sound in
    let w = c.loop-following.invariant in
    let listed = passing-listed sound.distinct w.passed c.in-Some.place c.in-Some.is in
    passing-smaller sound.distinct w.passed c.in-Some.place c.in-Some.is _
    (lowering-follows sound.distinct w c.in-Some.place c.in-Some.is (sound.linked c.in-Some.place listed) c.lower_key.ensures _
    c.next_listed_place-following.ensures)

pub loop-following-preserved : goal.loop-following-preserved
loop-following-preserved g c =
    let sound = c.len-len.ensures.sound in
    let w = c.loop-following.invariant in
    let listed = passing-listed sound.distinct w.passed c.in-Some.place c.in-Some.is in
    lowering-step sound.distinct w c.in-Some.place c.in-Some.is (sound.linked c.in-Some.place listed) c.lower_key.ensures _
    c.next_listed_place-following.ensures

pub returns : goal.returns
returns g c = lowering-end c.loop-following.invariant c.in_default.is
