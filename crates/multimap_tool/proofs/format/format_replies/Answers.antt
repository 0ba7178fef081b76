use Rattle.std.specs.String.{string_bytes}
use Rattle.multimap_tool.specs.Texts.{text_of}
use Rattle.multimap_tool.proofs.Texts.Formatted.{replies_on, replies_done}
use Rattle.multimap_tool.proofs.format.format_replies.Goals as goal

pub loop-reply-preserved : goal.loop-reply-preserved
unfolding lib.Utf8.encode
loop-reply-preserved g c =
    let l = c.loop-reply in
    rw (c.in_ok-push.ensures.bytes, c.in_ok-push_reply.ensures.ok)
    (replies_on c.args.replies.now l.reply-index c.reply-item.result (string_bytes l.text)
    (text_of c.args.replies.now) c.loop-reply-test.true c.reply-item.is l.invariant)

pub returns : goal.returns
returns g c =
    let l = c.loop-reply in
    record {
      ok = rw c.into_bytes.ensures.value (replies_done c.args.replies.now l.reply-index (string_bytes l.text)
          (text_of c.args.replies.now) c.loop-reply-test.false l.invariant);
    }
