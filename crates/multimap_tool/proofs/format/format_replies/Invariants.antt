use Rattle.std.proofs.Common.{◌≡◌, ◌++◌, drop}
use Rattle.std.specs.String.{string_bytes}
use Rattle.multimap_tool.specs.Texts.{text_of}
use Rattle.multimap_tool.proofs.format.format_replies.Given as goal

-- the text so far, and that of the replies to come
abbrev pub invariant-loop-reply : goal.invariant-loop-reply
invariant-loop-reply g l = string_bytes l.text ++ text_of (drop l.reply-index l.replies) ≡ text_of l.replies
