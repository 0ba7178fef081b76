-- From the bytes that were read to the bytes that are written.
use Rattle.std.specs.Prelude.{◌≡◌, ℕ, ℤ, Bool, List, nat_eq, int_le}
use Rattle.ordered_multimap.specs.Lists.{Lists, empty_lists}
use Rattle.multimap_tool.specs.declared.commands.Command.{Command}
use Rattle.multimap_tool.specs.declared.replies.Reply.{Reply}
use Rattle.multimap_tool.specs.Runs.{IsRun}
use Rattle.multimap_tool.specs.Spelling.{lines_of, SpellEach}
use Rattle.multimap_tool.specs.Texts.{text_of}

-- the program keeps a pair if its value is the command's or more, and leaves the value as it is
abbrev pub keeps_at_least : ℤ → ℕ → ℤ → Bool → ℤ → Type 0
keeps_at_least least k v b w = (b ≡ int_le least v) × (w ≡ v)

-- the text has the replies to the commands that the lines spell, run on empty lists
pub record IsAnsweredBy (A : Type 0) (bytes text : List ℕ) : Type 0 where
  pub commands : List (Command ℕ ℤ A)
  pub replies : List (Reply ℕ ℤ A)
  pub last : Lists ℕ ℤ
  pub spelled : SpellEach commands (lines_of bytes)
  pub run : IsRun keeps_at_least nat_eq commands empty_lists replies last
  pub replied : text ≡ text_of replies
