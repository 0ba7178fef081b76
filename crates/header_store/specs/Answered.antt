-- What commands write.
use Rattle.std.specs.Prelude.{ℕ, List, [], ◌++◌, Option, Some, None, codes, if◌then◌else◌, map}
use Rattle.ordered_multimap.specs.Lists.{Lists}
use Rattle.ordered_multimap.specs.Pairs.{is_present, values_of}
use Rattle.header_store.specs.declared.command.Command.{Command}
use Rattle.header_store.specs.declared.command.Command.TheVariants.{Headers, Names, Show, Write}
use Rattle.header_store.specs.declared.field.Field.{Field}
use Rattle.header_store.specs.declared.command.Form.{Form}
use Rattle.header_store.specs.declared.message.Frame.{Frame}
use Rattle.header_store.specs.declared.name.Name.{Name}
use Rattle.header_store.specs.Changed.{label_of, same_name}
use Rattle.header_store.specs.Fields.{value_of}
use Rattle.header_store.specs.Written.{header_lines, line_of, listed, name_lines, shown, start_text}

-- the request or status line, if there is one, and all headers in order, as they stand; what has no
-- end yet, and what a command wrote, gets this one
abbrev pub message_of : List ℕ → List ℕ → Lists Name Field → List ℕ
message_of line_end start m = start_text line_end start ++ header_lines line_end m.pairs

-- the name's values in this form, each line with the label in front
abbrev pub values_shown :
    Form → Option Name → Name → Lists Name Field → List ℕ
values_shown form label name m =
    shown form (label_of label) (map value_of (values_of same_name m.pairs name))

-- that no header has the name
abbrev pub absence : Name → List ℕ
absence name = codes "no " ++ line_of name.text.0.now

-- the name's values with the name in front of each line, or that there are none
abbrev pub values_or_absence : Form → Name → Lists Name Field → List ℕ
values_or_absence form name m =
    if is_present same_name m.pairs name then values_shown form (Some name) name m
    else absence name

-- what a command shows: values, names, all headers, or nothing
abbrev pub listed_of : Command → Lists Name Field → List ℕ
listed_of Names m = name_lines m.keys
listed_of Headers m = listed m.pairs
listed_of _ m = []

-- what a line's command writes: what it shows, the whole message, or nothing
abbrev pub answer_of : Frame → Command → Lists Name Field → List ℕ
answer_of frame (Show name form) m = values_or_absence form name m
answer_of frame Write m = message_of frame.line_end.now frame.start.now m
answer_of frame command m = listed_of command m

-- what the command of a program's arguments writes: what it shows, or else the message, between the
-- byte order mark and what stands behind the headers
abbrev pub output_of : Frame → Command → Lists Name Field → List ℕ
output_of frame (Show name form) m = values_shown form None name m
output_of frame Names m = name_lines m.keys
output_of frame Headers m = listed m.pairs
output_of frame _ m =
    frame.mark.now ++ message_of frame.line_end.now frame.start.now m ++ frame.rest.now
