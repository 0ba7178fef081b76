use Rattle.std.proofs.Common.{◌≡◌, ◌++◌}
use Rattle.std.specs.List.{flat_map}
use Rattle.std.specs.Str.Iter.{chars_rest}
use Rattle.std.specs.String.{string_bytes}
use Rattle.config_reader.specs.Values.{quoted_byte}
use Rattle.config_reader.proofs.value.add_characters.Given as goal

abbrev pub invariant-loop-character : goal.invariant-loop-character
invariant-loop-character l =
    string_bytes l.text ++ flat_map quoted_byte (chars_rest l.character-iterator)
    ≡ string_bytes l.fn.text ++ flat_map quoted_byte l.value
