use Rattle.std.proofs.Common.{rules}
use Rattle.config_reader.proofs.Values.{backslash_character, feed_character, other_character_written, quote_character, tab_character}
use Rattle.config_reader.proofs.value.add_character.Goals as goal

pub returns-in-34 : goal.returns-in-34
returns-in-34 c = rw (c.in-34.is, quote_character) (search rules)

pub returns-in-92 : goal.returns-in-92
returns-in-92 c = rw (c.in-92.is, backslash_character) (search rules)

pub returns-in-10 : goal.returns-in-10
returns-in-10 c = rw (c.in-10.is, feed_character) (search rules)

pub returns-in-9 : goal.returns-in-9
returns-in-9 c = rw (c.in-9.is, tab_character) (search rules)

pub returns-in_default : goal.returns-in_default
returns-in_default c =
    rw (other_character_written c.args.character (search rules) (search rules) (search rules) (search rules)) (search rules)
