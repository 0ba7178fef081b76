use Rattle.std.proofs.Common.{◌≡◌, ◌++◌, length, rules, subst, sym}
use Rattle.std.proofs.lemmas.Str.{IsUtf8-had}
use Rattle.std.specs.Prelude.{IsUtf8, codes}
use Rattle.std.specs.String.{string_bytes}
use Rattle.config_reader.specs.Blocks.{AreSetting}
use Rattle.config_reader.specs.Values.{written}
use Rattle.config_reader.specs.Written.{line_of}
use Rattle.config_reader.proofs.Spelled.{written_setting}
use Rattle.config_reader.proofs.change.setting.Goals as goal

pub returns-clause-reads : goal.returns-clause-reads
returns-clause-reads c = λ blank one_line allowed.
    let indent = c.args.indent.now in
    let key = c.args.key.0.now in
    let value = c.args.value.now in
    let text : string_bytes c.push.new.self ≡ line_of (indent ++ key ++ codes " = " ++ written value) = search rules in
    let key_utf8 : IsUtf8 key = subst IsUtf8 (search rules) c.as_str.utf8 in
    subst (λ t. AreSetting t key value (length indent)) (sym text)
    (written_setting indent key value blank one_line c.utf8.indent key_utf8 (subst IsUtf8 text (IsUtf8-had _ c.push.new.self.ok)) allowed)

pub returns-clause-is_setting : goal.returns-clause-is_setting
returns-clause-is_setting c = search rules
