use Rattle.std.proofs.Common.{◌≡◌, true, refl, rules, tests}
use Rattle.std.specs.List.{list_any}
use Rattle.std.specs.Str.{chars}
use Rattle.std.proofs.lemmas.Iterator.{YieldsList-from_chars}
use Rattle.std.proofs.lemmas.Iterator.Search.{any_from_yields_List}
use Rattle.ordered_multimap.specs.Pairs.{has_items}
use Rattle.config_reader.specs.Names.{is_outside_key}
use Rattle.config_reader.proofs.Called.{some_items}
use Rattle.config_reader.proofs.name.is_key.Goals as goal

pub returns : goal.returns
returns c =
    let text = c.args.text.now in
    let some : has_items text ≡ true = some_items text (search rules) in
    let any : c.any.result ≡ list_any is_outside_key (chars text) =
    any_from_yields_List is_outside_key _ _ _ c.any.ensures.ran (YieldsList-from_chars text c.utf8.text cc) (λ x b q k. search (rules, tests)) in
    rw (some, any) refl

pub returns-then-is_empty : goal.returns-then-is_empty
returns-then-is_empty c = search rules
