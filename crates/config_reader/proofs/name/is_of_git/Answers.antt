use Rattle.std.proofs.Common.{◌≡◌, refl, rules, tests}
use Rattle.std.specs.List.{list_any}
use Rattle.std.proofs.lemmas.Iterator.{YieldsList-from_slice}
use Rattle.std.proofs.lemmas.Iterator.Search.{any_from_yields_List}
use Rattle.config_reader.specs.Names.{is_outside_git}
use Rattle.config_reader.proofs.name.is_of_git.Goals as goal

pub returns : goal.returns
returns c =
    let text = c.args.text.now in
    let any : c.any.result ≡ list_any is_outside_git text =
    any_from_yields_List is_outside_git _ _ _ c.any.ensures.ran (YieldsList-from_slice text (search rules)) (λ x b q k. search (rules, tests)) in
    rw any refl
