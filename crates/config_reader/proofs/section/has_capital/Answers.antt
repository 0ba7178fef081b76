use Rattle.std.proofs.Common.{rules, tests}
use Rattle.std.specs.Char.{is_ascii_uppercase}
use Rattle.std.proofs.lemmas.Iterator.{YieldsList-from_slice}
use Rattle.std.proofs.lemmas.Iterator.Search.{any_from_yields_List}
use Rattle.config_reader.proofs.section.has_capital.Goals as goal

pub returns : goal.returns
returns c =
    any_from_yields_List is_ascii_uppercase _ _ _ c.any.ensures.ran (YieldsList-from_slice c.args.text.now (search rules)) (λ x b q k. search (rules, tests))
