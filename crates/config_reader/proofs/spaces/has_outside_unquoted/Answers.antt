use Rattle.std.proofs.Common.{rules, tests}
use Rattle.std.proofs.lemmas.Iterator.{YieldsList-from_slice}
use Rattle.std.proofs.lemmas.Iterator.Search.{any_from_yields_List}
use Rattle.config_reader.specs.Sections.{is_outside_unquoted}
use Rattle.config_reader.proofs.spaces.has_outside_unquoted.Goals as goal

pub returns : goal.returns
returns c =
    any_from_yields_List is_outside_unquoted _ _ _ c.any.ensures.ran (YieldsList-from_slice c.args.text.now (search rules))
    (λ x b q k. search (rules, tests))
