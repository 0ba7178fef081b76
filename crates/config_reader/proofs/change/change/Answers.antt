use Rattle.std.proofs.Common.{rules}
use Rattle.std.proofs.Common.{◌∙◌, ap, subst, sym}
use Rattle.std.proofs.lemmas.Result.{on_ok_weaker}
use Rattle.ordered_multimap.specs.Pairs.{is_present}
use Rattle.config_reader.specs.Blocks.{IsConfig}
use Rattle.config_reader.specs.Names.{same_name}
use Rattle.config_reader.proofs.Adding.{adds_read, sets_read}
use Rattle.config_reader.proofs.ReadBack.{absent_removed, set_alone}
use Rattle.config_reader.proofs.Removed.{removed_read}
use Rattle.config_reader.proofs.Replaced.{has_key}
use Rattle.config_reader.proofs.change.change.Goals as goal

pub returns-in-Set-clause-read_back : goal.returns-in-Set-clause-read_back
returns-in-Set-clause-read_back c =
    rw c.in-Set.is (on_ok_weaker c.set.result (set_alone _ _ _ _) c.set.ensures)

pub returns-in-Unset-clause-read_back : goal.returns-in-Unset-clause-read_back
returns-in-Unset-clause-read_back c =
    rw c.in-Unset.is
    (ap (λ m. is_present same_name m.pairs c.in-Unset.name) c.unset.ensures
    ∙ absent_removed c.in-Unset.name c.args.config.now.lists)

pub returns-in-Set-clause-leaves : goal.returns-in-Set-clause-leaves
returns-in-Set-clause-leaves c = search rules

pub returns-in-Unset-clause-keeps : goal.returns-in-Unset-clause-keeps
returns-in-Unset-clause-keeps c =
    rw c.in-Unset.is
    (λ is room config. subst IsConfig (sym c.unset.ensures)
    (removed_read c.in-Unset.name c.args.config.now.lists (has_key c.in-Unset.name is.0) config))

pub returns-in-Set-clause-keeps : goal.returns-in-Set-clause-keeps
returns-in-Set-clause-keeps c =
    rw c.in-Set.is (on_ok_weaker c.set.result (sets_read _ _ _ _) c.set.ensures)

pub returns-in-Add-clause-keeps : goal.returns-in-Add-clause-keeps
returns-in-Add-clause-keeps c =
    rw c.in-Add.is (on_ok_weaker c.add.result (adds_read _ _ _ _) c.add.ensures)
