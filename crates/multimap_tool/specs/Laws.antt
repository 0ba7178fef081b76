-- Laws of steps and runs, as statements on all commands.
use Rattle.std.specs.Prelude.{◌≢◌, Bool}
use Rattle.ordered_multimap.specs.Lists.{Lists, IsWellFormed}
use Rattle.ordered_multimap.specs.Keys.{KeepsKeyOrder}
use Rattle.multimap_tool.specs.declared.commands.Command.{Command}
use Rattle.multimap_tool.specs.declared.commands.Command.TheVariants.{Json}

-- well-formed lists, whose keys keep the order of those before, which the JSON command alone may
-- change
pub record IsOrderly {K V A : Type 0} (eq : K → K → Bool) (command : Command K V A)
    (m n : Lists K V) : Type 0 where
  pub well_formed : IsWellFormed eq n
  pub key_order : command ≢ Json → KeepsKeyOrder eq m.keys n.keys
