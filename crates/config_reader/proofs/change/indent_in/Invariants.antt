use Rattle.std.proofs.Common.{◌≡◌, None, length, option_map}
use Rattle.std.specs.Option.{IfSome}
use Rattle.config_reader.specs.Blocks.{IsBlank}
use Rattle.config_reader.specs.Changed.{last_indent}
use Rattle.config_reader.specs.Names.{Lacks}
use Rattle.config_reader.proofs.change.indent_in.Given as goal

-- the last indent so far, and then those that are left
abbrev pub invariant-loop-name : goal.invariant-loop-name
invariant-loop-name l =
    (last_indent l.rank l.name-iterator (option_map (λ indent. length indent.now) l.indent)
    ≡ last_indent l.rank l.fn.config.lists.pairs None)
    × IfSome l.indent (λ indent. IsBlank indent.now × Lacks 10 indent.now)
