use denote.Shadow.{shadow}
use denote.Text.{Utf8}
use Rattle.config_reader.specs.Blocks.{IsBlank}
use Rattle.config_reader.specs.Names.{Lacks}
use Rattle.config_reader.proofs.change.usual_indent.Given as goal

-- the indent so far is one, and a text
abbrev pub invariant-loop-name : goal.invariant-loop-name
invariant-loop-name l = IsBlank l.indent × Lacks 10 l.indent × shadow (Utf8 l.indent)
