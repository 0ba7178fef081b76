-- A text that is read, and a command that is carried out on it.
use Rattle.std.proofs.Common.{◌≡◌, ℕ, List, ◌++◌, sym, ap, ◌∙◌}
use Rattle.ordered_multimap.specs.Lists.{Lists, empty_lists}
use Rattle.config_reader.specs.declared.command.Command.{Command}
use Rattle.config_reader.specs.declared.config.Lines.{Lines}
use Rattle.config_reader.specs.declared.name.Name.{Name}
use Rattle.config_reader.specs.Blocks.{IsConfig}
use Rattle.config_reader.specs.Changed.{CarriesOut, HasRoom, KeepsConfig, Leaves, SaysSettings}
use Rattle.config_reader.specs.Lines.{lined}
use Rattle.config_reader.specs.Said.{text_says}
use Rattle.config_reader.specs.Written.{texts_of}
use Rattle.config_reader.proofs.Chain.{text_read}

says : (m : Lists Name Lines) → IsConfig m → SaysSettings m
says m config = text_read m.pairs config.end config.read

pub carried : (text : List ℕ) (command : Command) (first read new : Lists Name Lines) → first ≡ empty_lists
    → IsConfig read → HasRoom read → texts_of read.pairs ≡ texts_of first.pairs ++ lined text
    → Leaves command read new → KeepsConfig command read new → CarriesOut text command new
carried text command first read new none config room texts leaves keeps =
    let all : texts_of read.pairs ≡ lined text = texts ∙ ap (λ m. texts_of m.pairs ++ lined text) none in
    record {
      read = read;
      texts = all;
      says = ap text_says (sym all) ∙ says read config;
      leaves = leaves;
      read_again = λ is. says new (keeps is room config);
    }
