use Rattle.std.proofs.Common.{ℕ, List, length}
use Rattle.config_reader.specs.Blocks.{IsKept}
use Rattle.config_reader.specs.Lines.{IsReadTo}
use Rattle.config_reader.specs.Written.{texts_of}
use Rattle.config_reader.proofs.reader.Reader.read_items.Given as goal

abbrev pub invariant-loop-part : goal.invariant-loop-part
invariant-loop-part l =
    ((all : List ℕ)
    → IsReadTo (texts_of l.initial.config.lists.pairs) l.initial.self.between.now l.initial.self.rest.now all
    → IsReadTo (texts_of l.config.lists.pairs) l.self.between.now l.self.rest.now all)
    × (IsKept l.initial.self l.initial.self.rank l.initial.config.lists
    → IsKept l.self l.self.rank l.config.lists)

abbrev pub decreases-loop-part : goal.decreases-loop-part
decreases-loop-part l = length l.self.rest.now
