use Rattle.std.proofs.Common.{ℕ, List, length}
use Rattle.ordered_multimap.specs.Lists.{Lists}
use Rattle.header_store.specs.declared.field.Field.{Field}
use Rattle.header_store.specs.declared.name.Name.{Name}
use Rattle.header_store.specs.Message.{IsReadAs}
use Rattle.header_store.proofs.message.read_headers.Given as goal

-- what is read of the rest is read of the text
abbrev pub invariant-loop-rest : goal.invariant-loop-rest
invariant-loop-rest l =
    (rest : List ℕ) (new : Lists Name Field) → IsReadAs l.rest l.headers.lists rest new
    → IsReadAs l.fn.text l.fn.headers.lists rest new

abbrev pub decreases-loop-rest : goal.decreases-loop-rest
decreases-loop-rest l = length l.rest
