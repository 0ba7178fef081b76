-- The step of a command that reads the map back: another map comes in the place.
use Rattle.std.proofs.Common.{◌≡◌, Bool}
use Rattle.ordered_multimap.specs.Multimap.{Multimap}
use Rattle.multimap_tool.specs.declared.commands.Command.{Command}
use Rattle.multimap_tool.specs.declared.commands.Command.TheVariants.{Json, Json2}
use Rattle.multimap_tool.specs.declared.replies.Reply.TheVariants.{Done}
use Rattle.multimap_tool.specs.RunRooms.{KeepsRoom}
use Rattle.multimap_tool.specs.MapRuns.{FindsItsRoom, MakesItsRoom, MakesUnused}
use Rattle.multimap_tool.specs.Step.{IsOwnStep, Rereads}
use Rattle.multimap_tool.specs.Private.MapSteps.{IsOwnMapStep}

module _ {K V A S : Type 0} (eq : K → K → Bool) (state_clone : S → S → Type 0) (m n : Multimap K V S) where
  -- a command that promises nothing of the rooms is done
  done : (command : Command K V A) → (KeepsRoom command → ⊥) → FindsItsRoom eq command m Done → MakesItsRoom command n Done
      → (MakesUnused command → ⊥) → IsOwnStep eq command m.lists Done n.lists
      → (((s c : S) → state_clone s c → c ≡ s) → n.hasher ≡ m.hasher) → IsOwnMapStep eq state_clone command m n Done
  done command rooms finds makes unused step hasher = record {
    step = step;
    hasher = hasher;
    rooms = λ keeps. absurd (rooms keeps);
    finds_room = finds;
    makes_room = makes;
    unused = λ is. absurd (unused is);
  }

  pub read_anew : (command : Command K V A) → Rereads command → IsOwnStep eq command m.lists Done n.lists
      → (((s c : S) → state_clone s c → c ≡ s) → n.hasher ≡ m.hasher) → IsOwnMapStep eq state_clone command m n Done
  read_anew Json reads = done Json (λ never. never) tt tt (λ never. never)
  read_anew Json2 reads = done Json2 (λ never. never) tt tt (λ never. never)
  read_anew _ reads = absurd reads
