-- What the step of a command is to the whole map, and what it asks. No public clause cites this
-- module.
use Rattle.std.specs.Prelude.{◌≡◌, Bool}
use Rattle.serde_json.specs.Data.{Data}
use Rattle.ordered_multimap.specs.End.{End}
use Rattle.ordered_multimap.specs.End.TheVariants.{Front, Back}
use Rattle.ordered_multimap.specs.Multimap.{Multimap}
use Rattle.ordered_multimap.specs.Rooms.{KeepsRooms}
use Rattle.multimap_tool.specs.declared.commands.Command.{Command}
use Rattle.multimap_tool.specs.declared.commands.Command.TheVariants.{Retain, SetBack, SetFront}
use Rattle.multimap_tool.specs.declared.replies.Reply.{Reply}
use Rattle.multimap_tool.specs.Json.{DifferAsJson}
use Rattle.multimap_tool.specs.MapRuns.{FindsItsRoom, MakesItsRoom, IsMapStep}
use Rattle.multimap_tool.specs.Runs.{ClonesAreSame}
use Rattle.multimap_tool.specs.Step.{IsStep, Rereads}

-- the command that writes the value of the pair at an end
abbrev pub sets_end : {K V A : Type 0} → End → V → Command K V A
sets_end Front v = SetFront v
sets_end Back v = SetBack v

-- what a command asks that is run: its function may be called, and where it reads the map anew,
-- different keys and values differ as JSON
pub record CanStep {K V A : Type 0} (MayCall : V → Type 0) (key_clone : K → K → Type 0)
    (value_clone : V → V → Type 0) (key_json : K → Data) (value_json : V → Data)
    (command : Command K V A) : Type 0 where
  pub callable : (operand : V) → command ≡ Retain operand → MayCall operand
  pub clones : ClonesAreSame key_clone value_clone
  pub parts : Rereads command → DifferAsJson key_json value_json

module _ {K V : Type 0} (keeps : V → K → V → Bool → V → Type 0) (eq : K → K → Bool)
    {A S : Type 0} where
  -- the step of a command that leaves the map in its place, and lowers no room
  pub record IsStepInPlace (command : Command K V A) (old new : Multimap K V S)
      (reply : Reply K V A) : Type 0 where
    pub step : IsStep keeps eq command old.lists reply new.lists
    pub rooms : KeepsRooms old new
    pub finds_room : FindsItsRoom eq command old reply
    pub makes_room : MakesItsRoom command new reply

-- the same where no function is called
abbrev pub IsOwnStepInPlace : {K : Type 0} (eq : K → K → Bool) {V A S : Type 0} → Command K V A
    → Multimap K V S → Multimap K V S → Reply K V A → Type 0
IsOwnStepInPlace eq = IsStepInPlace (λ x k v b w. ⊥) eq

abbrev pub IsOwnMapStep : {K : Type 0} (eq : K → K → Bool) {V A S : Type 0} → (S → S → Type 0)
    → Command K V A → Multimap K V S → Multimap K V S → Reply K V A → Type 0
IsOwnMapStep eq = IsMapStep (λ x k v b w. ⊥) eq
